-- A run between two phases (`HasRun`): which phases were printed, all of them legal, and what
-- stands behind them (`Rests`). Which setups (`IsFew`) and which lines of a phase (`CanPlay`) can
-- be run.
-- Lines of scripts are read backwards, those of `CanPlay` are in their order.
-- From: own.
-- Example: a new runner has run nothing, and its static protocols are still to start.
use Rattle.std.specs.Prelude.{◌≡◌, ◌≤◌, ◌<◌, ◌^◌, ℕ, List, length, ⊤}
use Rattle.std.specs.List.{All}
use Rattle.attrs.specs.declared.judge.Verdict.{Verdict}
use Rattle.attrs.specs.declared.route.Route.{Route}
use Rattle.bits_ip.specs.Prefix.{Net}
use Rattle.core_machine.specs.Legal.{AreLegal, Printed, nothing}
use Rattle.core_machine.specs.Lines as machine
use Rattle.core_setup.specs.Channels.{channels}
use Rattle.core_setup.specs.Protocols.{rules_of, starts}
use Rattle.core_setup.specs.Reports.{AreReports, protocol_names}
use Rattle.core_setup.specs.Setup.{Setup}
use Rattle.report.specs.declared.phase.PhaseReport.{PhaseReport}
use Rattle.room_first.specs.Sent.{lent_by, sent_by}
use Rattle.room_open.specs.Standing.{Stands}
use Rattle.room_report.specs.Described.{AreLogged}
use Rattle.room_ends.specs.Played.{starts_of}
use Rattle.room_whole.specs.Past.{HasPast}
use Rattle.script_lines.specs.declared.script.Line.{Line}
use Rattle.script_lines.specs.declared.script.Line.TheVariants as lines
use Rattle.sys_run.specs.Playing.{joined_all, starts_in}
use Rattle.sys_run.specs.Scripts.{FitsLine}
use Rattle.sys_threads.specs.Playing.{setup_lent, terms_of, turns_before}
use Rattle.sys_threads.specs.declared.playing.Playing.{Playing}
use Rattle.sys_threads.specs.declared.runner.Runner.{Runner}

-- ---- what can be run

-- a room has seats for all
pub record IsFew (setup : Setup) (actors : ℕ) : Type 0 where
  pub tables : length setup.tables ≤ 1024
  pub protocols : length setup.protocols ≤ 512
  pub channels : length (channels setup) ≤ 512
  pub cells : (0 < setup.cells) × (setup.cells ≤ 4096)
  pub seats : actors < 1024

-- the line is of one of so many actors, and names a protocol or a query that is there
abbrev pub NamesSome : ℕ → Setup → Line → Type 0
NamesSome actors setup (lines.Take channel count) = ⊤
NamesSome actors setup (lines.Push channel count) = ⊤
NamesSome actors setup (lines.Apply actor line protocol op) =
    (actor < actors) × (protocol < length setup.protocols)
NamesSome actors setup (lines.Show actor query) =
    (actor < actors) × (query < length setup.queries)

pub record CanPlay (setup : Setup) (actors : ℕ) (phase : List Line) : Type 0 where
  pub names : All (NamesSome actors setup) phase
  pub fits : All (FitsLine setup) phase
  -- a line's place is a number of 32 bits
  pub few : length phase < 2 ^ 32

-- ---- a run

module _ {J : Type 0} (verdict : J → Net → Route → Verdict) where
  -- a phase that comes next
  pub record IsNext (runner : Runner J) (played : Playing J) : Type 0 where
    pub parts : played.parts ≡ runner.parts
    pub actors : played.actors ≡ runner.actors
    pub earlier : played.earlier.value.items ≡ runner.earlier.items

  -- What stands is what was printed, and the next phase can begin with it.
  pub record Rests (setup : Setup) (actors : ℕ) (printed : List Printed) (runner : Runner J)
      : Type 0 where
    pub setup_is : setup_lent verdict runner.parts ≡ setup
    pub few : IsFew setup actors
    pub actors_are : runner.actors ≡ actors
    pub channels_are : runner.channels ≡ length (channels setup)
    pub names_are : runner.names.items ≡ protocol_names setup
    pub logged_are : AreLogged setup (joined_all nothing printed) runner.logged.items
    pub phases_are : length runner.earlier.items ≡ length printed
    pub starts_are : starts_of runner.statics.items ≡ starts_in setup (length printed)
    pub statics : All (λ (number : ℕ). number < length setup.protocols) runner.statics.items
    pub past : HasPast setup (joined_all nothing printed) runner.standing
    pub turns :
        turns_before setup.queries runner.earlier.items ≡ (joined_all nothing printed).ops
    pub stands :
        (played : Playing J) → IsNext runner played
        → Stands (lent_by verdict) (terms_of verdict played) (sent_by setup) runner.standing

  -- The runner has run these scripts, with these reports.
  pub record HasRun
      (setup : Setup) (actors : List (List ℕ)) (scripts : List (List machine.Line))
      (reports : List PhaseReport) (runner : Runner J) : Type 0 where
    pub printed : List Printed
    pub legal : AreLegal (rules_of setup) (starts setup) nothing scripts printed
    pub are : AreReports setup actors 1 nothing printed reports
    pub rests : Rests setup (length actors) printed runner
