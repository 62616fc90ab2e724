-- For private contracts alone: where a phase began, and what is reported at its end of the single
-- parts of a core.
use Rattle.std.specs.Prelude.{◌≡◌, ◌<◌, ◌≤◌, ◌+◌, ◌^◌, ◌++◌, ℕ, Bool, List, [], ◌∷◌, drop, is_some, length, map, Option, Some, None, option_map, slice_get, if◌then◌else◌}
use Rattle.std.specs.List.{AllByRecursion}
use Rattle.std.specs.declared.alloc.Global.{Global}
use Rattle.std.specs.declared.vec.Vec.{Vec}
use Rattle.bits_ip.specs.Prefix.{Net}
use Rattle.bits_ip.specs.declared.address.Family.{Family}
use Rattle.attrs.specs.declared.attributes.Attrs.{Attrs}
use Rattle.attrs.specs.declared.judge.Verdict.{Verdict}
use Rattle.attrs.specs.declared.route.Change.{Change}
use Rattle.attrs.specs.declared.route.Route.{Route}
use Rattle.attrs.specs.Table.{Shows}
use Rattle.export_core.specs.declared.log.Key.{Key}
use Rattle.export_core.specs.Histories.{change_of}
use Rattle.core_machine.specs.Channels as machine
use Rattle.core_machine.specs.Histories.{content_of}
use Rattle.core_machine.specs.Legal.{Joined}
use Rattle.core_machine.specs.Machine.{State}
use Rattle.core_machine.specs.Rules.{Rules}
use Rattle.core_setup.specs.Channels as setups
use Rattle.core_setup.specs.Pairs.{Pairs}
use Rattle.core_setup.specs.Setup.{Setup}
use Rattle.report.specs.declared.phase.ChannelReport.{ChannelReport}
use Rattle.report.specs.declared.phase.ExportReport.{ExportReport}
use Rattle.report.specs.declared.phase.JournalReport.{JournalReport}
use Rattle.report.specs.declared.phase.ModeReport.{ModeReport}
use Rattle.report.specs.declared.phase.ProtocolReport.{ProtocolReport}
use Rattle.report.specs.declared.phase.ProtocolState.{ProtocolState}
use Rattle.report.specs.declared.phase.ProtocolState.TheVariants as states
use Rattle.report.specs.declared.phase.ReplyReport.{ReplyReport}
use Rattle.report.specs.declared.phase.Standing.{Standing}
use Rattle.report.specs.declared.phase.TableReport.{TableReport}
use Rattle.run_tables.specs.Channels.{IsChannel, TellsStanding}
use Rattle.run_tables.specs.Tables.{IsTable}
use Rattle.run_tables.specs.declared.channel.Channel.{Channel}
use Rattle.run_tables.specs.declared.table.Table.{Table}
use Rattle.sys_run.specs.Cores.{IsCore}
use Rattle.sys_run.specs.declared.player.Core.{Core}
use Rattle.sys_run.specs.declared.parts.TableParts.{TableParts}
use Rattle.sys_run.specs.declared.phase.Begun.{Begun}
use Rattle.sys_run.specs.declared.player.Answered.{Answered}
use Rattle.sys_run.specs.declared.protocol.Body.{Body}
use Rattle.sys_run.specs.declared.protocol.Body.TheVariants.{Pipe, Source}
use Rattle.sys_run.specs.declared.protocol.Protocol.{Protocol}

-- the positions and the lengths of logs are those of what was printed before
pub record BeganAt (setup : Setup) (past : Joined) (begun : Begun) : Type 0 where
  pub heads :
      Pairs (λ n table head. head ≡ length (past.history n)) 0 setup.tables begun.heads.items
  pub logged :
      Pairs (λ c channel len. len ≡ length (past.logs c))
      0 (setups.channels setup) begun.logged.items

-- these are positions of the tables, and these lengths of fronts of the channels' logs
abbrev pub AreHeads : List Table → List ℕ → Type 0
AreHeads tables heads =
    Pairs (λ n (table : Table) head. head ≤ length table.entries.items) 0 tables heads

abbrev pub AreLogged : {J : Type 0} → List (Channel J) → List ℕ → Type 0
AreLogged {J} channels logged =
    Pairs (λ c (held : Channel J) len. len ≤ length held.exporter.log) 0 channels logged

-- the tables of replies are among so many
abbrev pub AreOfTables : ℕ → List Answered → Type 0
AreOfTables tables replies = AllByRecursion (λ (reply : Answered). reply.table < tables) replies

-- the name of the table of a number
abbrev pub name_at : ℕ → List TableParts → Option (List ℕ)
name_at number parts = option_map (λ (table : TableParts). table.name) (slice_get parts number)

module _ {J : Type 0} where
  -- how many items a channel's log has, and none before the first phase
  abbrev pub logged_in : Bool → Channel J → ℕ
  logged_in first held = if first then 0 else length held.exporter.log

  -- the report has the protocol's operations
  pub record IsOperationsOf
      (names : List (List ℕ)) (i : ℕ) (held : Protocol J) (report : ProtocolReport) : Type 0 where
    pub name : slice_get names i ≡ Some report.name
    pub ops : report.ops ≡ held.done.items

  -- the operations are forgotten
  pub record IsEmptied (i : ℕ) (held new : Protocol J) : Type 0 where
    pub body : new.body ≡ held.body
    pub from_is : new.from ≡ held.from
    pub upto_is : new.upto ≡ held.upto
    pub done : new.done.items ≡ []

  abbrev pub state_of : Body J → ProtocolState
  state_of (Source held) =
      states.Imports held.importer.imports.mode (length held.importer.imports.accepted)
  state_of (Pipe up) = states.Pipe up

  pub record IsModeOf
      (names : List (List ℕ)) (i : ℕ) (held : Protocol J) (report : ModeReport) : Type 0 where
    pub name : slice_get names i ≡ Some report.name
    pub state : report.state ≡ state_of held.body

  -- the report has the items of the log from a length on
  pub record IsLogOf
      (names : List (List ℕ)) (logged : List ℕ) (number : ℕ) (held : Channel J)
      (report : ChannelReport) : Type 0 where
    pub name : slice_get names number ≡ Some report.name
    pub pipe : report.pipe ≡ is_some held.target
    pub began : ℕ
    pub begun : slice_get logged number ≡ Some began
    pub items : report.items ≡ drop began held.exporter.log

-- the report has the changes from a position on
pub record IsJournalOf
    (parts : List TableParts) (heads : List ℕ) (number : ℕ) (table : Table)
    (report : JournalReport) : Type 0 where
  pub name : name_at number parts ≡ Some report.table
  pub from_is : slice_get heads number ≡ Some report.from
  pub entries : report.entries ≡ drop report.from (map change_of table.entries.items)

pub record IsTableOf (parts : List TableParts) (number : ℕ) (table : Table) (report : TableReport)
    : Type 0 where
  pub name : name_at number parts ≡ Some report.name
  pub rows :
      (rules : Rules) (family : Family) (history : List Change)
      → IsTable rules family history table → Shows report.rows (content_of history)

-- what stands for a key
abbrev pub standing_in : Key × Attrs → Standing
standing_in value = record { key = value.0; attrs = value.1 }

module _ {J : Type 0} (verdict : J → Net → Route → Verdict) where
  pub record IsExportOf
      (names : List (List ℕ)) (number : ℕ) (held : Channel J) (report : ExportReport)
      : Type 0 where
    pub name : slice_get names number ≡ Some report.name
    pub pipe : report.pipe ≡ is_some held.target
    pub values : Option (Vec (Key × Attrs) Global)
    pub told :
        (rules : Rules) (c : ℕ) (family : Option Family) (history : List Change)
        (ch : machine.Channel) → IsChannel verdict rules c family history held ch
        → TellsStanding ch values
    pub standing :
        report.standing
        ≡ option_map (λ (held : Vec (Key × Attrs) Global). map standing_in held.items) values

-- A phase that began so can end, with replies to these actors.
pub record MayEnd
    {J : Type 0} (verdict : J → Net → Route → Verdict) (actors : List (List ℕ)) (begun : Begun)
    (core : Core J) : Type 0 where
  pub setup : Setup
  pub past : Joined
  pub s : State
  pub core_is : IsCore verdict setup past s core
  pub began : BeganAt setup past begun
  pub replies : length core.replies.items ≡ length actors
  pub few : core.phases + 1 < 2 ^ 64

-- ---- replies

abbrev pub name_of : Option TableParts → List ℕ
name_of None = []
name_of (Some table) = table.name

abbrev pub reply_of : List TableParts → List ℕ → Answered → ReplyReport
reply_of parts actor held = record {
  actor = actor;
  table = name_of (slice_get parts held.table);
  at = held.at;
  text = held.text.items;
}

-- the replies to each actor
abbrev pub told : List TableParts → List (List ℕ) → List (Vec Answered Global) → List ReplyReport
told parts [] replies = []
told parts (actor ∷ actors) [] = []
told parts (actor ∷ actors) (held ∷ more) =
    map (reply_of parts actor) held.items ++ told parts actors more
