-- What an export lock of a pipe's direction keeps (`IsLane`): what its port has made of the table
-- that it writes is what its log says, and while a flush goes on the withdrawals so far.
-- Lists of receipts and of what was made, and withdrawn keys, are in their order; logs, but for the
-- exporter's own, and changes that a log says are read backwards.
-- Not modelled: how it is entered, and what waits.
-- From: BIRD User's Guide, "Pipe"; what goes down withdraws what it brought.
-- Example: a direction that has sent routes of two nets and is going down has made two changes with
-- a route, and behind the first turn of the flush one without.
use Rattle.std.specs.Prelude.{◌≡◌, ℕ, true, false, List, ◌++◌, reverse, Contains}
use Rattle.atomic_table.specs.Seated.{TableId}
use Rattle.attrs.specs.declared.judge.Verdict.{Verdict}
use Rattle.attrs.specs.declared.route.Change.{Change}
use Rattle.attrs.specs.declared.route.Route.{Route}
use Rattle.bits_ip.specs.Prefix.{Net}
use Rattle.core_machine.specs.Enters.{change_to, enters, withdrawn}
use Rattle.core_machine.specs.Histories.{content_of}
use Rattle.core_machine.specs.Match.{IsSpecOf}
use Rattle.core_machine.specs.Pipes.{passes}
use Rattle.core_machine.specs.Rules.{IsRules, Rules}
use Rattle.export_core.specs.declared.log.Key.{Key}
use Rattle.export_core.specs.declared.log.Sending.{Sending}
use Rattle.jour_rule.specs.declared.views.Terms.{Terms}
use Rattle.jour_rule.specs.declared.views.View.{View as Seat}
use Rattle.jour.specs.Seats.{journal, number_of, own}
use Rattle.phase_legal.specs.Changes.{AreMade, IsAlone, changes_in}
use Rattle.table_shared.specs.Answers.{IsEntered}
use Rattle.table_shared.specs.Opening.{TableOpening, sources_of}
use Rattle.table_shared.specs.Records.{at_first}
use Rattle.export_lock.specs.Flushes.{IsDirection}
use Rattle.export_lock.specs.Terms.{ExportTerms}
use Rattle.export_lock.specs.declared.lane.PipeLane.{PipeLane}

-- what the lock has of the table that it reads; what is played, and the direction's number there;
-- the journal of the table that it writes, and the number of its port among those of that table
pub record LaneTerms : Type 0 where
  pub exports : ExportTerms
  pub rules : Rules
  pub number : ℕ
  pub target : TableId × Terms TableOpening
  pub port_number : ℕ

-- The direction passes what the rules say. Its port alone has the sources that it passes, and before
-- the phase the table that it writes had of these what the direction's log had said.
pub record AreLaneTerms (key : LaneTerms) : Type 0 where
  pub rules_are : IsRules key.rules
  pub spec : IsSpecOf key.rules key.number key.exports.exports.spec
  pub every : key.exports.exports.spec.every ≡ true
  pub family : key.exports.exports.spec.family ≡ key.target.1.opening.family
  pub mine :
      (num : ℕ) → passes key.rules key.number num ≡ true
      → Contains (sources_of key.target.1.opening key.port_number) num
  pub alone : IsAlone (passes key.rules key.number) key.target.1.opening key.port_number
  pub opening :
      (net : Net) (num : ℕ) → passes key.rules key.number num ≡ true
      → at_first key.target.1.opening net num
      ≡ content_of (enters key.rules key.exports.log) net num

module _ {J : Type 0} (verdict : J → Net → Route → Verdict) where
  -- The value is the lock's, and of what stood these keys are withdrawn.
  pub record IsLane (done : List Key) (key : LaneTerms) (lane : PipeLane J) : Type 0 where
    pub terms : AreLaneTerms key
    pub direction : IsDirection verdict done key.exports lane.state
    pub port : journal lane.port ≡ key.target
    pub port_number : number_of lane.port.1.role ≡ key.port_number
    pub made : List (ℕ × Change)
    pub says : AreMade (own lane.port.1) made
    pub entered :
        reverse (changes_in made) ++ enters key.rules key.exports.log
        ≡ withdrawn done (enters key.rules (reverse lane.state.exporter.log))

  -- of what stood some keys are withdrawn, or none
  abbrev pub IsSomeLane : LaneTerms → PipeLane J → Type 0
  IsSomeLane key lane = (done : List Key) × IsLane done key lane

-- What a value that is sent makes of the port: its change is entered, unless it only sends again what
-- stands.
pub record EntersOnce (rules : Rules) (x : Sending) (old new : Seat TableOpening) : Type 0 where
  pub news :
      x.again ≡ false → (at : ℕ) × IsEntered (change_to rules x.key x.value) old new at
  pub again : x.again ≡ true → own new ≡ own old
