-- What was printed before a phase (`HasPast`), of which what stands between phases tells: histories
-- of tables are those that stand, and so are logs of channels, but for those of which nothing was
-- printed yet; all is as legal phases leave it.
-- Lists are read backwards, but for what stands, which is in its order.
-- From: own.
-- Example: before the first phase nothing was printed, though a pipe's directions are up at 0: that
-- is printed of the first phase.
use Rattle.std.specs.Prelude.{◌≡◌, ◌≤◌, ◌⊎◌, ℕ, List, [], length, map, reverse, Some, None, slice_get}
use Rattle.export_core.specs.Histories.{change_of}
use Rattle.export_core.specs.declared.log.LogItem.{LogItem}
use Rattle.core_machine.specs.Histories.{AreReal, of_those, own}
use Rattle.core_machine.specs.Enters.{enters}
use Rattle.core_machine.specs.Legal.{Joined}
use Rattle.core_machine.specs.Lines.{ops_of}
use Rattle.core_machine.specs.Pipes.{passes}
use Rattle.core_machine.specs.Rules.{Rules, changes}
use Rattle.core_machine.specs.Signals.{AreSignals, notices, without_sends}
use Rattle.core_setup.specs.Channels.{channel_at}
use Rattle.core_setup.specs.Protocols.{rules_of}
use Rattle.core_setup.specs.Setup.{Setup}
use Rattle.phase_legal.specs.Stamps.{AreUpTo}
use Rattle.phase_ends.specs.Ends.{AreSourced}
use Rattle.phase_open.specs.declared.standing.StandingChannel.{StandingChannel}
use Rattle.phase_open.specs.declared.standing.StandingTable.{StandingTable}
use Rattle.room_open.specs.declared.standing.Standing.{Standing}
use Rattle.room_open.specs.declared.standing.StandingMember.{StandingMember}
use Rattle.room_open.specs.declared.standing.StandingMember.TheVariants.{Own, Pipe}

-- it is a channel of the member
abbrev pub IsChannelOf : {J : Type 0} → StandingMember J → StandingChannel J → Type 0
IsChannelOf (Own held) channel = held.channel ≡ Some channel
IsChannelOf (Pipe held) channel = (held.out ≡ channel) ⊎ (held.back ≡ channel)

-- what legal phases leave: each change is one, a protocol's own changes in its table are what its
-- operations give, those that come by a direction of a pipe are what its log says, no change is of a
-- protocol that doesn't come to the table, each new route is of its change's source, and marks are
-- signals
pub record IsSound (rules : Rules) (past : Joined) : Type 0 where
  pub real : (t : ℕ) → AreReal (past.history t)
  pub exact :
      (i : ℕ) → own i (past.history (rules.table i)) ≡ changes rules i (ops_of (past.ops i))
  pub entered :
      (d table : ℕ) → rules.target d ≡ Some table
      → of_those (passes rules d) (past.history table) ≡ enters rules (past.logs d)
  pub strangers : (t i : ℕ) → rules.hops t i ≡ None → own i (past.history t) ≡ []
  pub sourced : (t : ℕ) → AreSourced (past.history t)
  pub within :
      (c : ℕ) → AreUpTo (length (past.history (rules.reads c))) (without_sends (past.logs c))
  pub signalled :
      (c : ℕ) → AreSignals rules (past.history (rules.reads c)) c (without_sends (past.logs c))
      (notices rules (rules.owner c) (ops_of (past.ops (rules.owner c))))

-- what was printed, with these logs
abbrev pub with_logs : Joined → (ℕ → List LogItem) → Joined
with_logs past logs = record { history = past.history; ops = past.ops; logs = logs }

-- The logs that stand have been printed, or nothing of them yet.
pub record HasPast {J : Type 0} (setup : Setup) (past : Joined) (standing : Standing J)
    : Type 0 where
  pub logs : ℕ → List LogItem
  pub sound : IsSound (rules_of setup) (with_logs past logs)
  pub printed : (c : ℕ) → (past.logs c ≡ logs c) ⊎ (past.logs c ≡ [])
  pub history :
      (t : ℕ) (stood : StandingTable) → slice_get standing.tables.items t ≡ Some stood
      → past.history t ≡ reverse (map change_of stood.before.items)
  pub no_history : (t : ℕ) → length setup.tables ≤ t → past.history t ≡ []
  pub no_ops : (i : ℕ) → length setup.protocols ≤ i → past.ops i ≡ []
  pub logs_are :
      (i : ℕ) (held : StandingMember J) (channel : StandingChannel J)
      → slice_get standing.members.items i ≡ Some held → IsChannelOf held channel
      → logs channel.number ≡ reverse channel.exporter.log
  pub no_logs : (c : ℕ) → channel_at setup c ≡ None → logs c ≡ []
