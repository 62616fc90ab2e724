-- What stands before the first phase (`IsFirst`): no table has an entry, no channel to a neighbour
-- has a log, and both directions of a pipe came up at 0 and have sent nothing.
-- From: BIRD User's Guide, "Pipe"; own.
-- Example: behind a phase of one `add` the table has an entry, so that phase isn't to come.
use Rattle.std.specs.Prelude.{◌≡◌, ℕ, [], ◌∷◌, Some, slice_get}
use Rattle.export_core.specs.declared.log.LogItem.TheVariants.{Up}
use Rattle.phase_open.specs.declared.standing.StandingChannel.{StandingChannel}
use Rattle.phase_open.specs.declared.standing.StandingTable.{StandingTable}
use Rattle.room_open.specs.declared.standing.Standing.{Standing}
use Rattle.room_open.specs.declared.standing.StandingMember.{StandingMember}
use Rattle.room_open.specs.declared.standing.StandingMember.TheVariants.{Own, Pipe}

-- a protocol with routes of its own has a channel without a log, or none; a pipe's directions have
-- come up alone
abbrev pub IsFirstMember : {J : Type 0} → StandingMember J → Type 0
IsFirstMember {J} (Own held) =
    (channel : StandingChannel J) → held.channel ≡ Some channel → channel.exporter.log ≡ []
IsFirstMember (Pipe held) =
    (held.out.exporter.log ≡ Up 0 ∷ []) × (held.back.exporter.log ≡ Up 0 ∷ [])

pub record IsFirst {J : Type 0} (standing : Standing J) : Type 0 where
  pub tables :
      (t : ℕ) (stood : StandingTable) → slice_get standing.tables.items t ≡ Some stood
      → stood.before.items ≡ []
  pub members :
      (i : ℕ) (held : StandingMember J) → slice_get standing.members.items i ≡ Some held
      → IsFirstMember held
