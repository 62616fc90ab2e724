-- By what stands of protocols the sources of their ports of a table (`lists_from`): a protocol with
-- routes of its own is the source of its port where it imports to the table, and a pipe's port has
-- the sources that its direction to the table passes. They are those of what is played (`ArePorts`).
-- From: BIRD User's Guide, "Pipe"; ports are own.
-- Example: a protocol of the table 0, and a pipe from there to the table 1: for the table 0 the lists
-- are [0] and [], and for the table 1 they are [] and [0].
use Rattle.std.specs.Prelude.{◌≡◌, ◌==◌, ◌+◌, ◌<◌, ℕ, List, [], ◌∷◌, ◌++◌, length, if◌then◌else◌}
use Rattle.core_setup.specs.Channels.{channels}
use Rattle.core_setup.specs.Setup.{Setup}
use Rattle.phase_pipes.specs.Ports.{ports_with_pipes}
use Rattle.room_open.specs.declared.standing.StandingMember.{StandingMember}
use Rattle.room_open.specs.declared.standing.StandingMember.TheVariants.{Own, Pipe}

module _ {J : Type 0} (table : ℕ) where
  -- those of the port of the protocol of a number
  abbrev pub sources_in : ℕ → StandingMember J → List ℕ
  sources_in number (Own held) = if held.table == table then number ∷ [] else []
  sources_in number (Pipe held) =
      (if held.peer == table then held.out.exporter.spec.sources else [])
      ++ (if held.primary == table then held.back.exporter.spec.sources else [])

  -- those of the ports of protocols from a number on
  abbrev pub lists_from : ℕ → List (StandingMember J) → List (List ℕ)
  lists_from number [] = []
  lists_from number (held ∷ more) = sources_in number held ∷ lists_from (number + 1) more

pub record ArePorts {J : Type 0} (setup : Setup) (members : List (StandingMember J))
    : Type 0 where
  pub count : length members ≡ length setup.protocols
  pub each :
      (table : ℕ) → table < length setup.tables
      → lists_from table 0 members ≡ ports_with_pipes setup table

-- How many cursors the journal of each table has, and the sources of its ports, are a setup's.
pub record AreCounts
    {J : Type 0} (setup : Setup) (cursors : ℕ) (members : List (StandingMember J))
    : Type 0 where
  pub cursors_are : cursors ≡ length (channels setup)
  pub ports_are : ArePorts setup members
