-- Which sources the ports of a table have where pipes enter it (`ports_with_pipes`): a protocol's
-- port has the protocol where it imports to the table, and a pipe's the sources that its direction
-- to that table passes. So the port of a direction has all that it passes, and no other port has any
-- of it (`EntersAlone`).
-- Entries before the phase are in their order.
-- Not modelled: where journals keep their words, and how rows are kept.
-- From: BIRD User's Guide, "Pipe"; ports are own.
-- Example: a protocol of the table `master4`, and a pipe from there to `t`: `master4` has the ports
-- [0] and [], and `t` has [] and [0].
use Rattle.std.specs.Prelude.{◌≡◌, ◌==◌, ◌+◌, ℕ, true, List, [], ◌∷◌, ◌++◌, length, Option, Some, None, Contains, if◌then◌else◌}
use Rattle.core_machine.specs.Pipes.{passes}
use Rattle.core_machine.specs.Rules.{Rules}
use Rattle.core_setup.specs.Channels.{channels}
use Rattle.core_setup.specs.Protocols.{rules_of, sources}
use Rattle.core_setup.specs.Setup.{Protocol, Setup}
use Rattle.jour_rule.specs.declared.views.Terms.{Terms}
use Rattle.phase_legal.specs.Changes.{IsAlone}
use Rattle.phase_room.specs.Rooms.{TableTerms}
use Rattle.table_shared.specs.Opening.{TableOpening, sources_of}

-- The port of this number has the sources that the direction passes and no others, and no other port
-- has any of them.
pub record EntersAlone (rules : Rules) (d : ℕ) (opening : TableOpening) (port : ℕ) : Type 0 where
  pub mine : (num : ℕ) → passes rules d num ≡ true → Contains (sources_of opening port) num
  pub alone : IsAlone (passes rules d) opening port

-- ---- by number

module _ (setup : Setup) (table : ℕ) where
  -- the sources that a channel passes to the table, where it writes it
  abbrev pub passed_on : ℕ → Option ℕ → List ℕ
  passed_on c None = []
  passed_on c (Some other) = if other == table then sources setup c else []

  abbrev pub all_passed_on : List ℕ → List ℕ
  all_passed_on [] = []
  all_passed_on (c ∷ more) = passed_on c ((rules_of setup).target c) ++ all_passed_on more

  -- the sources of the port of a protocol
  abbrev pub port_sources : ℕ → List ℕ
  port_sources i =
      (if (rules_of setup).table i == table then i ∷ [] else [])
      ++ all_passed_on ((rules_of setup).belong i)

  -- those of the ports of protocols from a number on
  abbrev pub ports_from : ℕ → List Protocol → List (List ℕ)
  ports_from number [] = []
  ports_from number (p ∷ more) = port_sources number ∷ ports_from (number + 1) more

  abbrev pub ports_with_pipes : List (List ℕ)
  ports_with_pipes = ports_from 0 setup.protocols

-- what the table of a number begins with
abbrev pub joined_opening : Setup → ℕ → TableTerms → TableOpening
joined_opening setup number stood = record {
  family = stood.family;
  rows = stood.rows;
  ports = ports_with_pipes setup number;
}

-- and its journal, which has some cells
abbrev pub joined_terms : (cells : ℕ) → Setup → ℕ → TableTerms → Terms TableOpening
joined_terms cells setup number stood = record {
  start = length stood.before;
  cells = cells;
  cursors = length (channels setup);
  makers = length setup.protocols;
  opening = joined_opening setup number stood;
}

pub record IsJoined
    (setup : Setup) (number : ℕ) (stood : TableTerms) (terms : Terms TableOpening)
    : Type 0 where
  pub cells : ℕ
  pub terms_are : terms ≡ joined_terms cells setup number stood
