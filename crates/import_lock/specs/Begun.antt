-- What an import lock's value is made of as a phase begins (`Begins`).
-- From: own.
-- Example: in the first phase a protocol's importer has done no operation.
use Rattle.std.specs.Prelude.{◌≡◌, ℕ, [], Option, IfSome, option_map}
use Rattle.atomic_table.specs.Seated.{TableId}
use Rattle.attrs.specs.declared.judge.Verdict.{Verdict}
use Rattle.attrs.specs.declared.route.Route.{Route}
use Rattle.bits_ip.specs.Prefix.{Net}
use Rattle.import_core.specs.Importers.{Importing}
use Rattle.jour_rule.specs.declared.views.View.{View as Seat}
use Rattle.jour.specs.Seats.{front, journal, number_of, own}
use Rattle.core_setup.specs.Setup.{Source}
use Rattle.table_shared.specs.Opening.{TableOpening}
use Rattle.import_lock.specs.Kept.{IsImporter}
use Rattle.import_lock.specs.Terms.{ImportTerms, past_ops}

-- a stamp that has marked nothing yet
pub record IsUnused (stamp : TableId × Seat ℕ) : Type 0 where
  pub number : number_of stamp.1.role ≡ 0
  pub unmarked : own stamp.1 ≡ []

-- The importer is the protocol's behind the operations of earlier phases. The port, the turns and
-- the stamp, where there is one, are those of the key, and none has an entry of the phase.
pub record Begins
    {J : Type 0} (verdict : J → Net → Route → Verdict) (key : ImportTerms) (source : Source)
    (held : Importing J) (door : TableId × Seat TableOpening) (list : TableId × Seat ℕ)
    (marker : Option (TableId × Seat ℕ)) : Type 0 where
  pub importer : IsImporter verdict source (past_ops key) held
  pub port : journal door ≡ key.port
  pub port_number : number_of door.1.role ≡ key.port_number
  pub unmade : own door.1 ≡ []
  pub turns : journal list ≡ key.turns
  pub unturned : front list.1 ≡ []
  pub marks : option_map journal marker ≡ key.marks
  pub unused : IfSome marker IsUnused
