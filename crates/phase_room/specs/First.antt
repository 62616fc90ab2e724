-- How the first phase begins: no protocol has had a turn (`first_phase`), tables are empty
-- (`nothing_in`), and importers and exporters are as they are made.
-- From: own.
-- Example: the smallest room has one table, and one protocol of BGP with its channel (`smallest`);
-- its table has one port, of the source 0.
use Rattle.std.specs.Prelude.{ℕ, false, true, List, [], ◌∷◌, codes, Some, None}
use Rattle.attrs.specs.declared.attributes.Kind.TheVariants.{Bgp}
use Rattle.bits_ip.specs.declared.address.Family.{Family}
use Rattle.bits_ip.specs.declared.address.Family.TheVariants.{V4}
use Rattle.export_core.specs.States.{State}
use Rattle.export_core.specs.declared.floors.FeedState.TheVariants.{Done}
use Rattle.export_core.specs.declared.passing.ExportSpec.{ExportSpec}
use Rattle.import_core.specs.Decisions.{Filter}
use Rattle.import_core.specs.Importers.{Importing}
use Rattle.import_core.specs.Imports.{nothing_yet}
use Rattle.import_core.specs.declared.import_spec.ImportSpec.{ImportSpec}
use Rattle.core_machine.specs.Lines.{Line}
use Rattle.core_setup.specs.Setup.{IsSource, Protocol, Setup, Source}
use Rattle.import_lock.specs.Terms.{PhaseTerms}
use Rattle.phase_room.specs.Rooms.{TableTerms}

-- the first phase, of these lines, with so many actors
abbrev pub first_phase : Setup → List Line → (actors : ℕ) → PhaseTerms
first_phase setup lines actors =
    record { setup = setup; lines = lines; past = λ i. []; starter = actors }

abbrev pub nothing_in : Family → TableTerms
nothing_in family = record { family = family; rows = []; before = [] }

module _ {J : Type 0} where
  abbrev pub new_importer : ImportSpec → J → Importing J
  new_importer spec judge = record { spec = spec; judge = judge; imports = nothing_yet }

  abbrev pub new_exporter : ExportSpec → J → State J
  new_exporter spec judge = record {
    spec = spec;
    judge = judge;
    position = 0;
    floors = [];
    feed = Done;
    refreshing = false;
    marks = [];
    log = [];
    flushing = false;
    left = [];
  }

-- ---- worked

-- what a protocol of BGP of this number imports, and what its channel sends
abbrev pub import_spec : ℕ → ImportSpec
import_spec number = record {
  src = record { num = number; def_med = 0; def_lp = 100 };
  kind = Bgp;
  sender = None;
  ebgp = false;
  pref = 100;
  limit = None;
  fixed = [];
}

abbrev pub export_spec : ℕ → ExportSpec
export_spec number = record {
  family = V4;
  own = number;
  to_ebgp = false;
  interpret = true;
  every = false;
  sources = [];
}

-- the protocol, over the first table, with one filter both ways
abbrev pub neighbour : ℕ → Filter → Source
neighbour number filter = record {
  table = 0;
  spec = import_spec number;
  filter = filter;
  exports = Some (record { spec = export_spec number; filter = filter });
}

-- protocols over one table
abbrev pub over_one : List Protocol → Setup
over_one protocols = record {
  tables = (codes "master4", V4) ∷ [];
  protocols = protocols;
  cells = 1;
  choices = [];
  queries = [];
}

abbrev pub smallest : Filter → Setup
smallest filter =
    over_one (record { name = codes "p1"; body = IsSource (neighbour 0 filter) } ∷ [])

abbrev pub two_neighbours : Filter → Setup
two_neighbours filter =
    over_one
    (record { name = codes "p1"; body = IsSource (neighbour 0 filter) }
    ∷ record { name = codes "p2"; body = IsSource (neighbour 1 filter) } ∷ [])
