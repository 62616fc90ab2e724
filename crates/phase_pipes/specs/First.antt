-- How a pipe's directions begin the first phase (`open_exporter`): both are up at 0, have a feed
-- before them, and have sent nothing.
-- From: BIRD User's Guide, "Pipe"; own.
-- Example: a protocol of BGP over `master4`, and a pipe from there to `t` (`one_pipe`).
use Rattle.std.specs.Prelude.{[], ◌∷◌, codes}
use Rattle.bits_ip.specs.declared.address.Family.TheVariants.{V4}
use Rattle.core_setup.specs.Setup.{IsPipe, IsSource, Setup}
use Rattle.export_core.specs.Calls.{begun}
use Rattle.export_core.specs.States.{State}
use Rattle.export_core.specs.declared.passing.ExportSpec.{ExportSpec}
use Rattle.import_core.specs.Decisions.{Filter}
use Rattle.phase_room.specs.First.{neighbour, new_exporter}

abbrev pub open_exporter : {J : Type 0} → ExportSpec → J → State J
open_exporter spec judge = begun 0 (new_exporter spec judge)

-- ---- worked

abbrev pub one_pipe : Filter → Setup
one_pipe filter = record {
  tables = (codes "master4", V4) ∷ (codes "t", V4) ∷ [];
  protocols =
      record { name = codes "p1"; body = IsSource (neighbour 0 filter) }
      ∷ record {
        name = codes "k1";
        body = IsPipe (record { primary = 0; peer = 1; export = filter; import = filter });
      }
      ∷ [];
  cells = 1;
  choices = [];
  queries = [];
}
