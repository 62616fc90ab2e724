-- A pipe's directions behind their locks are doors between its tables.
use Rattle.std.proofs.Common.{◌≡◌, ℕ, List, Some, sym, ap, ◌∙◌}
use Rattle.std.specs.Prelude.{slice_get}
use Rattle.atomic_table.specs.Seated.{TableId}
use Rattle.attrs.specs.declared.route.Src.{Src}
use Rattle.core_setup.proofs.Numbered.{some_same}
use Rattle.export_lock.specs.Lanes.{LaneTerms}
use Rattle.export_lock.specs.LaneTurns.{AreSources}
use Rattle.jour_rule.specs.declared.views.Terms.{Terms}
use Rattle.pipe_lock.specs.Doors.{IsDoor}
use Rattle.pipe_lock.specs.Terms.{DirectionTerms, PipeTerms}
use Rattle.table_shared.specs.Opening.{TableOpening}
use Rattle.phase_pipes.specs.Sessions.{IsDirectionIn}

module _ (pipe : PipeTerms) (tables : List (TableId × Terms TableOpening)) (reads writes : ℕ) (direction : DirectionTerms) (lane : LaneTerms) (d : IsDirectionIn pipe tables reads writes direction lane)
    (read written : TableId × Terms TableOpening) (at : slice_get tables reads ≡ Some read) where
  pub table_is : direction.table ≡ read
  table_is = some_same (sym d.read ∙ at)

  pub door_is : slice_get tables writes ≡ Some written → (sources : List Src) → AreSources lane sources → IsDoor lane read written sources
  door_is there sources are = record {
    reads_is = d.lane_is.table ∙ table_is;
    writes_is = some_same (sym d.written ∙ there);
    sources_are = are;
    start = ap (λ z. z.1.start) d.lane_is.marks ∙ d.start;
  }
