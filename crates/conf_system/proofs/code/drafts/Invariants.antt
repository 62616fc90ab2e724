use Rattle.std.proofs.Common.{◌≡◌, [], All, List, map, take}
use Rattle.filt_compile.specs.Compiles.{AreCompiled}
use Rattle.filt_meaning.specs.Trees.{AreBefore}
use Rattle.filt_meaning.specs.declared.scope.TFunction.{TFunction}
use Rattle.conf_system.specs.Coded.{CostTheirFilters}
use Rattle.conf_system.specs.Seen.{draft_flow, flow_over}
use Rattle.conf_system.proofs.code.drafts.Given as goal

abbrev pub invariant-loop-filter : goal.invariant-loop-filter
invariant-loop-filter l = record {
  means : (trees : List TFunction) → AreCompiled l.constants [] trees l.functions → All (AreBefore trees) l.filters → map (draft_flow l.functions) l.drafts.items ≡ map (flow_over l.constants trees) (take l.filter-index l.filters);
  cost : CostTheirFilters l.functions l.filters l.drafts.items;
}
