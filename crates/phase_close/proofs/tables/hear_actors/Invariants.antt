use Rattle.std.proofs.Common.{◌≡◌}
use Rattle.std.specs.List.{AllByRecursion}
use Rattle.std.specs.declared.alloc.Global.{Global}
use Rattle.std.specs.declared.vec.Vec.{Vec}
use Rattle.jour.specs.Seats.{journal}
use Rattle.phase_legal.specs.Shown.{AreBeside, PassView}
use Rattle.phase_close.specs.Closed.{TableList, all_lists}
use Rattle.phase_close.specs.Whole.{ArePassesHeard}
use Rattle.phase_close.proofs.tables.hear_actors.Given as goal

abbrev pub invariant-loop-passes : goal.invariant-loop-passes
invariant-loop-passes l = record {
  same : all_lists l.closings.items ≡ all_lists l.fn.closings.items;
  left : AllByRecursion (λ (v : Vec PassView Global). AreBeside (λ (t : TableList) (pass : PassView). journal pass ≡ t.0) (all_lists l.fn.closings.items) v.items) l.passes-iterator.rest.items;
  done : AllByRecursion (ArePassesHeard (all_lists l.fn.closings.items)) l.passes-iterator.rest.items → AllByRecursion (ArePassesHeard (all_lists l.fn.closings.items)) l.fn.actors.items;
}
