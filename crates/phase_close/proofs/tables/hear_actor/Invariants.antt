use Rattle.std.proofs.Common.{◌≡◌, ◌++◌, List, length}
use Rattle.phase_legal.specs.Shown.{PassView}
use Rattle.table_shared.specs.Phases.{IsHeard}
use Rattle.phase_close.specs.Closed.{TableList, all_lists}
use Rattle.phase_close.proofs.Hearing.{AreFirst}
use Rattle.phase_close.proofs.tables.hear_actor.Given as goal

abbrev pub invariant-loop-pass : goal.invariant-loop-pass
invariant-loop-pass l = record {
  same : all_lists l.closings.items ≡ all_lists l.fn.closings.items;
  done : List PassView;
  all : done ++ l.pass-iterator.rest.items ≡ l.fn.passes.items;
  count : l.place ≡ length done;
  heard : AreFirst (λ (t : TableList) (pass : PassView). IsHeard t.0.1 t.1 pass.1) done (all_lists l.fn.closings.items);
}
