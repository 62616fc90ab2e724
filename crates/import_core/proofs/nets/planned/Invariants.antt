use Rattle.std.proofs.Common.{◌<◌, ◌^◌, length}
use Rattle.std.specs.Map.{keys_of}
use Rattle.import_core.proofs.Routes.{Sorted}
use Rattle.import_core.proofs.Turns.{PlannedSoFar}
use Rattle.import_core.proofs.nets.planned.Given as goal

abbrev pub invariant-loop-net : goal.invariant-loop-net
invariant-loop-net g l = record {
  sorted : Sorted (keys_of l.nets.entries);
  small : length l.nets.entries < 2 ^ 63;
  far : PlannedSoFar l.spec (g.J.Judge.verdict l.judge) l.nets.entries l.net-iterator l.plan;
}
