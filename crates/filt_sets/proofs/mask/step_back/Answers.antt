use Rattle.std.proofs.Common.{◌-◌, Bool, arith, length-set}
use Rattle.filt_sets.proofs.Marks.{marks_step}
use Rattle.filt_sets.proofs.mask.step_back.Goals as goal

pub loop-place-preserved : goal.loop-place-preserved
loop-place-preserved c = record {
  within = omega arith;
  marked = λ later tells. let step = marks_step c.args.item.now later c.args.path.now c.loop-place.marks c.loop-place.place (c.loop-place.place - 1) c.loop-place.behind (omega arith) (omega arith) (omega (arith, length-set {A = Bool})) (c.loop-place.invariant.marked later tells) in rw c.matches_at.ensures step;
}
