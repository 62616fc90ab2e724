use Rattle.std.proofs.Common.{◌≡◌, drop}
use Rattle.filt_meaning.specs.Seen.{val_of}
use Rattle.filt_code.specs.Codes.{arms_before, labels_of}
use Rattle.filt_route.proofs.Arms as a
use Rattle.filt_route.proofs.labels.arms_before.Given as goal

abbrev pub invariant-loop-n : goal.invariant-loop-n
invariant-loop-n l = arms_before (labels_of l.arms) (val_of l.value) ≡ a.past l.n (arms_before (labels_of (drop l.n l.arms)) (val_of l.value))
