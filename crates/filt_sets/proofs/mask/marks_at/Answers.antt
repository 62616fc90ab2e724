use Rattle.filt_sets.proofs.Marks.{one_marked}
use Rattle.filt_sets.proofs.mask.marks_at.Goals as goal

pub returns : goal.returns
returns c = one_marked 128 c.args.place c.requires
