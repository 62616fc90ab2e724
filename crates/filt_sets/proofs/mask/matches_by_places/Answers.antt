use Rattle.std.proofs.Common.{[], sym, append-nil}
use Rattle.filt_sets.specs.Search.{cuts}
use Rattle.filt_sets.proofs.Marks.{gone_more, last_marked}
use Rattle.filt_sets.proofs.mask.matches_by_places.Goals as goal

pub loop-left-init : goal.loop-left-init
loop-left-init c = ([], sym (append-nil c.args.items.now), last_marked c.args.path.now c.marks_at-marks.result c.marks_at-marks.ensures)

pub loop-left-preserved : goal.loop-left-preserved
loop-left-preserved c =
    let (gone, is, tells) = c.loop-left.invariant in
    (_, gone_more c.args.items.now c.loop-left.left.now gone _ c.in-len1-up.len_at_least is, c.step_back.ensures (cuts gone) tells)
