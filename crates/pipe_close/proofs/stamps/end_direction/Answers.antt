use Rattle.std.proofs.Common.{sym, ◌∙◌}
use Rattle.pipe_close.proofs.Marked.{lane_left}
use Rattle.pipe_close.proofs.stamps.end_direction.Goals as goal

pub returns : goal.returns
returns g c = λ pipe direction key ops marked is.
    let e = c.end_stamp.ensures in
    lane_left g.J.Judge.verdict key c.args.lane c.end_stamp.new.marks e.same.0 e.same.1 c.args.stamp (sym c.is_flushing.ensures ∙ c.if-is_flushing.false) e.told e.lawful pipe direction ops marked is
