use Rattle.std.proofs.Common.{subst}
use Rattle.phase_close.specs.Closed.{all_lists}
use Rattle.room_ends.specs.Ended.{CanEndMember}
use Rattle.room_close.proofs.seats.end_member.Goals as goal

pub end_session_at-requires : goal.end_session_at-requires
end_session_at-requires g c = subst (CanEndMember g.J.Judge.verdict (all_lists c.args.closings.now.items)) c.in-Own.is c.requires

pub end_pipe-requires : goal.end_pipe-requires
end_pipe-requires g c = subst (CanEndMember g.J.Judge.verdict (all_lists c.args.closings.now.items)) c.in-Pipe.is c.requires
