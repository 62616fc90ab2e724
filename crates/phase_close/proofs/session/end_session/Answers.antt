use Rattle.phase_close.proofs.Opened.{open_one}
use Rattle.phase_close.proofs.session.end_session.Goals as goal

pub end_channel-state-requires : goal.end_channel-state-requires
end_channel-state-requires g c =
    let r = c.requires in
    open_one g.J.Judge.verdict r.0 r.1 c.args.channel c.in-Some.state c.args.protocol.stamp r.2 r.3 r.4 c.in-Some.is
