use Rattle.room_run.proofs.Rooms.{is_played}
use Rattle.room_run.proofs.playing.end_room.Goals as goal

pub deal-requires-clause-acted : goal.deal-requires-clause-acted
deal-requires-clause-acted g c = c.requires.acted.each

pub end_phase-requires-clause-hands : goal.end_phase-requires-clause-hands
end_phase-requires-clause-hands g c = c.in_ok-dealt.ensures.dealt.hands_are

pub end_phase-requires-clause-passes : goal.end_phase-requires-clause-passes
end_phase-requires-clause-passes g c = c.in_ok-dealt.ensures.dealt.passes_are

pub returns : goal.returns
returns g c = λ starts were.
    is_played g.P.Phase.terms g.P.Sends.exports g.P.Sends.rules c.args.room g.J.Judge.verdict c.args.through.all.items c.args.starters.items c.args.passes c.in_ok-dealt.dealt c.requires.acted c.requires.seats
    c.in_ok-dealt.ensures.dealt c.in_ok-dealt.ensures.starters c.in_ok-ended.ended c.in_ok-ended.ensures starts were
