use Rattle.pipe_close.proofs.Closing.{back_here, hands_here, out_here, pipe_left}
use Rattle.pipe_close.proofs.close.end_journals.Goals as goal

pub retire_hands-requires : goal.retire_hands-requires
retire_hands-requires g c =
    let r = c.requires.closing in
    record { here = hands_here g.J.Judge.verdict r.0 c.args.hands.items c.args.closed r.1 }

pub end_direction-requires : goal.end_direction-requires
end_direction-requires g c =
    let r = c.requires.closing in
    out_here g.J.Judge.verdict r.0 c.args.hands.items c.args.closed r.1

pub end_direction-requires-2 : goal.end_direction-requires-2
end_direction-requires-2 g c =
    let r = c.requires.closing in
    back_here g.J.Judge.verdict r.0 c.args.hands.items c.args.closed r.1

pub returns-clause-left : goal.returns-clause-left
returns-clause-left g c = λ key is.
    pipe_left g.J.Judge.verdict key c.args.hands.items c.args.closed is c.args.primary c.args.peer c.in_ok-out.out c.in_ok-back.back c.requires.none c.retire_hands.ensures.retired c.in_ok-out.ensures c.in_ok-back.ensures
