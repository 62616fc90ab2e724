use Rattle.room_ends.specs.Left.{locks_of}
use Rattle.room_close.proofs.Opened.{pipe_left}
use Rattle.room_close.proofs.closing.close_one_pipe.Goals as goal

pub close_pipe-requires : goal.close_pipe-requires
close_pipe-requires g c =
    let s = c.requires.session in
    let pipe = c.args.pipe in
    let locks = locks_of g.P.Phase.terms g.P.Sends.exports g.P.Sends.rules pipe in
    (locks, c.sessions_can_end.ensures.closing s.0 s.1 s.2 pipe.primary pipe.peer locks c.args.hands.items c.close-closed.result s.3 c.close-closed.ensures c.requires.hands)

pub returns : goal.returns
returns g c =
    let s = c.requires.session in
    let pipe = c.args.pipe in
    let locks = locks_of g.P.Phase.terms g.P.Sends.exports g.P.Sends.rules pipe in
    pipe_left g.P.Phase.terms g.P.Sends.exports g.P.Sends.rules g.J.Judge.verdict c.args.hands pipe c.close-closed.result
    (c.sessions_can_end.ensures.closing s.0 s.1 s.2 pipe.primary pipe.peer locks c.args.hands.items c.close-closed.result s.3 c.close-closed.ensures c.requires.hands)
    c.close_pipe.result c.close_pipe.ensures.tables c.close_pipe.ensures.left
