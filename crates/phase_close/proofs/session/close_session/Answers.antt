use Rattle.phase_room.specs.Sessions.{channel_terms, protocol_terms}
use Rattle.phase_close.proofs.Opened.{are_open, hands_here}
use Rattle.phase_close.proofs.session.close_session.Goals as goal

pub close_protocol-requires : goal.close_protocol-requires
close_protocol-requires g c = hands_here g.J.Judge.verdict (protocol_terms g.P.Phase.terms c.args.session) c.close-state.result.0 c.args.hands.items c.close-state.ensures.import c.requires.hands

pub returns-in-Ok-clause-left : goal.returns-in-Ok-clause-left
returns-in-Ok-clause-left g c =
    let key = protocol_terms g.P.Phase.terms c.args.session in
    let lock = channel_terms g.P.Sends.exports c.args.session in
    c.end_session.ensures.left key lock c.args.hands.items (c.in-Ok.ensures key c.close-state.ensures.import) c.requires.channel
    (are_open g.J.Judge.verdict g.P.Sends.exports c.args.session.export c.close-state.result.1 c.close-state.ensures.export)
