use Rattle.phase_close.proofs.Protocols.{is_left}
use Rattle.phase_close.proofs.protocol.end_turns.Goals as goal

pub returns : goal.returns
returns g c = λ key is. is_left g.J.Judge.verdict key c.args.state c.args.hands.items c.requires.none c.retire_hands.ensures.retired is
