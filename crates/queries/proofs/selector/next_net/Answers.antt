use Rattle.bits_ip.specs.Text.{IsNetText}
use Rattle.text.specs.Lines.{words_of}
use Rattle.queries.proofs.Selectors.{other_net}
use Rattle.queries.proofs.selector.next_net.Goals as goal

pub returns-in_err-net : goal.returns-in_err-net
returns-in_err-net c =
    rw c.from_residual-in_err-net.ensures (other_net IsNetText (words_of c.args.text.now) c.in_ok-word.word.now (words_of c.in_ok-word.rest.now) c.in_ok-word.ensures.word c.in_err-net.ensures)
