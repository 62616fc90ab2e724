use Rattle.text.specs.Lines.{words_of}
use Rattle.announcements.proofs.AddParts.{no_net_first}
use Rattle.announcements.proofs.add.read_via.Goals as goal

pub returns-in_err-net : goal.returns-in_err-net
returns-in_err-net c =
    rw c.from_residual-in_err-net.ensures (no_net_first (words_of c.args.rest.now) (words_of c.in_ok-word.rest.now) c.in_ok-word.word.now c.in_ok-word.ensures.word c.in_err-net.ensures)
