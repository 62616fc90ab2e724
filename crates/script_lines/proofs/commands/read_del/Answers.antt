use Rattle.text.specs.Lines.{words_of}
use Rattle.script_lines.proofs.DelParts.{no_del_net}
use Rattle.script_lines.proofs.commands.read_del.Goals as goal

pub returns-in_err-net : goal.returns-in_err-net
returns-in_err-net c =
    rw c.from_residual-in_err-net.ensures (no_del_net (words_of c.args.rest.now) (words_of c.in_ok-word.rest.now) c.in_ok-word.word.now c.in_ok-word.ensures.word c.in_err-net.ensures)
