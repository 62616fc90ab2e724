use Rattle.text.specs.Lines.{words_of}
use Rattle.queries.proofs.Options.{no_label}
use Rattle.queries.proofs.parts.next_part.Goals as goal

pub returns-in_err-label-clause-part : goal.returns-in_err-label-clause-part
returns-in_err-label-clause-part c =
    rw c.from_residual-in_err-label.ensures (no_label c.args.text.now c.in_ok-word.word.now (words_of c.in_ok-word.behind.now) c.in_ok-word.ensures.word c.in_err-label.ensures)
