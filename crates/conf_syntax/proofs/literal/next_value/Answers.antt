use Rattle.std.proofs.Common.{sym as flip, ap, ◌∙◌}
use Rattle.conf_lex.specs.Grammar.{ParseTree}
use Rattle.conf_lex.specs.Reading.{Parsed}
use Rattle.conf_syntax.proofs.LiteralSteps.{value_passes, value_read}
use Rattle.conf_syntax.proofs.literal.next_value.Goals as goal

pub returns-in-Some-value : goal.returns-in-Some-value
returns-in-Some-value c =
    value_read 0 c.args.words.now c.in-Some.word c.in-Some.rest.now c.in-Some.ensures (value_passes c.in-Some-value.value c.in-Some.word c.in-Some-value.ensures) ∙ ap (λ (t : ParseTree). Parsed t c.in-Some.rest.now) (flip c.in-Some-value.ensures)
