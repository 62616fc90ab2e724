use Rattle.std.proofs.Common.{ap, ◌∙◌, Option}
use Rattle.filt_meaning.specs.Operators.{and_then, int_in}
use Rattle.filt_meaning.specs.Values.{Val}
use Rattle.filt_meaning.specs.Names.{there}
use Rattle.filt_items.proofs.items.named_number.Goals as goal

pub returns-in_err-value : goal.returns-in_err-value
returns-in_err-value c = λ around variables. ap there c.from_residual.ensures ∙ ap (λ (o : Option Val). and_then (there o) int_in) (c.in_err-value.ensures around variables)

pub returns : goal.returns
returns c = λ around variables. c.int_in.ensures ∙ ap (λ (o : Option Val). and_then (there o) int_in) (c.in_ok-value.ensures around variables)
