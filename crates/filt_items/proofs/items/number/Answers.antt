use Rattle.std.proofs.Common.{ap, sym, ◌∙◌}
use Rattle.conf_ast.specs.declared.filters.Num.{Num}
use Rattle.filt_meaning.specs.Items as written
use Rattle.filt_meaning.specs.Scopes.{context_of}
use Rattle.filt_items.proofs.items.number.Goals as goal

pub returns-in-Name : goal.returns-in-Name
returns-in-Name c = λ around variables. c.named_number.ensures around variables ∙ sym (ap (λ (n : Num). written.number (context_of c.args.text.now around c.args.scope.now variables) n) c.in-Name.is)
