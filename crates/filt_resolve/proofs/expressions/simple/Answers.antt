use Rattle.std.proofs.Common.{ap, sym, ◌∙◌}
use Rattle.conf_ast.specs.declared.filters.Atom.{Atom}
use Rattle.filt_meaning.specs.Meaning.{plain}
use Rattle.filt_meaning.specs.Scopes.{context_of}
use Rattle.filt_resolve.proofs.Resolving.{attribute_same}
use Rattle.filt_resolve.proofs.expressions.simple.Goals as goal

pub returns-in-Attribute-clause-meaning : goal.returns-in-Attribute-clause-meaning
returns-in-Attribute-clause-meaning c = λ around scope variables. attribute_same around scope c.in-Attribute.attribute ∙ sym (ap (λ (w : Atom). plain w (context_of c.args.text.now around scope variables)) c.in-Attribute.is)
