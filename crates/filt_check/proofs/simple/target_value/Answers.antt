use Rattle.std.proofs.Common.{ap, sym, ◌∙◌}
use Rattle.conf_ast.specs.declared.filters.Target.{Target}
use Rattle.filt_meaning.specs.Meaning.{read, value}
use Rattle.filt_meaning.specs.Scopes.{context_of}
use Rattle.filt_resolve.proofs.Taken as w
use Rattle.filt_resolve.proofs.Resolving.{attribute_same}
use Rattle.filt_check.proofs.simple.target_value.Goals as goal

pub returns-in-Attribute-clause-meaning : goal.returns-in-Attribute-clause-meaning
returns-in-Attribute-clause-meaning c = λ around. attribute_same around c.args.scope.now c.in-Attribute.attribute ∙ sym (ap (λ (target : Target). value (read target) (context_of c.args.text.now around c.args.scope.now c.args.names.now)) c.in-Attribute.is)

pub returns-in-Name-clause-steps : goal.returns-in-Name-clause-steps
returns-in-Name-clause-steps c = λ called. c.named.ensures.steps called

pub returns-in-Attribute-clause-steps : goal.returns-in-Attribute-clause-steps
returns-in-Attribute-clause-steps c = λ called. w.steps-Attribute called c.in-Attribute.attribute
