use Rattle.std.proofs.Common.{ap, sym, ◌∙◌}
use Rattle.conf_ast.specs.declared.filters.Target.{Target}
use Rattle.filt_meaning.specs.Meaning.{set_target}
use Rattle.filt_meaning.specs.Scopes.{context_of}
use Rattle.filt_check.proofs.simple.target_place.Goals as goal

pub returns-in-Name : goal.returns-in-Name
returns-in-Name c = λ around scope. c.variable.ensures around scope ∙ sym (ap (λ (target : Target). set_target (context_of c.args.text.now around scope c.args.names.now) target) c.in-Name.is)
