use Rattle.std.proofs.Common.{Option, ap, ◌∙◌, sym}
use Rattle.conf_ast.specs.declared.named.Name.{Name}
use Rattle.conf_rules.specs.Protocols.{primary_family}
use Rattle.conf_names.specs.Seen.{known_of}
use Rattle.conf_rules.proofs.pipes.primary_family.Goals as goal

pub returns-in-None : goal.returns-in-None
returns-in-None c = c.family_of.ensures c.args.text.now ∙ ap (λ (n : Option Name). primary_family (known_of c.args.text.now c.args.declared.now) n) (sym c.in-None.is)
