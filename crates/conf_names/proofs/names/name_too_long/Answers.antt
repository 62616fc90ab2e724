use Rattle.std.proofs.Common.{Option, sym, ap, ◌∙◌}
use Rattle.conf_ast.specs.declared.named.Name.{Name}
use Rattle.conf_names.specs.Names.{name_too_long}
use Rattle.conf_names.specs.Refusals.{first_in}
use Rattle.conf_names.specs.Seen.{known_of}
use Rattle.conf_names.proofs.names.name_too_long.Goals as goal

pub returns-in-Some : goal.returns-in-Some
returns-in-Some c declared = c.too_long.ensures declared ∙ ap (λ (n : Option Name). first_in c.args.first.now (name_too_long (known_of c.args.text.now declared) n)) (sym c.in-Some.is)
