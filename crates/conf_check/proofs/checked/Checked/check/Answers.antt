use Rattle.conf_ast.specs.Configurations.{declaration_of}
use Rattle.conf_names.specs.Seen.{known_of}
use Rattle.conf_rules.specs.Statements.{refusals}
use Rattle.conf_check.proofs.Allowed.{none_refused}
use Rattle.conf_check.proofs.checked.Checked.check.Goals as goal

pub add-requires : goal.add-requires
add-requires c = (none_refused (refusals (known_of c.args.text.now c.args.self.now.declared) (declaration_of c.args.statement.now)) c.in_ok-refuse.ensures, c.requires.named)
