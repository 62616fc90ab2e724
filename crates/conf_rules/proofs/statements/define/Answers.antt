use Rattle.conf_ast.specs.Configurations.{value_of}
use Rattle.conf_names.specs.Constants.{value}
use Rattle.conf_names.specs.Known.{declaring}
use Rattle.conf_names.specs.Seen.{known_of}
use Rattle.conf_names.proofs.Firsts.{first_two}
use Rattle.conf_rules.proofs.statements.define.Goals as goal

pub returns : goal.returns
returns c = first_two (declaring (known_of c.args.text.now c.args.declared.now) c.args.name) (value (known_of c.args.text.now c.args.declared.now) (value_of c.args.literal.now)) c.args.first.now c.declaring.new.first c.value.new.first c.declaring.ensures c.value.ensures
