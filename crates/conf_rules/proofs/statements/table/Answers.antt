use Rattle.std.proofs.Common.{Bool, [], if◌then◌else◌, ap, ◌∙◌}
use Rattle.conf_names.specs.Refusals.{first_in}
use Rattle.conf_names.specs.Seen.{known_of}
use Rattle.conf_rules.specs.Statements.{one_more_table}
use Rattle.conf_rules.proofs.statements.table.Goals as goal

pub returns : goal.returns
returns c = c.table_unless.ensures ∙ ap (λ (b : Bool). first_in c.args.first.now (if b then [] else one_more_table (known_of c.args.text.now c.args.declared.now) c.args.name)) (c.is_master.ensures c.args.declared.now)
