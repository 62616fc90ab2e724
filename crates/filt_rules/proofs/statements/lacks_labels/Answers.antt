use Rattle.std.proofs.Common.{rules, ◌∙◌}
use Rattle.std.proofs.lemmas.Iterator.{YieldsList-from_slice}
use Rattle.std.proofs.lemmas.Iterator.Search.{any_from_yields_List}
use Rattle.conf_ast.specs.declared.filters.Arm.{Arm}
use Rattle.conf_ast.specs.declared.filters.Stmt.{Stmt}
use Rattle.filt_types.specs.Items.{is_empty}
use Rattle.filt_rules.proofs.Checking.{any_lacks}
use Rattle.filt_rules.proofs.statements.lacks_labels.Goals as goal

pub returns : goal.returns
returns c = any_from_yields_List (λ (a : Arm Stmt). is_empty a.labels.items) _ _ _ c.any.ensures.ran (YieldsList-from_slice c.args.arms.now cc) (λ x b q k. search rules) ∙ any_lacks c.args.arms.now
