use Rattle.conf_ast.specs.Filters.{expression_of}
use Rattle.filt_types.specs.Expressions.{judge}
use Rattle.filt_types.specs.Seen.{scene_in, variables_in}
use Rattle.filt_types.specs.Walk.{arms_of, common_seen}
use Rattle.filt_rules.proofs.Checking.{cases_first}
use Rattle.filt_rules.proofs.statements.check_cases.Goals as goal

pub returns : goal.returns
returns c = cases_first (scene_in c.args.seen) c.args.at (judge (scene_in c.args.seen) (variables_in c.args.seen) (expression_of c.args.value.now)) c.judge-judged.result (arms_of c.args.arms.now) c.is_no_label.result c.lacks_labels.result c.differ.result (common_seen c.value_common.result) (common_seen c.all_labels-common.result) c.args.first.now c.judge-judged.new.first c.note_if.new.first c.all_labels-common.new.first c.note_if-2.new.first c.judge-judged.ensures.judged c.is_no_label.ensures c.value_common.ensures c.all_labels-common.ensures.common c.lacks_labels.ensures c.differ.ensures c.judge-judged.ensures.first c.note_if.ensures c.all_labels-common.ensures.first c.note_if-2.ensures
