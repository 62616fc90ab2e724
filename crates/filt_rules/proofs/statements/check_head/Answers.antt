use Rattle.conf_ast.specs.Filters.{expression_of}
use Rattle.filt_types.specs.Expressions.{judge}
use Rattle.filt_types.specs.Seen.{scene_in, variables_in}
use Rattle.filt_types.specs.Scenes.{declaring}
use Rattle.filt_rules.proofs.Checking.{head_first}
use Rattle.filt_rules.proofs.statements.check_head.Goals as goal

pub returns : goal.returns
returns c = head_first c.args.at c.args.variable_type (judge (scene_in c.args.seen) (variables_in c.args.seen) (expression_of c.args.list.now)) c.judge-judged.result c.is_no_list.result c.is_other_list-is_refused.result c.list_sort.result (declaring (scene_in c.args.seen) (variables_in c.args.seen) c.args.name) c.args.first.now c.judge-judged.new.first c.note_if.new.first c.note_if-2.new.first c.declaring.new.first c.judge-judged.ensures.judged c.is_no_list.ensures c.list_sort.ensures c.is_other_list-is_refused.ensures c.judge-judged.ensures.first c.note_if.ensures c.note_if-2.ensures c.declaring.ensures
