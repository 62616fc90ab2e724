use Rattle.conf_ast.specs.Filters.{expression_of}
use Rattle.filt_types.specs.Expressions.{judge}
use Rattle.filt_types.specs.Seen.{scene_in, variables_in}
use Rattle.filt_rules.proofs.Checking.{returned_first}
use Rattle.filt_rules.proofs.statements.check_returned.Goals as goal

pub returns-in-Some : goal.returns-in-Some
returns-in-Some c = returned_first c.args.at c.args.gives c.in-Some.sort (judge (scene_in c.args.seen) (variables_in c.args.seen) (expression_of c.args.e.now)) c.judge-judged-in-Some.result c.has_other_sort.result c.args.first.now c.judge-judged-in-Some.new.first c.note_if.new.first c.in-Some.is c.judge-judged-in-Some.ensures.judged c.has_other_sort.ensures c.judge-judged-in-Some.ensures.first c.note_if.ensures
