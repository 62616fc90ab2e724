use Rattle.conf_ast.specs.Filters.{expression_of}
use Rattle.filt_types.specs.Expressions.{judge}
use Rattle.filt_types.specs.Seen.{scene_in, variables_in}
use Rattle.filt_meaning.specs.Sorts.{one_bool}
use Rattle.filt_rules.proofs.Checking.{wanted_first}
use Rattle.filt_rules.proofs.statements.want_bool.Goals as goal

pub returns : goal.returns
returns c = wanted_first one_bool (judge (scene_in c.args.seen) (variables_in c.args.seen) (expression_of c.args.e.now)) c.judge-judged.result c.is_no_bool.result c.args.first.now c.judge-judged.new.first c.note_if.new.first c.judge-judged.ensures.judged c.is_no_bool.ensures c.judge-judged.ensures.first c.note_if.ensures
