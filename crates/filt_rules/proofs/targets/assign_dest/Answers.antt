use Rattle.conf_ast.specs.Filters.{expression_of}
use Rattle.filt_types.specs.Expressions.{judge}
use Rattle.filt_types.specs.Seen.{scene_in, variables_in}
use Rattle.std.proofs.Common.{ap, ◌∙◌}
use Rattle.filt_types.specs.Statements.{is_dest_word}
use Rattle.conf_ast.specs.declared.attribute.Constant.{Constant}
use Rattle.std.proofs.Common.{Option}
use Rattle.filt_rules.proofs.Checking.{dest_first}
use Rattle.filt_rules.proofs.targets.assign_dest.Goals as goal

pub returns : goal.returns
returns c = dest_first (expression_of c.args.e.now) (judge (scene_in c.args.seen) (variables_in c.args.seen) (expression_of c.args.e.now)) c.judge-judged.result c.is_some.result c.is_dest_word.result c.args.first.now c.judge-judged.new.first c.note_if.new.first c.judge-judged.ensures.judged c.is_some.ensures (c.is_dest_word.ensures ∙ ap (λ (x : Option Constant). is_dest_word x) c.constant_word.ensures) c.judge-judged.ensures.first c.note_if.ensures
