use Rattle.std.proofs.Common.{refl}
use Rattle.conf_ast.specs.Filters.{expression_of}
use Rattle.filt_types.specs.Expressions.{judge}
use Rattle.filt_meaning.specs.Rules.{same_sort}
use Rattle.filt_types.specs.Expressions.{is_other}
use Rattle.filt_types.specs.Seen.{scene_in, variables_in}
use Rattle.filt_rules.proofs.Checking.{wanted_first}
use Rattle.filt_rules.proofs.targets.check_value.Goals as goal

pub returns : goal.returns
returns c = wanted_first (same_sort c.args.sort) (judge (scene_in c.args.seen) (variables_in c.args.seen) (expression_of c.args.e.now)) c.judge-judged.result (is_other (same_sort c.args.sort) c.judge-judged.result.sort) c.args.first.now c.judge-judged.new.first c.want_sort.new.first c.judge-judged.ensures.judged refl c.judge-judged.ensures.first c.want_sort.ensures
