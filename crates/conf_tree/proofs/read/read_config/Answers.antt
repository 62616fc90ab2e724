use Rattle.conf_tree.proofs.ReadAnswers.{answer_only, answer_exact}
use Rattle.conf_tree.proofs.read.read_config.Goals as goal

pub returns-clause-only : goal.returns-clause-only
returns-clause-only c = answer_only c.args.text.now c.configurations_are_not_refused.ensures c.a_text_is_one_configuration.ensures c.answer.result c.answer.ensures.tree c.answer.ensures.fault

pub returns-clause-exact : goal.returns-clause-exact
returns-clause-exact c = answer_exact c.args.text.now c.configurations_are_not_refused.ensures c.a_text_has_one_refusal.ensures c.answer.result c.answer.ensures.tree c.answer.ensures.fault
