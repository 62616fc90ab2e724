use Rattle.conf_laws.proofs.WordsBefore.{config_before}
use Rattle.syntax_laws.proofs.Pasts.{words_before}
use Rattle.expr_syntax.specs.Syntax.{block, expr}
use Rattle.conf_laws.proofs.laws.words_before_a_refused_one_begin_a_sentence.Goals as goal

pub returns-clause-config : goal.returns-clause-config
returns-clause-config c = config_before

pub returns-clause-block : goal.returns-clause-block
returns-clause-block c = words_before block

pub returns-clause-expression : goal.returns-clause-expression
returns-clause-expression c = words_before expr
