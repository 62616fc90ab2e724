use Rattle.ast_laws.proofs.ConfigurationsBack.{one_syntax}
use Rattle.ast_laws.proofs.laws.a_text_is_one_syntax.Goals as goal

pub returns : goal.returns
returns c = one_syntax c.a_text_is_one_configuration.ensures
