use Rattle.conf_laws.proofs.Spaced.{read_back}
use Rattle.conf_laws.proofs.laws.spaced_tokens_are_read_back.Goals as goal

pub returns : goal.returns
returns c = read_back
