use Rattle.conf_system.proofs.Endings.{all_told}
use Rattle.conf_system.proofs.condition.whole.Goals as goal

pub returns-else-end-tokens : goal.returns-else-end-tokens
returns-else-end-tokens c = all_told c.args.text.now c.args.tokens.now c.in-Ok.tree c.in-Ok.end c.requires.lexed c.in-Ok.ensures.tree c.if-end-tokens.false
