use Rattle.std.proofs.Common.{◌∙◌}
use Rattle.conf_system.proofs.code.functions.Goals as goal

pub returns : goal.returns
returns c = c.as_slice.ensures ∙ c.values.ensures.rest
