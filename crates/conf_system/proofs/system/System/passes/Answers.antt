use Rattle.std.proofs.Common.{◌∙◌}
use Rattle.conf_system.proofs.system.System.passes.Goals as goal

pub returns : goal.returns
returns c = c.new.ensures ∙ c.in_ok-rule.ensures.says
