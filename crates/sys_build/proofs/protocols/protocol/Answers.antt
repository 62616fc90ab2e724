use Rattle.std.proofs.Common.{◌∙◌}
use Rattle.conf_system.specs.contracts.passes.PassesJudge.TheImpl as passes
use Rattle.sys_build.proofs.Handed.{named_body}
use Rattle.sys_build.proofs.protocols.protocol.Goals as goal

pub returns : goal.returns
returns c =
    named_body (passes.ghosts).verdict c.in_ok-name.name _ c.in_ok-body.body _ (c.in_ok-name.ensures ∙ c.as_slice.ensures) c.in_ok-body.ensures
