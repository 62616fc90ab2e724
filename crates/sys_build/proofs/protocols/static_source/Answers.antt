use Rattle.conf_system.specs.contracts.passes.PassesJudge.TheImpl as passes
use Rattle.sys_build.proofs.Handed.{without_channel}
use Rattle.sys_build.proofs.protocols.static_source.Goals as goal

pub returns : goal.returns
returns c =
    without_channel (passes.ghosts).verdict c.args.def.now.channel.table c.in_ok-static_imports.field-0 _ c.in_ok-judge.judge _
    c.in_ok-static_imports.ensures c.in_ok-judge.ensures
