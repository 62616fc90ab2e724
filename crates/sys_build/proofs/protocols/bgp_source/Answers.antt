use Rattle.conf_system.specs.contracts.passes.PassesJudge.TheImpl as passes
use Rattle.sys_build.proofs.Handed.{with_channel}
use Rattle.sys_build.proofs.protocols.bgp_source.Goals as goal

pub returns : goal.returns
returns c =
    with_channel (passes.ghosts).verdict c.args.def.now.channel.table c.bgp_imports.result _ c.in_ok-import.import _ c.gate.result _ c.in_ok-export.export _
    c.bgp_imports.ensures c.in_ok-import.ensures c.gate.ensures c.in_ok-export.ensures
