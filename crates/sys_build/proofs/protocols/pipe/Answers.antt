use Rattle.conf_system.specs.contracts.passes.PassesJudge.TheImpl as passes
use Rattle.sys_build.proofs.Handed.{both_ways}
use Rattle.sys_build.proofs.protocols.pipe.Goals as goal

pub returns : goal.returns
returns c =
    both_ways (passes.ghosts).verdict c.args.def.now.table c.args.def.now.peer c.in_ok-export.export c.in_ok-import.import _ _ c.in_ok-export.ensures c.in_ok-import.ensures
