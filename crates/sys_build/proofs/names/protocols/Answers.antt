use Rattle.sys_build.proofs.Fitting.{one_fits}
use Rattle.sys_build.proofs.names.protocols.Goals as goal

pub protocol-requires : goal.protocol-requires
protocol-requires c = one_fits c.args.defs.now c.loop-def.def-index c.def-item.result c.requires c.loop-def-test.true c.def-item.is
