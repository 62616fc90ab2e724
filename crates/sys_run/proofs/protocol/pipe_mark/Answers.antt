use Rattle.std.proofs.Common.{refl}
use Rattle.sys_run.proofs.Turning.{disabled, enabled, reloaded, reloaded_in, reloaded_out}
use Rattle.sys_run.proofs.protocol.pipe_mark.Goals as goal

pub returns-in-Disable : goal.returns-in-Disable
returns-in-Disable c = disabled c.args.up c.args.op.now c.when.result c.in-Disable.is c.when.ensures

pub returns-in-Enable : goal.returns-in-Enable
returns-in-Enable c = enabled c.args.up c.args.op.now c.when-in-Enable.result _ refl c.in-Enable.is c.when-in-Enable.ensures

pub returns-in-ReloadIn : goal.returns-in-ReloadIn
returns-in-ReloadIn c = reloaded_in c.args.up c.args.op.now c.when-in-ReloadIn.result c.in-ReloadIn.is c.when-in-ReloadIn.ensures

pub returns-in-ReloadOut : goal.returns-in-ReloadOut
returns-in-ReloadOut c = reloaded_out c.args.up c.args.op.now c.when-in-ReloadOut.result c.in-ReloadOut.is c.when-in-ReloadOut.ensures

pub returns-in-Reload : goal.returns-in-Reload
returns-in-Reload c = reloaded c.args.up c.args.op.now c.when-in-Reload.result c.in-Reload.is c.when-in-Reload.ensures
