use Rattle.std.proofs.Common.{None, true}
use Rattle.run_tables.proofs.Stretches.{never_quiet, none_withdrawn, withdrawn_one}
use Rattle.run_tables.proofs.channel.withdraw_next.Goals as goal

pub returns-in-Sent : goal.returns-in-Sent
returns-in-Sent g c = withdrawn_one c.in-Ok.pushed None None c.args.exporter.now c.flush_one.new.self c.in-Ok.ensures.flushes c.in-Sent.is

pub returns-in-Quiet : goal.returns-in-Quiet
returns-in-Quiet g c = never_quiet c.in-Ok.pushed None None c.args.exporter.now c.flush_one.new.self true c.in-Ok.ensures.flushes c.in-Quiet.is

pub returns-in-Nothing : goal.returns-in-Nothing
returns-in-Nothing g c = none_withdrawn c.in-Ok.pushed None None c.args.exporter.now c.flush_one.new.self c.in-Ok.ensures.flushes c.in-Nothing.is
