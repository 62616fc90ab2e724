use Rattle.sys_run.specs.Parts.{table_seen}
use Rattle.conf_system.specs.Seen.{system_of}
use Rattle.sys_build.proofs.Turns.{got_next}
use Rattle.sys_build.proofs.tables.tables.Goals as goal

pub loop-number-preserved : goal.loop-number-preserved
loop-number-preserved c =
    got_next table_seen (system_of c.args.system.now).tables c.loop-number.parts.items c.push.new.self.items c.loop-number.number c.in_ok-table.field-0
    c.loop-number.invariant c.in_ok-push.ensures.items c.in_ok-table.ensures
