use Rattle.std.proofs.Common.{ℕ, List, arith}
use Rattle.std.proofs.lemmas.List.{length-map}
use Rattle.bits_ip.specs.declared.address.Family.{Family}
use Rattle.conf_system.specs.Seen.{system_of}
use Rattle.sys_build.proofs.Turns.{got_next, table_named, tables_named}
use Rattle.sys_build.proofs.names.tables.Goals as goal

pub loop-number-preserved : goal.loop-number-preserved
loop-number-preserved c =
    got_next table_named (system_of c.args.system.now).tables c.loop-number.tables.items c.push.new.self.items c.loop-number.number c.in_ok-table.field-0
    c.loop-number.invariant c.in_ok-push.ensures.items c.in_ok-table.ensures

pub returns : goal.returns
returns c =
    let tables = (system_of c.args.system.now).tables in
    tables_named c.loop-number.tables.items tables c.loop-number.number c.loop-number.invariant
    (omega (arith, c.loop-number-test.false, c.len-number-end.ensures.len, length-map {B = List ℕ × Family} c.args.system.now.checked.declared.tables.entries (λ e. (e.0.items, e.1))))
