use Rattle.std.proofs.Common.{arith, sym, subst, ◌+◌, ◌-◌, ◌<◌, ◌^◌, length}
use Rattle.script_lines.specs.declared.named.Named.{Named}
use Rattle.conf_system.specs.Seen.{system_of}
use Rattle.sys_build.proofs.Few.{have_room}
use Rattle.sys_build.proofs.scripts.read_script.Goals as goal

pub named-requires-clause-few : goal.named-requires-clause-few
named-requires-clause-few c = c.accepted_configurations_are_few.ensures c.requires.0 (system_of c.args.system.now) c.requires.1 (omega (arith, c.requires.2)) c.args.schedule

pub named-requires-clause-tables : goal.named-requires-clause-tables
named-requires-clause-tables c = c.accepted_configurations_have_their_tables.ensures c.requires.0 (system_of c.args.system.now) c.requires.1 c.args.schedule

pub read_script-requires-clause-short : goal.read_script-requires-clause-short
read_script-requires-clause-short c =
    subst (λ (n : Named). length n.filters + length c.args.text.now < 2 ^ 32 - 1) (sym c.in-Ok.ensures)
    (have_room c.configurations_have_few_tables_and_filters.ensures.filters c.requires.0 (length c.args.text.now) (system_of c.args.system.now) c.args.schedule c.requires.1 c.requires.2)

pub accepted-requires-clause-short : goal.accepted-requires-clause-short
accepted-requires-clause-short c = omega (arith, c.requires.2)

pub refused-requires-clause-short : goal.refused-requires-clause-short
refused-requires-clause-short c = omega (arith, c.requires.2)
