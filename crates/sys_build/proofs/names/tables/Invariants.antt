use Rattle.std.proofs.Common.{◌≡◌, map, take}
use Rattle.conf_system.specs.Seen.{system_of}
use Rattle.sys_build.proofs.Turns.{table_named}
use Rattle.sys_build.proofs.names.tables.Given as goal

abbrev pub invariant-loop-number : goal.invariant-loop-number
invariant-loop-number l = map table_named l.tables.items ≡ take l.number (system_of l.system).tables
