use Rattle.std.proofs.Common.{◌≡◌, map, take}
use Rattle.sys_run.specs.Parts.{table_seen}
use Rattle.conf_system.specs.Seen.{system_of}
use Rattle.sys_build.proofs.tables.tables.Given as goal

abbrev pub invariant-loop-number : goal.invariant-loop-number
invariant-loop-number l = map table_seen l.parts.items ≡ take l.number (system_of l.system).tables
