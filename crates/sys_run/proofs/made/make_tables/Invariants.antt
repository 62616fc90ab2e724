use Rattle.std.proofs.Common.{take}
use Rattle.core_setup.specs.Pairs.{Pairs}
use Rattle.sys_run.specs.Made.{IsMadeTable}
use Rattle.sys_run.proofs.made.make_tables.Given as goal

abbrev pub invariant-loop-part : goal.invariant-loop-part
invariant-loop-part l = Pairs IsMadeTable 0 (take l.part-index l.parts) l.tables.items
