use Rattle.std.proofs.Common.{All, map, take}
use Rattle.conf_system.specs.Coded.{AllCanRun, CanRunOver}
use Rattle.conf_system.specs.Seen.{filter_says, system_of}
use Rattle.sys_build.specs.Scripts.{AreAsked}
use Rattle.sys_build.proofs.scripts.judged.Given as goal

abbrev pub invariant-loop-condition : goal.invariant-loop-condition
invariant-loop-condition l = record {
  asked : AreAsked (system_of l.system) (take l.condition-index l.conditions) (map (filter_says l.system) l.filters.items);
  before : AllCanRun l.system → All (CanRunOver l.system) l.filters.items;
}
