use Rattle.std.proofs.Common.{◌≡◌, map, take}
use Rattle.sys_run.proofs.player.slices.Given as goal

abbrev pub invariant-loop-name : goal.invariant-loop-name
invariant-loop-name l = map (λ name. name.now) l.slices.items ≡ take l.name-index l.names
