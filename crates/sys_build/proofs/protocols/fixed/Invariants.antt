use Rattle.std.proofs.Common.{◌≡◌, map, take}
use Rattle.sys_build.specs.Setups.{fixed_of}
use Rattle.sys_build.proofs.protocols.fixed.Given as goal

abbrev pub invariant-loop-route : goal.invariant-loop-route
invariant-loop-route l = l.fixed.items ≡ map fixed_of (take l.route-index l.routes)
