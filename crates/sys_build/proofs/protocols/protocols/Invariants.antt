use Rattle.std.proofs.Common.{◌≡◌, map, take}
use Rattle.conf_system.specs.contracts.passes.PassesJudge.TheImpl as passes
use Rattle.sys_run.specs.Parts.{protocol_seen}
use Rattle.conf_system.specs.Seen as system
use Rattle.sys_build.specs.Setups.{protocols_from}
use Rattle.sys_build.proofs.protocols.protocols.Given as goal

abbrev pub invariant-loop-number : goal.invariant-loop-number
invariant-loop-number l =
    map (protocol_seen (passes.ghosts).verdict) l.parts.items
    ≡ protocols_from 0 (map (system.protocol_seen l.system.checked.declared.scope l.system.checked.filters.items l.system.names) (take l.number l.system.checked.protocols.items))
