use Rattle.std.proofs.Common.{◌≡◌, map, take}
use Rattle.sys_run.specs.declared.parts.ProtocolParts.{ProtocolParts}
use Rattle.sys_threads.proofs.named.copy_names.Given as goal

abbrev pub invariant-loop-protocol : goal.invariant-loop-protocol
invariant-loop-protocol g l = l.names.items ≡ map (λ (p : ProtocolParts g.row.J.Denot). p.name) (take l.protocol-index l.protocols)
