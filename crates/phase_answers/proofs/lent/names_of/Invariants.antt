use Rattle.std.proofs.Common.{◌≡◌, map, take}
use Rattle.sys_run.specs.declared.parts.ProtocolParts.{ProtocolParts}
use Rattle.phase_answers.proofs.lent.names_of.Given as goal

abbrev pub invariant-loop-protocol : goal.invariant-loop-protocol
invariant-loop-protocol g l = map (λ name. name.now) l.names.items ≡ map (λ (p : ProtocolParts g.row.J.Denot). p.name) (take l.protocol-index l.protocols)
