use Rattle.std.proofs.Common.{◌≡◌, map, take}
use Rattle.std.specs.String.{string_bytes}
use Rattle.conf_check.specs.declared.checked.ProtocolDef.{ProtocolDef}
use Rattle.conf_system.proofs.system.names.Given as goal

abbrev pub invariant-loop-protocol : goal.invariant-loop-protocol
invariant-loop-protocol l = map string_bytes l.names.items ≡ map (λ (def : ProtocolDef). def.name) (take l.protocol-index l.protocols)
