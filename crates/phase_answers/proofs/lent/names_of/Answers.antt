use Rattle.std.proofs.Common.{map, ap, ◌∙◌}
use Rattle.std.proofs.lemmas.List.{take_all}
use Rattle.sys_run.specs.declared.parts.ProtocolParts.{ProtocolParts}
use Rattle.phase_answers.proofs.lent.names_of.Goals as goal

pub returns : goal.returns
returns g c = c.loop-protocol.invariant ∙ ap (map (λ (p : ProtocolParts g.row.J.Denot). p.name)) (take_all c.loop-protocol.protocol-index c.args.protocols.now c.loop-protocol-test.false)
