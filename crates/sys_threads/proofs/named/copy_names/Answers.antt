use Rattle.std.proofs.Common.{ℕ, ◌++◌, ◌∷◌, [], List, map, ap, ◌∙◌}
use Rattle.std.proofs.lemmas.List.{take_all}
use Rattle.sys_run.specs.declared.parts.ProtocolParts.{ProtocolParts}
use Rattle.sys_threads.proofs.Turns.{item_read, mapped_turn}
use Rattle.sys_threads.proofs.named.copy_names.Goals as goal

pub loop-protocol-preserved : goal.loop-protocol-preserved
loop-protocol-preserved g c =
    let xs = c.args.protocols.now in
    let k = c.loop-protocol.protocol-index in
    let x = c.protocol-item.result in
    let name : ProtocolParts g.row.J.Denot → List ℕ = λ p. p.name in
    mapped_turn name xs c.loop-protocol.names.items c.push.new.self.items k x (item_read xs k x c.loop-protocol-test.true c.protocol-item.is)
    (c.in_ok-push.ensures.items ∙ ap (λ n. c.loop-protocol.names.items ++ n ∷ []) c.in_ok-copy_name.ensures) c.loop-protocol.invariant

pub returns : goal.returns
returns g c = c.loop-protocol.invariant ∙ ap (map (λ (p : ProtocolParts g.row.J.Denot). p.name)) (take_all c.loop-protocol.protocol-index c.args.protocols.now c.loop-protocol-test.false)
