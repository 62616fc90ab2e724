use Rattle.std.proofs.Common.{◌≡◌, ◌<◌, List, get_or, length, subst, sym}
use Rattle.conf_check.specs.declared.checked.ProtocolDef.{ProtocolDef}
use Rattle.conf_system.specs.contracts.passes.PassesJudge.TheImpl as passes
use Rattle.sys_run.specs.Parts.{protocol_seen}
use Rattle.conf_system.specs.Coded.{ProtocolCanRun}
use Rattle.conf_system.specs.Seen as system
use Rattle.sys_build.proofs.Turns.{protocols_turn}
use Rattle.sys_build.proofs.protocols.protocols.Goals as goal

pub protocol-requires-clause-before : goal.protocol-requires-clause-before
protocol-requires-clause-before c =
    let s = c.args.system.now in
    let same = c.deref-def-items.ensures.value in
    let number = c.loop-number.number in
    let def = c.def-item.result in
    subst (λ (d : ProtocolDef). ProtocolCanRun s d) (sym (subst (λ (l : List ProtocolDef). def ≡ get_or l number def) same c.def-item.is))
    (c.requires.code.ordered.protocols number def (subst (λ (l : List ProtocolDef). number < length l) same c.loop-number-test.true))

pub loop-number-preserved : goal.loop-number-preserved
loop-number-preserved c =
    let s = c.args.system.now in
    let number = c.loop-number.number in
    let def = c.def-item.result in
    let same = c.deref-def-items.ensures.value in
    protocols_turn (system.protocol_seen s.checked.declared.scope s.checked.filters.items s.names) (protocol_seen (passes.ghosts).verdict) s.checked.protocols.items number def
    c.loop-number.parts.items c.push.new.self.items c.in_ok-protocol.field-0
    (subst (λ (l : List ProtocolDef). number < length l) same c.loop-number-test.true)
    (subst (λ (l : List ProtocolDef). def ≡ get_or l number def) same c.def-item.is)
    c.loop-number.invariant
    c.in_ok-push.ensures.items
    c.in_ok-protocol.ensures
