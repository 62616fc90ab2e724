use Rattle.std.proofs.Common.{◌<◌, ◌+◌, ℕ, All, List, [], length, map, arith, ap, subst, sym, ◌∙◌}
use Rattle.std.proofs.lemmas.List.{take_all}
use Rattle.std.proofs.lemmas.List.Elements.{All-weaker}
use Rattle.core_setup.specs.Protocols.{starts_from}
use Rattle.sys_run.specs.Parts.{protocol_seen}
use Rattle.sys_run.specs.declared.parts.ProtocolParts.{ProtocolParts}
use Rattle.sys_threads.specs.Inside.{begins}
use Rattle.sys_threads.proofs.Turns.{below_more, item_read, starts_turn}
use Rattle.sys_threads.proofs.statics.statics_of.Goals as goal

pub loop-number-preserved : goal.loop-number-preserved
loop-number-preserved g c =
    let xs = c.args.protocols.now in
    let k = c.loop-number.number in
    let x = c.index-protocols-number.result in
    let old = c.loop-number.numbers.items in
    let new = c.push_start.new.numbers.items in
    let more = c.in_ok-push_start.ensures in (
      starts_turn g.J.Judge.verdict xs k x old new (item_read xs k x (omega arith) c.index-protocols-number.is) more c.loop-number.invariant.0,
      subst (λ (l : List ℕ). All (λ (n : ℕ). n < k + 1) l) (sym more) (below_more (begins x.body) k old c.loop-number.invariant.1),
    )

pub returns-clause-starts : goal.returns-clause-starts
returns-clause-starts g c =
    c.loop-number.invariant.0
    ∙ ap (λ (l : List (ProtocolParts g.row.J.Denot)). starts_from 0 (map (protocol_seen g.J.Judge.verdict) l) []) (take_all c.loop-number.number c.args.protocols.now (omega arith))

pub returns-clause-there : goal.returns-clause-there
returns-clause-there g c =
    let all = c.args.protocols.now in
    All-weaker (λ (n : ℕ). n < c.loop-number.number) (λ (n : ℕ). n < length all) (λ n w. omega (arith, w)) c.loop-number.numbers.items c.loop-number.invariant.1
