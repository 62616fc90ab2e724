use Rattle.std.proofs.Common.{List, arith, ap, ◌∙◌, length}
use Rattle.std.proofs.lemmas.List.{take_all}
use Rattle.sys_run.specs.Made.{seen_in}
use Rattle.sys_run.specs.declared.parts.ProtocolParts.{ProtocolParts}
use Rattle.sys_run.proofs.MakingParts.{count_turn}
use Rattle.sys_run.proofs.MakingWays.{item_read}
use Rattle.sys_run.proofs.made.count_all.Goals as goal

pub overflow_add-count : goal.overflow_add-count
overflow_add-count g c = omega (arith, c.requires, c.loop-protocol.invariant.0, c.loop-protocol-test.true, c.count_channels-count.ensures.few)

pub loop-protocol-preserved : goal.loop-protocol-preserved
loop-protocol-preserved g c =
    let xs = c.args.protocols.now in
    let k = c.loop-protocol.protocol-index in
    let x = c.protocol-item.result in (
      omega (arith, c.loop-protocol.invariant.0, c.count_channels-count.ensures.few),
      λ tables. count_turn g.J.Judge.verdict tables xs k c.loop-protocol.count c.count_channels-count.result x (item_read xs k x c.loop-protocol-test.true c.protocol-item.is)
          (c.loop-protocol.invariant.1 tables) (c.count_channels-count.ensures.many tables k x.name),
    )

pub returns : goal.returns
returns g c = λ tables. c.loop-protocol.invariant.1 tables
    ∙ ap (λ (l : List (ProtocolParts g.row.J.Denot)). length (seen_in g.J.Judge.verdict tables l)) (take_all c.loop-protocol.protocol-index c.args.protocols.now c.loop-protocol-test.false)
