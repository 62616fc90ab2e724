use Rattle.std.proofs.Common.{List, length, map, arith, ap, sym, ◌∙◌}
use Rattle.std.proofs.lemmas.List.{take_all}
use Rattle.core_setup.specs.Channels.{channels_from}
use Rattle.sys_run.specs.Parts.{protocol_seen}
use Rattle.sys_run.specs.declared.parts.ProtocolParts.{ProtocolParts}
use Rattle.sys_run.proofs.MakingParts.{count_turn}
use Rattle.sys_run.proofs.MakingWays.{item_read}
use Rattle.room_first.proofs.Turns.{body_counts, two_most}
use Rattle.room_first.proofs.counts.count_channels.Goals as goal

pub overflow_add-count : goal.overflow_add-count
overflow_add-count g c =
    let most = two_most c.protocol-item.result.body in
    omega (arith, c.requires, c.loop-protocol.invariant.0, c.loop-protocol-test.true, c.channels_of-count.ensures, most)

pub loop-protocol-preserved : goal.loop-protocol-preserved
loop-protocol-preserved g c =
    let v = g.J.Judge.verdict in
    let xs = c.args.protocols.now in
    let k = c.loop-protocol.protocol-index in
    let x = c.protocol-item.result in
    let most = two_most x.body in (
      omega (arith, c.loop-protocol.invariant.0, c.channels_of-count.ensures, most),
      λ tables. count_turn v tables xs k c.loop-protocol.count c.channels_of-count.result x (item_read xs k x c.loop-protocol-test.true c.protocol-item.is)
          (c.loop-protocol.invariant.1 tables) (c.channels_of-count.ensures ∙ sym (body_counts v tables k x.name x.body)),
    )

pub returns : goal.returns
returns g c = λ tables. c.loop-protocol.invariant.1 tables
    ∙ ap (λ (l : List (ProtocolParts g.row.J.Denot)). length (channels_from tables 0 (map (protocol_seen g.J.Judge.verdict) l))) (take_all c.loop-protocol.protocol-index c.args.protocols.now c.loop-protocol-test.false)
