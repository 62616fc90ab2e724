use Rattle.std.proofs.Common.{List, arith, ap, ◌∙◌}
use Rattle.std.proofs.lemmas.List.{take_all}
use Rattle.sys_run.specs.Made.{directions_in, seen_in}
use Rattle.sys_run.specs.declared.parts.ProtocolParts.{ProtocolParts}
use Rattle.sys_run.proofs.MakingParts.{count_turn, directions_turn}
use Rattle.sys_run.proofs.MakingWays.{item_read}
use Rattle.sys_run.proofs.made.directions_of.Goals as goal

pub add_directions-requires : goal.add_directions-requires
add_directions-requires g c = omega (arith, c.requires, c.loop-protocol.invariant.0, c.loop-protocol-test.true)

pub loop-protocol-preserved : goal.loop-protocol-preserved
loop-protocol-preserved g c =
    let v = g.J.Judge.verdict in
    let xs = c.args.protocols.now in
    let k = c.loop-protocol.protocol-index in
    let x = c.protocol-item.result in
    let at : _ = item_read xs k x c.loop-protocol-test.true c.protocol-item.is in (
      omega (arith, c.loop-protocol.invariant.0, c.count_channels-channel.ensures.few),
      λ tables. count_turn v tables xs k c.loop-protocol.channel c.count_channels-channel.result x at
          (c.loop-protocol.invariant.1 tables) (c.count_channels-channel.ensures.many tables k x.name),
      λ tables. directions_turn v tables xs k c.loop-protocol.channel x c.loop-protocol.directions.items c.add_directions.new.directions.items at
          (c.loop-protocol.invariant.1 tables) (c.loop-protocol.invariant.2 tables) (c.in_ok-add_directions.ensures tables k x.name),
    )

pub returns : goal.returns
returns g c = λ tables. c.loop-protocol.invariant.2 tables
    ∙ ap (λ (l : List (ProtocolParts g.row.J.Denot)). directions_in 0 (seen_in g.J.Judge.verdict tables l)) (take_all c.loop-protocol.protocol-index c.args.protocols.now c.loop-protocol-test.false)
