use Rattle.std.proofs.Common.{◌+◌, List, refl, ap, subst, ◌∙◌, arith}
use Rattle.std.proofs.lemmas.List.{take_all}
use Rattle.run_tables.specs.declared.channel.Channel.{Channel}
use Rattle.sys_run.specs.Made.{AreLists, readers_in}
use Rattle.sys_run.proofs.MakingRoutes.{readers_turn}
use Rattle.core_setup.proofs.PairLemmas.{length-set_at}
use Rattle.sys_run.proofs.MakingWays.{item_read}
use Rattle.sys_run.proofs.made.readers_of.Goals as goal

pub index_mut-requires : goal.index_mut-requires
index_mut-requires g c =
    let k = c.loop-channel.channel-index in
    let x = c.channel-item.result in
    omega (arith, c.requires k x (item_read c.args.channels.now k x c.loop-channel-test.true c.channel-item.is), c.loop-channel.invariant.0, c.loop-channel.readers.ok.0)

pub loop-channel-init : goal.loop-channel-init
loop-channel-init g c = (c.in_ok-readers.ensures.0, refl, c.in_ok-readers.ensures.1)

pub loop-channel-preserved : goal.loop-channel-preserved
loop-channel-preserved g c =
    let k = c.loop-channel.channel-index in
    let x = c.channel-item.result in
    let cs = c.args.channels.now in
    let at = item_read cs k x c.loop-channel-test.true c.channel-item.is in
    let held = c.loop-channel.readers.items in (
      length-set_at held x.table c.push.new.self ∙ c.loop-channel.invariant.0,
      ap (λ n. n + 1) c.loop-channel.invariant.1,
      readers_turn cs k x held c.index_mut.result.now c.push.new.self c.loop-channel.number at c.loop-channel.invariant.1
          (item_read held x.table c.index_mut.result.now (omega (arith, c.requires k x at, c.loop-channel.invariant.0)) c.index_mut.ensures.value) c.in_ok-push.ensures.items c.loop-channel.invariant.2,
    )

pub returns-clause-count : goal.returns-clause-count
returns-clause-count g c = c.loop-channel.invariant.0

pub returns-clause-readers : goal.returns-clause-readers
returns-clause-readers g c =
    subst (λ (l : List (Channel g.row.J.Denot)). AreLists c.loop-channel.readers.items (readers_in l)) (take_all c.loop-channel.channel-index c.args.channels.now c.loop-channel-test.false) c.loop-channel.invariant.2
