use Rattle.std.proofs.Common.{◌≡◌, ◌+◌, suc, Some, length, map, refl, sym, ap, ◌∙◌, arith}
use Rattle.std.specs.Prelude.{slice_get}
use Rattle.std.proofs.lemmas.List.{length-map}
use Rattle.core_setup.specs.Channels.{channels}
use Rattle.core_setup.specs.Protocols.{passed_below, rules_of}
use Rattle.core_setup.specs.Setup.{Setup}
use Rattle.sys_run.specs.Made.{directions_in}
use Rattle.sys_run.specs.Parts.{protocol_seen, setup_seen, table_seen}
use Rattle.sys_run.proofs.MakingParts.{directions_within, home_is, lists_till, passed_turn}
use Rattle.sys_run.proofs.MakingWays.{given_moved, item_read, within_moved}
use Rattle.sys_run.proofs.made.passed_by.Goals as goal

pub pass_source-requires : goal.pass_source-requires
pass_source-requires g c =
    let v = g.J.Judge.verdict in
    let f = c.requires.fits in
    let setup : Setup = setup_seen v f.0 c.args.protocols.now f.1 f.2 f.3 in
    within_moved (length setup.tables) c.args.tables (length (channels setup)) (length c.loop-protocol.passed.items) (directions_in 0 (channels setup)) c.deref.result.now
    (length-map f.0 table_seen ∙ f.4)
    (sym (c.loop-protocol.invariant.0 ∙ c.in_ok-passed.ensures.0 ∙ c.count_all.ensures (map table_seen f.0)))
    (sym (c.deref.ensures.value ∙ c.in_ok-directions.ensures (map table_seen f.0)))
    (directions_within setup f.5)

pub overflow_add-number : goal.overflow_add-number
overflow_add-number g c = omega (arith, c.requires.few, c.loop-protocol.invariant.1, c.loop-protocol-test.true)

pub loop-protocol-init : goal.loop-protocol-init
loop-protocol-init g c = (refl, refl, λ parts cells choices queries e. c.in_ok-passed.ensures.1)

pub loop-protocol-preserved : goal.loop-protocol-preserved
loop-protocol-preserved g c =
    let v = g.J.Judge.verdict in
    let ps = c.args.protocols.now in
    let k = c.loop-protocol.protocol-index in
    let x = c.protocol-item.result in
    let home = c.home_of-home.result in
    let new = c.pass_source.new.passed.items in
    let there : slice_get ps k ≡ Some x = item_read ps k x c.loop-protocol-test.true c.protocol-item.is in
    let count = c.in_ok-pass_source.ensures.count ∙ c.loop-protocol.invariant.0 in (
      count,
      ap (λ n. n + 1) c.loop-protocol.invariant.1,
      λ parts cells choices queries e.
          let setup : Setup = setup_seen v parts ps cells choices queries in
          lists_till setup new (suc k) (k + 1) (let z : suc k ≡ k + 1 = omega arith in z)
          (passed_turn setup k home new (home_is v parts ps cells choices queries k c.args.tables home x there e c.home_of-home.ensures)
          (count ∙ c.in_ok-passed.ensures.0 ∙ c.count_all.ensures (map table_seen parts))
          (given_moved c.deref.result.now (directions_in 0 (channels setup)) c.args.tables (length setup.tables) c.loop-protocol.number k home new (λ d. passed_below (rules_of setup) d k)
          (c.deref.ensures.value ∙ c.in_ok-directions.ensures (map table_seen parts)) (sym (length-map parts table_seen ∙ e)) c.loop-protocol.invariant.1
          (c.in_ok-pass_source.ensures.lists (λ d. passed_below (rules_of setup) d k) (c.loop-protocol.invariant.2 parts cells choices queries e)))),
    )

pub returns : goal.returns
returns g c = λ parts cells choices queries e.
    let v = g.J.Judge.verdict in
    let ps = c.args.protocols.now in
    let setup : Setup = setup_seen v parts ps cells choices queries in
    record {
      count = c.loop-protocol.invariant.0 ∙ c.in_ok-passed.ensures.0 ∙ c.count_all.ensures (map table_seen parts);
      each = lists_till setup c.loop-protocol.passed.items c.loop-protocol.protocol-index (length setup.protocols)
          (let all : c.loop-protocol.protocol-index ≡ length ps = omega (arith, c.loop-protocol-test.false, c.loop-protocol.auto.protocol-index-end) in all ∙ sym (length-map ps (protocol_seen v)))
          (c.loop-protocol.invariant.2 parts cells choices queries e);
    }
