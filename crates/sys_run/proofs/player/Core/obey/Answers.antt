use Rattle.std.proofs.Common.{◌≡◌, ◌≤◌, ◌-◌, length, Some, refl, sym, ap, subst, arith}
use Rattle.std.specs.Prelude.{slice_get}
use Rattle.core_machine.specs.Machine.{AllObey}
use Rattle.core_setup.specs.Channels.{channels}
use Rattle.core_setup.specs.Protocols.{rules_of, signal_of}
use Rattle.core_setup.proofs.PairLemmas.{get_one}
use Rattle.run_tables.proofs.Routing.{channels_length, item_read}
use Rattle.sys_run.specs.Cores.{counted}
use Rattle.sys_run.specs.declared.player.Core.{Core}
use Rattle.sys_run.specs.declared.protocol.Protocol.{Protocol}
use Rattle.sys_run.proofs.OperatingChannels.{counted_on, fits_on, obey_more}
use Rattle.sys_run.proofs.player.Core.obey.Goals as goal

pub loop-channel-init : goal.loop-channel-init
loop-channel-init g c = (
  refl,
  omega arith,
  λ setup s are fit. (
    s,
    subst (λ k. AllObey (signal_of c.args.mark) (rules_of setup) (counted c.index.result.now.from k) s s) (let z : 0 ≡ c.index.result.now.from - c.index.result.now.from = omega arith in z) refl,
    are,
  ),
)

pub obey-requires-clause-holds : goal.obey-requires-clause-holds
obey-requires-clause-holds g c =
    let items = c.args.self.now.protocols.items in
    let held = c.index.result.now in
    let eh : slice_get items c.args.number ≡ Some held = item_read items c.args.number held c.requires.there c.index.ensures in
    let same : c.index-2.result.now ≡ held = get_one items c.args.number c.index-2.result.now held (item_read items c.args.number c.index-2.result.now c.requires.there c.index-2.ensures) eh in
    let upto : c.index-2.result.now.upto ≡ held.upto = ap (λ (p : Protocol g.row.J.Denot). p.upto) same in
    let below = c.loop-channel-test.true in
    let low = c.loop-channel.auto.channel in
    let h = c.requires.holds held eh in
    let now = c.loop-channel.invariant.2 h.0 h.1 h.2 (λ n from_is high. h.3 n from_is (omega (arith, high, upto))) in (
      h.0,
      now.0,
      now.2,
      fits_on (rules_of h.0) h.2.rules_are (signal_of c.args.mark) held.from c.loop-channel.channel h.1 now.0 low now.1 (h.3 c.loop-channel.channel low (omega (arith, below, upto))),
    )

pub obey-requires-clause-there : goal.obey-requires-clause-there
obey-requires-clause-there g c =
    let items = c.args.self.now.protocols.items in
    let held = c.index.result.now in
    let eh : slice_get items c.args.number ≡ Some held = item_read items c.args.number held c.requires.there c.index.ensures in
    let same : c.index-2.result.now ≡ held = get_one items c.args.number c.index-2.result.now held (item_read items c.args.number c.index-2.result.now c.requires.there c.index-2.ensures) eh in
    let upto : c.index-2.result.now.upto ≡ held.upto = ap (λ (p : Protocol g.row.J.Denot). p.upto) same in
    let below = c.loop-channel-test.true in
    let h = c.requires.holds held eh in
    let within : held.upto ≤ length (channels h.0) = h.4 in
    let now = c.loop-channel.invariant.2 h.0 h.1 h.2 (λ n from_is high. h.3 n from_is (omega (arith, high, upto))) in
    let len : length (channels h.0) ≡ length c.loop-channel.self.routes.channels.items = channels_length g.J.Judge.verdict h.0 now.0 c.loop-channel.self.routes now.2 in
    omega (arith, below, upto, within, len)

pub loop-channel-preserved : goal.loop-channel-preserved
loop-channel-preserved g c =
    let below = c.loop-channel-test.true in
    let low = c.loop-channel.auto.channel in (
      ap (λ (core : Core g.row.J.Denot). record core { routes = c.obey.new.self }) c.loop-channel.invariant.0,
      omega (arith, below, low),
      λ setup s are fit.
          let now = c.loop-channel.invariant.2 setup s are fit in
          let fits = fits_on (rules_of setup) are.rules_are (signal_of c.args.mark) c.index.result.now.from c.loop-channel.channel s now.0 low now.1 (fit c.loop-channel.channel low below) in
          let one = c.in_ok-obey.ensures setup now.0 now.2 fits in (
            one.0,
            subst (λ cs. AllObey (signal_of c.args.mark) (rules_of setup) cs s one.0) (sym (counted_on c.index.result.now.from c.loop-channel.channel low))
                (obey_more (signal_of c.args.mark) (rules_of setup) (counted c.index.result.now.from (c.loop-channel.channel - c.index.result.now.from)) c.loop-channel.channel s now.0 one.0 now.1 one.1),
            one.2,
          ),
    )

pub returns-clause-routes : goal.returns-clause-routes
returns-clause-routes g c = λ setup s held are eh fit.
    let items = c.args.self.now.protocols.items in
    let one : c.index.result.now ≡ held = get_one items c.args.number c.index.result.now held (item_read items c.args.number c.index.result.now c.requires.there c.index.ensures) eh in
    let two : c.index-2.result.now ≡ held = get_one items c.args.number c.index-2.result.now held (item_read items c.args.number c.index-2.result.now c.requires.there c.index-2.ensures) eh in
    let low : c.index.result.now.from ≡ held.from = ap (λ (p : Protocol g.row.J.Denot). p.from) one in
    let upto : c.index-2.result.now.upto ≡ held.upto = ap (λ (p : Protocol g.row.J.Denot). p.upto) two in
    let now = c.loop-channel.invariant.2 setup s are (λ n from_is high. fit n (omega (arith, from_is, low)) (omega (arith, high, upto))) in
    let past = c.loop-channel-test.false in
    let most = c.loop-channel.invariant.1 in
    let count : c.loop-channel.channel - c.index.result.now.from ≡ held.upto - held.from = omega (arith, past, most, low, upto) in (
      now.0,
      subst (λ n. AllObey (signal_of c.args.mark) (rules_of setup) (counted n (held.upto - held.from)) s now.0) low
          (subst (λ k. AllObey (signal_of c.args.mark) (rules_of setup) (counted c.index.result.now.from k) s now.0) count now.1),
      now.2,
    )

pub returns-clause-kept : goal.returns-clause-kept
returns-clause-kept g c = c.loop-channel.invariant.0
