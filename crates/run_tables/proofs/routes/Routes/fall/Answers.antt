use Rattle.std.proofs.Common.{refl, ap, ◌∙◌, Some, None}
use Rattle.std.proofs.lemmas.Result.{on_ok_weaker}
use Rattle.core_machine.specs.Channels.{closed}
use Rattle.core_setup.specs.Protocols.{rules_of}
use Rattle.core_setup.proofs.PairLemmas.{get_one}
use Rattle.run_tables.specs.declared.channel.Channel.{Channel}
use Rattle.run_tables.proofs.Kept.{fallen}
use Rattle.run_tables.proofs.Obeying.{falls_alone, falls_from, log_up, none_left, target_is}
use Rattle.run_tables.proofs.Reading.{found_one}
use Rattle.run_tables.proofs.Routing.{channel_is, item_read}
use Rattle.run_tables.proofs.routes.Routes.fall.Goals as goal

pub fall_from-requires-clause-holds : goal.fall_from-requires-clause-holds
fall_from-requires-clause-holds g c = let h = c.requires.holds in (h.0, h.1, h.2, h.3)

pub fall_from-requires-clause-writes : goal.fall_from-requires-clause-writes
fall_from-requires-clause-writes g c = λ held there.
    ap (λ (x : Channel _). x.target) (get_one c.args.self.now.channels.items c.args.number held c.index.result.now there
    (item_read c.args.self.now.channels.items c.args.number c.index.result.now c.requires.there c.index.ensures)) ∙ c.in-Some.is

pub returns-in-Some : goal.returns-in-Some
returns-in-Some g c = on_ok_weaker c.fall_from.result (λ fell setup s are fits.
    let v = g.J.Judge.verdict in
    let r = c.args.self.now in
    let held = c.index.result.now in
    let there = item_read r.channels.items c.args.number held c.requires.there c.index.ensures in
    (_, falls_from v setup s r c.args.number are c.in-Some.table _ (target_is v setup s r c.args.number are held there (Some c.in-Some.table) c.in-Some.is) refl, fell setup s are)) c.fall_from.ensures

pub fall-requires-clause-up : goal.fall-requires-clause-up
fall-requires-clause-up g c =
    let h = c.requires.holds in
    let f = found_one g.J.Judge.verdict h.0 h.1 c.args.self.now c.args.number h.2 c.requires.there c.index_mut.result.now c.index_mut.ensures.value in
    log_up g.J.Judge.verdict h.0 h.1 c.args.self.now c.args.number h.2 c.index_mut.result.now f.1 h.3

pub fall-requires-clause-withdrawn : goal.fall-requires-clause-withdrawn
fall-requires-clause-withdrawn g c =
    let h = c.requires.holds in
    let f = found_one g.J.Judge.verdict h.0 h.1 c.args.self.now c.args.number h.2 c.requires.there c.index_mut.result.now c.index_mut.ensures.value in
    none_left g.J.Judge.verdict h.0 h.1 c.args.self.now c.args.number h.2 c.index_mut.result.now f.1
    (ap (λ (x : Channel _). x.target) (get_one c.args.self.now.channels.items c.args.number c.index_mut.result.now c.index.result.now f.1
    (item_read c.args.self.now.channels.items c.args.number c.index.result.now c.requires.there c.index.ensures)) ∙ c.in-None.is)

pub returns-in_ok-fall-in-None : goal.returns-in_ok-fall-in-None
returns-in_ok-fall-in-None g c = λ setup s are fits.
    let v = g.J.Judge.verdict in
    let r = c.args.self.now in
    let held = c.index_mut.result.now in
    let f = found_one v setup s r c.args.number are c.requires.there held c.index_mut.ensures.value in
    let none = ap (λ (x : Channel _). x.target) (get_one r.channels.items c.args.number held c.index.result.now f.1
    (item_read r.channels.items c.args.number c.index.result.now c.requires.there c.index.ensures)) ∙ c.in-None.is in (
      _,
      falls_alone v setup s r c.args.number are _ (target_is v setup s r c.args.number are held f.1 None none) refl,
      channel_is v setup s r _ c.args.number held c.fall.new.self f.0 f.2 f.1 (record { cells = refl; readers = refl; sources = refl }) refl refl (closed (s.channels c.args.number))
          (fallen v (rules_of setup) c.args.number (s.history held.table) (Some f.2.family) held c.fall.new.self (s.channels c.args.number) c.fall.ensures.table c.fall.ensures.target
          c.in_ok-fall-in-None.ensures.cursor c.in_ok-fall-in-None.ensures.ends f.2.channel) are,
    )
