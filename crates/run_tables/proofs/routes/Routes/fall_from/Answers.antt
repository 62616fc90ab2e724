use Rattle.std.proofs.Common.{◌≡◌, true, refl, sym, ap, ◌∙◌, None, Some}
use Rattle.std.proofs.lemmas.Result.{on_ok_weaker}
use Rattle.bits_ip.specs.Address.{family_of}
use Rattle.export_core.specs.declared.log.Key.{Key}
use Rattle.core_machine.specs.Channels.{closed}
use Rattle.core_machine.specs.Enters.{withdrawal}
use Rattle.core_setup.specs.Protocols.{rules_of}
use Rattle.core_setup.specs.Setup.{family_at}
use Rattle.run_tables.specs.Routes.{AdmitsAt}
use Rattle.run_tables.proofs.Changing.{from_recursion}
use Rattle.run_tables.proofs.Obeying.{flushed_state, is_every, target_is}
use Rattle.run_tables.proofs.PushSteps.{admits_there, writes_there}
use Rattle.run_tables.proofs.Reading.{found_one, some_up}
use Rattle.run_tables.proofs.Routing.{as_state, channel_is, table_of}
use Rattle.run_tables.proofs.routes.Routes.fall_from.Goals as goal

pub flush-requires-clause-up : goal.flush-requires-clause-up
flush-requires-clause-up g c =
    let h = c.requires.holds in
    let f = found_one g.J.Judge.verdict h.0 h.1 c.args.self.now c.args.number h.2 c.requires.there c.index_mut.result.now c.index_mut.ensures.value in
    some_up g.J.Judge.verdict h.0 h.1 c.args.self.now c.args.number h.2 c.requires.there c.index_mut.result.now f.0 true h.3 f.2

pub flush-requires-clause-every : goal.flush-requires-clause-every
flush-requires-clause-every g c =
    let h = c.requires.holds in
    let f = found_one g.J.Judge.verdict h.0 h.1 c.args.self.now c.args.number h.2 c.requires.there c.index_mut.result.now c.index_mut.ensures.value in
    is_every g.J.Judge.verdict h.0 h.1 c.args.self.now c.args.number h.2 c.index_mut.result.now f.1 c.args.table (c.requires.writes c.index_mut.result.now f.1)

pub withdraw-requires-clause-holds : goal.withdraw-requires-clause-holds
withdraw-requires-clause-holds g c =
    let v = g.J.Judge.verdict in
    let h = c.requires.holds in
    let held = c.index_mut.result.now in
    let f = found_one v h.0 h.1 c.args.self.now c.args.number h.2 c.requires.there held c.index_mut.ensures.value in (
      h.0,
      _,
      channel_is v h.0 h.1 c.args.self.now _ c.args.number held c.flush.new.self f.0 f.2 f.1 (record { cells = refl; readers = refl; sources = refl }) refl refl (closed (h.1.channels c.args.number))
          (c.in_ok-keys.ensures (rules_of h.0) c.args.number f.2.family (h.1.history held.table) (h.1.channels c.args.number) f.2.channel).1 h.2,
    )

pub withdraw-requires-clause-there : goal.withdraw-requires-clause-there
withdraw-requires-clause-there g c =
    let h = c.requires.holds in
    let f = found_one g.J.Judge.verdict h.0 h.1 c.args.self.now c.args.number h.2 c.requires.there c.index_mut.result.now c.index_mut.ensures.value in
    writes_there g.J.Judge.verdict h.0 h.1 c.args.self.now c.args.number h.2 c.index_mut.result.now f.1 c.args.table (c.requires.writes c.index_mut.result.now f.1)

pub withdraw-requires-clause-admitted : goal.withdraw-requires-clause-admitted
withdraw-requires-clause-admitted g c =
    let v = g.J.Judge.verdict in
    let h = c.requires.holds in
    let held = c.index_mut.result.now in
    let f = found_one v h.0 h.1 c.args.self.now c.args.number h.2 c.requires.there held c.index_mut.ensures.value in
    let is = c.in_ok-keys.ensures (rules_of h.0) c.args.number f.2.family (h.1.history held.table) (h.1.channels c.args.number) f.2.channel in
    let reads : family_at h.0.tables ((rules_of h.0).reads c.args.number) ≡ Some f.2.family =
    ap (family_at h.0.tables) (sym (table_of v h.0 h.1 c.args.self.now h.2 c.args.number held f.1)) ∙ f.2.family_is in
    from_recursion (λ (k : Key). family_of k.net.addr ≡ f.2.family) (λ (k : Key). AdmitsAt c.args.table c.args.self.now (withdrawal k))
    (λ k e. admits_there v h.0 h.1 c.args.self.now c.args.number h.2 held f.1 c.args.table (c.requires.writes held f.1) k.net k.num None (reads ∙ ap Some (sym e)) tt)
    c.in_ok-keys.keys.items is.2

pub returns : goal.returns
returns g c = on_ok_weaker c.withdraw.result (λ withdrawn setup s are.
    let v = g.J.Judge.verdict in
    let held = c.index_mut.result.now in
    let f = found_one v setup s c.args.self.now c.args.number are c.requires.there held c.index_mut.ensures.value in
    let is = c.in_ok-keys.ensures (rules_of setup) c.args.number f.2.family (s.history held.table) (s.channels c.args.number) f.2.channel in
    as_state v setup
    (flushed_state v setup s c.args.self.now c.args.number are c.args.table c.in_ok-keys.keys.items
    (target_is v setup s c.args.self.now c.args.number are held f.1 (Some c.args.table) (c.requires.writes held f.1)) is.0)
    (withdrawn setup _
    (channel_is v setup s c.args.self.now _ c.args.number held c.flush.new.self f.0 f.2 f.1 (record { cells = refl; readers = refl; sources = refl }) refl refl (closed (s.channels c.args.number)) is.1 are))) c.withdraw.ensures
