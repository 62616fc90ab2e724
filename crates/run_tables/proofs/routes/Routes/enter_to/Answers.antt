use Rattle.std.proofs.Common.{Some, sym, ap, subst, ◌∙◌}
use Rattle.core_machine.specs.Machine.{arrived}
use Rattle.core_setup.specs.Protocols.{rules_of}
use Rattle.std.proofs.lemmas.Result.{on_ok_weaker}
use Rattle.run_tables.specs.Channels.{AreSources, Tells}
use Rattle.run_tables.proofs.PushSteps.{change_sourced, last_is, sent_admits, tells_sources, writes_there}
use Rattle.run_tables.proofs.Routing.{as_state, item_read}
use Rattle.run_tables.proofs.routes.Routes.enter_to.Goals as goal

pub entered-requires : goal.entered-requires
entered-requires g c =
    let h = c.requires.holds in
    let r = c.args.self.now in
    let held = c.index.result.now in
    let there = item_read r.channels.items c.args.number held c.requires.there c.index.ensures in
    subst (Tells held.exporter.log) (sym c.deref.ensures.value)
    (tells_sources g.J.Judge.verdict h.0 h.1 r c.args.number h.2 held there h.3 h.4 h.5 c.args.table (c.requires.writes held there) h.6)

pub append-requires-clause-holds : goal.append-requires-clause-holds
append-requires-clause-holds g c = let h = c.requires.holds in (h.0, h.1, h.2)

pub append-requires-clause-there : goal.append-requires-clause-there
append-requires-clause-there g c =
    let h = c.requires.holds in
    let r = c.args.self.now in
    let held = c.index.result.now in
    let there = item_read r.channels.items c.args.number held c.requires.there c.index.ensures in
    writes_there g.J.Judge.verdict h.0 h.1 r c.args.number h.2 held there c.args.table (c.requires.writes held there)

pub append-requires-clause-source : goal.append-requires-clause-source
append-requires-clause-source g c =
    let h = c.requires.holds in
    let r = c.args.self.now in
    let held = c.index.result.now in
    let there = item_read r.channels.items c.args.number held c.requires.there c.index.ensures in
    let last = last_is g.J.Judge.verdict h.0 h.1 r c.args.number h.2 held there h.3 h.4 h.5 in
    change_sourced (rules_of h.0) c.args.number _ h.3 c.in-Some.change (sym (c.in_ok-entered.ensures (rules_of h.0) h.3 h.4 (subst (AreSources (rules_of h.0)) (sym c.deref.ensures.value) h.2.sources) last) ∙ c.in-Some.is)
    (λ some. tells_sources g.J.Judge.verdict h.0 h.1 r c.args.number h.2 held there h.3 h.4 h.5 c.args.table (c.requires.writes held there) h.6 h.3 h.4 last some)

pub append-requires-clause-admitted : goal.append-requires-clause-admitted
append-requires-clause-admitted g c =
    let h = c.requires.holds in
    let r = c.args.self.now in
    let held = c.index.result.now in
    let there = item_read r.channels.items c.args.number held c.requires.there c.index.ensures in
    let last = last_is g.J.Judge.verdict h.0 h.1 r c.args.number h.2 held there h.3 h.4 h.5 in
    sent_admits g.J.Judge.verdict h.0 h.1 r c.args.number h.2 held there c.args.table (c.requires.writes held there) h.3 h.7 c.in-Some.change
    (sym (c.in_ok-entered.ensures (rules_of h.0) h.3 h.4 (subst (AreSources (rules_of h.0)) (sym c.deref.ensures.value) h.2.sources) last) ∙ c.in-Some.is)

pub returns-in-Some : goal.returns-in-Some
returns-in-Some g c = on_ok_weaker c.append.result (λ appended setup s x earlier are log.
    let r = c.args.self.now in
    let held = c.index.result.now in
    let there = item_read r.channels.items c.args.number held c.requires.there c.index.ensures in
    let last = last_is g.J.Judge.verdict setup s r c.args.number are held there x earlier log in
    as_state g.J.Judge.verdict setup
    (ap (λ o. arrived (rules_of setup) (Some c.args.table) o s) (sym c.in-Some.is ∙ c.in_ok-entered.ensures (rules_of setup) x earlier (subst (AreSources (rules_of setup)) (sym c.deref.ensures.value) are.sources) last))
    (appended setup s are)) c.append.ensures

pub returns-in-None : goal.returns-in-None
returns-in-None g c = λ setup s x earlier are log.
    let r = c.args.self.now in
    let held = c.index.result.now in
    let there = item_read r.channels.items c.args.number held c.requires.there c.index.ensures in
    let last = last_is g.J.Judge.verdict setup s r c.args.number are held there x earlier log in
    as_state g.J.Judge.verdict setup
    (ap (λ o. arrived (rules_of setup) (Some c.args.table) o s) (sym c.in-None.is ∙ c.in_ok-entered.ensures (rules_of setup) x earlier (subst (AreSources (rules_of setup)) (sym c.deref.ensures.value) are.sources) last)) are
