use Rattle.std.proofs.Common.{◌≡◌, sym, subst, reverse, Some}
use Rattle.std.proofs.lemmas.Result.{on_ok_weaker}
use Rattle.core_machine.specs.Machine.{appended}
use Rattle.core_setup.specs.Protocols.{rules_of}
use Rattle.core_setup.proofs.PairLemmas.{get_one}
use Rattle.run_tables.specs.Routes.{AreRoutes}
use Rattle.run_tables.proofs.Routing.{item_read}
use Rattle.sys_run.specs.Cores.{AreAdmitted, made_by, table_of}
use Rattle.sys_run.specs.declared.protocol.Body.{Body}
use Rattle.sys_run.specs.declared.protocol.Protocol.{Protocol}
use Rattle.sys_run.proofs.player.Core.change.Goals as goal

pub append_all-requires-clause-admitted : goal.append_all-requires-clause-admitted
append_all-requires-clause-admitted g c =
    let core = c.args.self.now in
    let held = c.index.result.now in
    let there = item_read core.protocols.items c.args.number held c.requires.there c.index.ensures in
    subst (λ (b : Body g.row.J.Denot). AreAdmitted b core.routes c.args.changes.items) c.in-Source.is (c.requires.admitted held there)

pub returns-in-Source-clause-routes : goal.returns-in-Source-clause-routes
returns-in-Source-clause-routes g c = on_ok_weaker c.append_all.result (λ done setup s given are e.
    let core = c.args.self.now in
    let v = g.J.Judge.verdict in
    let held = c.index.result.now in
    let there = item_read core.protocols.items c.args.number held c.requires.there c.index.ensures in
    subst (λ (p : Protocol g.row.J.Denot). AreRoutes v setup (appended (rules_of setup) (table_of p.body) (made_by p.body (reverse c.args.changes.items)) s) c.append_all.new.self) (get_one core.protocols.items c.args.number held given there e)
    (subst (λ (b : Body g.row.J.Denot). AreRoutes v setup (appended (rules_of setup) (table_of b) (made_by b (reverse c.args.changes.items)) s) c.append_all.new.self) (sym c.in-Source.is) (done setup s are))) c.append_all.ensures

pub returns-in-Pipe-clause-routes : goal.returns-in-Pipe-clause-routes
returns-in-Pipe-clause-routes g c = λ setup s given are e.
    let core = c.args.self.now in
    let v = g.J.Judge.verdict in
    let held = c.index.result.now in
    let there = item_read core.protocols.items c.args.number held c.requires.there c.index.ensures in
    subst (λ (p : Protocol g.row.J.Denot). AreRoutes v setup (appended (rules_of setup) (table_of p.body) (made_by p.body (reverse c.args.changes.items)) s) core.routes) (get_one core.protocols.items c.args.number held given there e)
    (subst (λ (b : Body g.row.J.Denot). AreRoutes v setup (appended (rules_of setup) (table_of b) (made_by b (reverse c.args.changes.items)) s) core.routes) (sym c.in-Pipe.is) are)
