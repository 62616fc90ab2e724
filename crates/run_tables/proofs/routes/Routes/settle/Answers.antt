use Rattle.std.proofs.lemmas.Result.{on_ok_weaker}
use Rattle.run_tables.proofs.Obeying.{turn_down, turn_up}
use Rattle.run_tables.proofs.PushSteps.{open_is, shut_is}
use Rattle.run_tables.proofs.Routing.{as_state, item_read}
use Rattle.run_tables.proofs.routes.Routes.settle.Goals as goal

pub settle_up-requires-clause-holds : goal.settle_up-requires-clause-holds
settle_up-requires-clause-holds g c =
    let h = c.requires.holds in
    let r = c.args.self.now in
    let held = c.index.result.now in
    let there = item_read r.channels.items c.args.number held c.requires.there c.index.ensures in
    (h.0, h.1, h.2, open_is g.J.Judge.verdict h.0 h.1 r c.args.number h.2 held there c.in-Some.field-0 c.in-Some.is)

pub returns-in-Some : goal.returns-in-Some
returns-in-Some g c = on_ok_weaker c.settle_up.result (λ turns setup s are.
    let r = c.args.self.now in
    let held = c.index.result.now in
    let there = item_read r.channels.items c.args.number held c.requires.there c.index.ensures in
    let up = open_is g.J.Judge.verdict setup s r c.args.number are held there c.in-Some.field-0 c.in-Some.is in
    as_state g.J.Judge.verdict setup (turn_up g.J.Judge.verdict setup s r c.args.number are up) (turns setup s are up)) c.settle_up.ensures

pub returns-in-None : goal.returns-in-None
returns-in-None g c = λ setup s are.
    let r = c.args.self.now in
    let held = c.index.result.now in
    let there = item_read r.channels.items c.args.number held c.requires.there c.index.ensures in
    as_state g.J.Judge.verdict setup (turn_down g.J.Judge.verdict setup s r c.args.number are (shut_is g.J.Judge.verdict setup s r c.args.number are held there c.in-None.is)) are
