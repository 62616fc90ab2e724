use Rattle.std.proofs.Common.{sym}
use Rattle.std.proofs.lemmas.Result.{on_ok_weaker}
use Rattle.core_machine.specs.Channels.{is_open, times}
use Rattle.core_machine.specs.Machine.{push_at}
use Rattle.core_machine.proofs.Contents.{if_false, if_true}
use Rattle.core_setup.specs.Protocols.{rules_of}
use Rattle.run_tables.proofs.PushSteps.{open_is, shut_is}
use Rattle.run_tables.proofs.Routing.{as_state, item_read}
use Rattle.run_tables.proofs.routes.Routes.push.Goals as goal

pub push_some-requires-clause-holds : goal.push_some-requires-clause-holds
push_some-requires-clause-holds g c =
    let h = c.requires.holds in
    let r = c.args.self.now in
    let held = c.index.result.now in
    let there = item_read r.channels.items c.args.number held c.requires.there c.index.ensures in
    (h.0, h.1, h.2, open_is g.J.Judge.verdict h.0 h.1 r c.args.number h.2 held there c.in-Some.field-0 c.in-Some.is)

pub returns-in-Some : goal.returns-in-Some
returns-in-Some g c = on_ok_weaker c.push_some.result (λ pushes setup s are.
    let r = c.args.self.now in
    let held = c.index.result.now in
    let there = item_read r.channels.items c.args.number held c.requires.there c.index.ensures in
    let up = open_is g.J.Judge.verdict setup s r c.args.number are held there c.in-Some.field-0 c.in-Some.is in
    as_state g.J.Judge.verdict setup (sym (if_true (is_open (s.channels c.args.number)) (times c.args.count (push_at (rules_of setup) c.args.number) s) s up)) (pushes setup s are)) c.push_some.ensures

pub returns-in-None : goal.returns-in-None
returns-in-None g c = λ setup s are.
    let r = c.args.self.now in
    let held = c.index.result.now in
    let there = item_read r.channels.items c.args.number held c.requires.there c.index.ensures in
    let shut = shut_is g.J.Judge.verdict setup s r c.args.number are held there c.in-None.is in
    as_state g.J.Judge.verdict setup (sym (if_false (is_open (s.channels c.args.number)) (times c.args.count (push_at (rules_of setup) c.args.number) s) s shut)) are
