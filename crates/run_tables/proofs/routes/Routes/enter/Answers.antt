use Rattle.std.proofs.Common.{sym, ap, ◌∙◌}
use Rattle.core_machine.specs.Machine.{arrived}
use Rattle.core_machine.specs.Match.{change_of_sending}
use Rattle.core_setup.specs.Protocols.{rules_of}
use Rattle.core_setup.proofs.PairLemmas.{get_one}
use Rattle.std.proofs.lemmas.Result.{on_ok_weaker}
use Rattle.run_tables.specs.declared.channel.Channel.{Channel}
use Rattle.run_tables.proofs.Routing.{as_state, item_read, target_of}
use Rattle.run_tables.proofs.routes.Routes.enter.Goals as goal

pub enter_to-requires-clause-writes : goal.enter_to-requires-clause-writes
enter_to-requires-clause-writes g c = λ held there.
    ap (λ (x : Channel _). x.target) (get_one c.args.self.now.channels.items c.args.number held c.index.result.now there
    (item_read c.args.self.now.channels.items c.args.number c.index.result.now c.requires.there c.index.ensures)) ∙ c.in-Some.is

pub returns-in-Some : goal.returns-in-Some
returns-in-Some g c = on_ok_weaker c.enter_to.result (λ enters setup s x earlier are log.
    let r = c.args.self.now in
    let held = c.index.result.now in
    let there = item_read r.channels.items c.args.number held c.requires.there c.index.ensures in
    as_state g.J.Judge.verdict setup
    (ap (λ o. arrived (rules_of setup) o (change_of_sending (rules_of setup) x) s) (sym c.in-Some.is ∙ target_of g.J.Judge.verdict setup s r are c.args.number held there))
    (enters setup s x earlier are log)) c.enter_to.ensures

pub returns-in-None : goal.returns-in-None
returns-in-None g c = λ setup s x earlier are log.
    let r = c.args.self.now in
    let held = c.index.result.now in
    let there = item_read r.channels.items c.args.number held c.requires.there c.index.ensures in
    as_state g.J.Judge.verdict setup
    (ap (λ o. arrived (rules_of setup) o (change_of_sending (rules_of setup) x) s) (sym c.in-None.is ∙ target_of g.J.Judge.verdict setup s r are c.args.number held there)) are
