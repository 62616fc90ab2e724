use Rattle.std.proofs.Common.{◌≡◌, true, false, refl, reverse}
use Rattle.core_setup.specs.Protocols.{rules_of}
use Rattle.run_tables.proofs.Reading.{found_one, some_up}
use Rattle.run_tables.proofs.Routing.{as_state}
use Rattle.run_tables.proofs.RouteSteps.{push_is, quiet_is, quiet_none}
use Rattle.run_tables.proofs.PushSteps.{apart_of, nothing_told, push_leaves, quiet_told, sent_is}
use Rattle.run_tables.proofs.routes.Routes.push_one.Goals as goal

pub push-requires : goal.push-requires
push-requires g c =
    let h = c.requires.holds in
    let f = found_one g.J.Judge.verdict h.0 h.1 c.args.self.now c.args.number h.2 c.requires.there c.index_mut.result.now c.index_mut.ensures.value in
    some_up g.J.Judge.verdict h.0 h.1 c.args.self.now c.args.number h.2 c.requires.there c.index_mut.result.now f.0 true h.3 f.2

pub enter-requires-clause-holds : goal.enter-requires-clause-holds
enter-requires-clause-holds g c =
    let v = g.J.Judge.verdict in
    let h = c.requires.holds in
    let r = c.args.self.now in
    let held = c.index_mut.result.now in
    let e = c.index_mut.ensures.value in
    let x = sent_is v h.0 h.1 r c.args.number h.2 c.requires.there held c.push.new.self e c.in_ok-pushed.ensures.pushes c.in_ok-pushed.pushed c.in_ok-pushed.ensures.tells c.in-Sent.is in
    (h.0, _, push_leaves v h.0 h.1 r c.args.number h.2 c.requires.there held c.push.new.self e c.in_ok-pushed.ensures.pushes _ (record { cells = refl; readers = refl; sources = refl }) refl refl, x.x, reverse held.exporter.log, x.log, x.of_protocol, x.of_family)

pub returns-in_ok-enter-in-Sent-clause-pushes : goal.returns-in_ok-enter-in-Sent-clause-pushes
returns-in_ok-enter-in-Sent-clause-pushes g c = λ setup s are.
    let v = g.J.Judge.verdict in
    let r = c.args.self.now in
    let held = c.index_mut.result.now in
    let e = c.index_mut.ensures.value in
    let x = sent_is v setup s r c.args.number are c.requires.there held c.push.new.self e c.in_ok-pushed.ensures.pushes c.in_ok-pushed.pushed c.in_ok-pushed.ensures.tells c.in-Sent.is in
    as_state v setup (push_is (rules_of setup) c.args.number s _ (apart_of v setup s r c.args.number are) x.gains)
    (c.in_ok-enter-in-Sent.ensures setup _ x.x (reverse held.exporter.log)
    (push_leaves v setup s r c.args.number are c.requires.there held c.push.new.self e c.in_ok-pushed.ensures.pushes _ (record { cells = refl; readers = refl; sources = refl }) refl refl) x.log)

pub returns-in_ok-enter-in-Sent-clause-marks : goal.returns-in_ok-enter-in-Sent-clause-marks
returns-in_ok-enter-in-Sent-clause-marks g c = λ setup s are. (
  λ bad. absurd (let no : true ≡ false = bad in cc),
  λ _. (sent_is g.J.Judge.verdict setup s c.args.self.now c.args.number are c.requires.there c.index_mut.result.now c.push.new.self c.index_mut.ensures.value c.in_ok-pushed.ensures.pushes c.in_ok-pushed.pushed c.in_ok-pushed.ensures.tells c.in-Sent.is).marked,
)

pub returns-in-Quiet-clause-pushes : goal.returns-in-Quiet-clause-pushes
returns-in-Quiet-clause-pushes g c = λ setup s are.
    let v = g.J.Judge.verdict in
    let r = c.args.self.now in
    let held = c.index_mut.result.now in
    let e = c.index_mut.ensures.value in
    let t = quiet_told v setup s r c.args.number are c.requires.there held c.push.new.self e c.in_ok-pushed.ensures.pushes c.in_ok-pushed.pushed c.in_ok-pushed.ensures.tells c.in-Quiet.is in
    as_state v setup (quiet_is (rules_of setup) c.args.number s t.1)
    (push_leaves v setup s r c.args.number are c.requires.there held c.push.new.self e c.in_ok-pushed.ensures.pushes _ (record { cells = refl; readers = refl; sources = refl }) refl refl)

pub returns-in-Quiet-clause-marks : goal.returns-in-Quiet-clause-marks
returns-in-Quiet-clause-marks g c = λ setup s are. (
  λ bad. absurd (let no : true ≡ false = bad in cc),
  λ _. (quiet_told g.J.Judge.verdict setup s c.args.self.now c.args.number are c.requires.there c.index_mut.result.now c.push.new.self c.index_mut.ensures.value c.in_ok-pushed.ensures.pushes c.in_ok-pushed.pushed c.in_ok-pushed.ensures.tells c.in-Quiet.is).0,
)

pub returns-in-Nothing-clause-pushes : goal.returns-in-Nothing-clause-pushes
returns-in-Nothing-clause-pushes g c = λ setup s are.
    let v = g.J.Judge.verdict in
    let r = c.args.self.now in
    let held = c.index_mut.result.now in
    let e = c.index_mut.ensures.value in
    let none = nothing_told v setup s r c.args.number are c.requires.there held c.push.new.self e c.in_ok-pushed.ensures.pushes c.in_ok-pushed.pushed c.in_ok-pushed.ensures.tells c.in-Nothing.is in
    as_state v setup (quiet_none (rules_of setup) c.args.number s none)
    (push_leaves v setup s r c.args.number are c.requires.there held c.push.new.self e c.in_ok-pushed.ensures.pushes _ (record { cells = refl; readers = refl; sources = refl }) refl refl)

pub returns-in-Nothing-clause-marks : goal.returns-in-Nothing-clause-marks
returns-in-Nothing-clause-marks g c = λ setup s are. (
  λ _. nothing_told g.J.Judge.verdict setup s c.args.self.now c.args.number are c.requires.there c.index_mut.result.now c.push.new.self c.index_mut.ensures.value c.in_ok-pushed.ensures.pushes c.in_ok-pushed.pushed c.in_ok-pushed.ensures.tells c.in-Nothing.is,
  λ bad. absurd (let no : false ≡ true = bad in cc),
)
