use Rattle.std.proofs.Common.{sym, subst, ◌∙◌, arith}
use Rattle.std.proofs.lemmas.Result.{IfOk-weaker}
use Rattle.phase_room.specs.Opened.{AreOfEach, IsPassOf}
use Rattle.room_open.specs.Laid.{CanEnterAll}
use Rattle.room_open.proofs.Beginning.{entered_there, none_entered}
use Rattle.room_open.proofs.room.fill.Goals as goal

pub enter_all-requires-clause-few : goal.enter_all-requires-clause-few
enter_all-requires-clause-few g c =
    let few = c.requires.actors.1 in
    let hands = c.in_ok-begun.ensures.actors in
    (c.requires.few, omega (arith, few, hands))

pub enter_all-requires-clause-can : goal.enter_all-requires-clause-can
enter_all-requires-clause-can g c =
    let s = c.requires.can in
    let opened = c.args.opened in
    (s.0, subst (λ z. CanEnterAll g.J.Judge.verdict (g.P.Phase.terms c.args.played.now) (g.P.Sends.exports c.args.played.now) s.0 z c.args.before.items opened.cursors.items opened.ports.items c.args.members.items) (sym c.in_ok-begun.ensures.tables) s.1)

pub enter_all-requires-clause-begun : goal.enter_all-requires-clause-begun
enter_all-requires-clause-begun g c = λ stood.
    let made = c.in_ok-begun.ensures in
    let actors = c.requires.actors.0 in
    let hands = made.actors in
    none_entered g.P.Phase.terms g.P.Sends.exports g.P.Sends.rules c.args.played.now stood c.in_ok-begun.begun made.begun made.played (omega (arith, actors, hands)) made.members

pub seat_in-requires-clause-actors : goal.seat_in-requires-clause-actors
seat_in-requires-clause-actors g c = (c.requires.actors.0, c.requires.actors.2)

pub seat_in-requires-clause-passes : goal.seat_in-requires-clause-passes
seat_in-requires-clause-passes g c =
    let s = c.requires.can in
    let opened = c.args.opened in
    let made = c.in_ok-begun.ensures in
    let can = subst (λ z. CanEnterAll g.J.Judge.verdict (g.P.Phase.terms c.args.played.now) (g.P.Sends.exports c.args.played.now) s.0 z c.args.before.items opened.cursors.items opened.ports.items c.args.members.items) (sym made.tables) s.1 in
    let entered = c.in_ok-enter_all.ensures.begun s.0 can in
    subst (λ z. AreOfEach IsPassOf z opened.passes.items) (sym (entered.tables_are ∙ made.tables)) c.requires.passes

pub seat_in-requires-clause-spares : goal.seat_in-requires-clause-spares
seat_in-requires-clause-spares g c = c.in_ok-enter_all.ensures.cursors ∙ c.requires.can.1.cursors_count

pub seat_in-requires-clause-entered : goal.seat_in-requires-clause-entered
seat_in-requires-clause-entered g c =
    let s = c.requires.can in
    let opened = c.args.opened in
    let can = subst (λ z. CanEnterAll g.J.Judge.verdict (g.P.Phase.terms c.args.played.now) (g.P.Sends.exports c.args.played.now) s.0 z c.args.before.items opened.cursors.items opened.ports.items c.args.members.items) (sym c.in_ok-begun.ensures.tables) s.1 in
    let there = entered_there g.P.Phase.terms g.P.Sends.exports g.P.Sends.rules c.args.played.now s.0 c.in_ok-begun.begun.room.tables.items c.args.members.items c.enter_all.new.begun c.args.before.items can.laid (c.in_ok-enter_all.ensures.begun s.0 can) in
    (s.0, c.args.members.items, there.0, there.1)

pub returns : goal.returns
returns g c =
    let opened = c.args.opened in
    IfOk-weaker c.seat_in.result _ _
    (λ opening is stood able.
    let can = subst (λ z. CanEnterAll g.J.Judge.verdict (g.P.Phase.terms c.args.played.now) (g.P.Sends.exports c.args.played.now) stood z c.args.before.items opened.cursors.items opened.ports.items c.args.members.items) (sym c.in_ok-begun.ensures.tables) able in
    let there = entered_there g.P.Phase.terms g.P.Sends.exports g.P.Sends.rules c.args.played.now stood c.in_ok-begun.begun.room.tables.items c.args.members.items c.enter_all.new.begun c.args.before.items can.laid (c.in_ok-enter_all.ensures.begun stood can) in
    is stood c.args.members.items there.0 can.told there.1)
    c.seat_in.ensures
