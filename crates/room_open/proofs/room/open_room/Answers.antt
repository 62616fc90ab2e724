use Rattle.std.proofs.Common.{◌+◌, ◌≤◌, List, length, sym, subst}
use Rattle.std.proofs.lemmas.Result.{IfOk-weaker}
use Rattle.room_open.specs.Laid.{AreTablesOpen}
use Rattle.room_open.specs.Sources.{AreCounts}
use Rattle.room_open.specs.declared.standing.StandingMember.{StandingMember}
use Rattle.room_open.proofs.Beginning.{can_enter_all, counts_are}
use Rattle.room_open.proofs.room.open_room.Goals as goal

pub open_tables-requires-clause-few : goal.open_tables-requires-clause-few
open_tables-requires-clause-few g c =
    let standing = c.args.standing in
    (subst (λ (z : List (StandingMember g.row.J.Denot)). length z ≤ 1024) (sym c.deref.ensures.value) c.requires.few.0, c.requires.channels.1, c.requires.few.1)

pub open_tables-requires-clause-stands : goal.open_tables-requires-clause-stands
open_tables-requires-clause-stands g c =
    let phase = g.P.Phase.terms c.args.played.now in
    let exports = g.P.Sends.exports c.args.played.now in
    let standing = c.args.standing in
    let counts = counts_are g.J.Judge.verdict phase exports standing c.requires.stands c.args.channels c.requires.channels.0 in
    (phase.setup, subst (AreCounts phase.setup c.args.channels) (sym c.deref.ensures.value) counts, c.requires.stands.tables)

pub fill-requires-clause-actors : goal.fill-requires-clause-actors
fill-requires-clause-actors g c =
    let phase = g.P.Phase.terms c.args.played.now in
    let exports = g.P.Sends.exports c.args.played.now in
    let standing = c.args.standing in
    let counts = counts_are g.J.Judge.verdict phase exports standing c.requires.stands c.args.channels c.requires.channels.0 in
    let opened = c.in_ok-opened.opened in
    let before = c.open_tables.new.before.items in
    let opened_is = subst (λ z. AreTablesOpen phase.setup z (c.args.actors + 1) standing.tables.items opened before) c.deref.ensures.value
    (c.in_ok-opened.ensures phase.setup (subst (AreCounts phase.setup c.args.channels) (sym c.deref.ensures.value) counts) c.requires.stands.tables.count) in
    (c.requires.actors.0, c.requires.actors.1, opened_is.passes)

pub fill-requires-clause-passes : goal.fill-requires-clause-passes
fill-requires-clause-passes g c =
    let phase = g.P.Phase.terms c.args.played.now in
    let exports = g.P.Sends.exports c.args.played.now in
    let standing = c.args.standing in
    let counts = counts_are g.J.Judge.verdict phase exports standing c.requires.stands c.args.channels c.requires.channels.0 in
    let opened = c.in_ok-opened.opened in
    let before = c.open_tables.new.before.items in
    let opened_is = subst (λ z. AreTablesOpen phase.setup z (c.args.actors + 1) standing.tables.items opened before) c.deref.ensures.value
    (c.in_ok-opened.ensures phase.setup (subst (AreCounts phase.setup c.args.channels) (sym c.deref.ensures.value) counts) c.requires.stands.tables.count) in
    opened_is.can.opened_is.passes

pub fill-requires-clause-can : goal.fill-requires-clause-can
fill-requires-clause-can g c =
    let phase = g.P.Phase.terms c.args.played.now in
    let exports = g.P.Sends.exports c.args.played.now in
    let standing = c.args.standing in
    let counts = counts_are g.J.Judge.verdict phase exports standing c.requires.stands c.args.channels c.requires.channels.0 in
    let opened = c.in_ok-opened.opened in
    let before = c.open_tables.new.before.items in
    let opened_is = subst (λ z. AreTablesOpen phase.setup z (c.args.actors + 1) standing.tables.items opened before) c.deref.ensures.value
    (c.in_ok-opened.ensures phase.setup (subst (AreCounts phase.setup c.args.channels) (sym c.deref.ensures.value) counts) c.requires.stands.tables.count) in
    (standing.tables.items, can_enter_all g.J.Judge.verdict phase exports standing c.requires.stands (c.args.actors + 1) opened before opened_is)

pub returns : goal.returns
returns g c =
    let phase = g.P.Phase.terms c.args.played.now in
    let exports = g.P.Sends.exports c.args.played.now in
    let standing = c.args.standing in
    let counts = counts_are g.J.Judge.verdict phase exports standing c.requires.stands c.args.channels c.requires.channels.0 in
    let opened = c.in_ok-opened.opened in
    let before = c.open_tables.new.before.items in
    let opened_is = subst (λ z. AreTablesOpen phase.setup z (c.args.actors + 1) standing.tables.items opened before) c.deref.ensures.value
    (c.in_ok-opened.ensures phase.setup (subst (AreCounts phase.setup c.args.channels) (sym c.deref.ensures.value) counts) c.requires.stands.tables.count) in
    IfOk-weaker c.fill.result _ _ (λ opening is. is standing.tables.items (can_enter_all g.J.Judge.verdict phase exports standing c.requires.stands (c.args.actors + 1) opened before opened_is)) c.fill.ensures
