use Rattle.std.proofs.Common.{◌<◌, length, refl, sym, subst}
use Rattle.std.proofs.lemmas.Option.{slice_get_read}
use Rattle.std.proofs.lemmas.Result.{on_ok_weaker}
use Rattle.room_members.specs.declared.member.Member.TheVariants as member
use Rattle.room_open.proofs.Entering.{can_enter, cursor_is, list_there, neighbour_open, own_before_within, stands_in, static_open}
use Rattle.room_open.proofs.members.enter_own.Goals as goal

pub enter_static-requires-clause-stands : goal.enter_static-requires-clause-stands
enter_static-requires-clause-stands g c =
    let s = c.requires.can in
    let room = c.args.begun.now.room in
    stands_in g.J.Judge.verdict (g.P.Phase.terms c.args.played.now) (g.P.Sends.exports c.args.played.now) s.0 room.tables.items c.args.before.now.items c.args.cursors.now.items (length room.members.items) c.args.held s.1 c.each_source_has_one_port.ensures.own

pub returns-in-None-clause-added : goal.returns-in-None-clause-added
returns-in-None-clause-added g c =
    let number = length c.args.begun.now.room.members.items in
    on_ok_weaker c.enter_static.result
    (λ m. (member.Own m.0, m.1, λ stood can. static_open g.P.Phase.terms g.P.Sends.exports c.args.played.now stood number c.args.held m.0 m.2 c.in-None.is m.3)) c.enter_static.ensures.added

pub returns-in-None-clause-cursors : goal.returns-in-None-clause-cursors
returns-in-None-clause-cursors g c = (refl, λ place apart. refl)

pub take_cursor-cursor-requires : goal.take_cursor-cursor-requires
take_cursor-cursor-requires g c =
    let s = c.requires.can in
    let room = c.args.begun.now.room in
    list_there g.J.Judge.verdict (g.P.Phase.terms c.args.played.now) (g.P.Sends.exports c.args.played.now) s.0 room.tables.items c.args.before.now.items c.args.cursors.now.items (length room.members.items) c.args.held s.1 c.in-Some.channel c.in-Some.is

pub open_channel-part-requires : goal.open_channel-part-requires
open_channel-part-requires g c =
    let s = c.requires.can in
    let room = c.args.begun.now.room in
    (cursor_is g.J.Judge.verdict (g.P.Phase.terms c.args.played.now) (g.P.Sends.exports c.args.played.now) s.0 room.tables.items c.args.before.now.items c.args.cursors.now.items (length room.members.items) c.args.held s.1 c.in-Some.channel c.in-Some.is c.take_cursor-cursor.result c.take_cursor-cursor.ensures.taken).4

pub index-entries-requires : goal.index-entries-requires
index-entries-requires g c =
    let s = c.requires.can in
    let room = c.args.begun.now.room in
    subst (λ n. c.args.held.table < n) (sym c.args.before.now.ok.0) (own_before_within g.J.Judge.verdict (g.P.Phase.terms c.args.played.now) (g.P.Sends.exports c.args.played.now) s.0 room.tables.items c.args.before.now.items c.args.cursors.now.items (length room.members.items) c.args.held s.1)

pub enter_neighbour-requires-clause-stands : goal.enter_neighbour-requires-clause-stands
enter_neighbour-requires-clause-stands g c =
    let s = c.requires.can in
    let room = c.args.begun.now.room in
    let before = c.args.before.now in
    let entries = c.index-entries.result.now in
    let at = slice_get_read before.items (length before.items) c.args.held.table entries refl (own_before_within g.J.Judge.verdict (g.P.Phase.terms c.args.played.now) (g.P.Sends.exports c.args.played.now) s.0 room.tables.items c.args.before.now.items c.args.cursors.now.items (length room.members.items) c.args.held s.1) c.index-entries.ensures in
    can_enter g.J.Judge.verdict (g.P.Phase.terms c.args.played.now) (g.P.Sends.exports c.args.played.now) s.0 room.tables.items c.args.before.now.items c.args.cursors.now.items (length room.members.items) c.args.held s.1 c.in-Some.channel c.in-Some.is c.take_cursor-cursor.result c.take_cursor-cursor.ensures.taken c.each_source_has_one_port.ensures.own entries at c.open_channel-part.result c.open_channel-part.ensures

pub returns-in-Some-clause-added : goal.returns-in-Some-clause-added
returns-in-Some-clause-added g c =
    let s = c.requires.can in
    let room = c.args.begun.now.room in
    let before = c.args.before.now in
    let entries = c.index-entries.result.now in
    let at = slice_get_read before.items (length before.items) c.args.held.table entries refl (own_before_within g.J.Judge.verdict (g.P.Phase.terms c.args.played.now) (g.P.Sends.exports c.args.played.now) s.0 room.tables.items c.args.before.now.items c.args.cursors.now.items (length room.members.items) c.args.held s.1) c.index-entries.ensures in
    on_ok_weaker c.enter_neighbour.result
    (λ m. (
      member.Own m.0,
      m.1,
      λ stood can.
          neighbour_open g.P.Phase.terms g.P.Sends.exports c.args.played.now stood (length room.members.items) c.args.held m.0 m.2 g.J.Judge.verdict room.tables.items before.items c.args.cursors.now.items can c.in-Some.channel c.in-Some.is
          c.take_cursor-cursor.result c.open_channel-part.result c.open_channel-part.ensures entries at m.3,
    )) c.enter_neighbour.ensures.added

pub returns-in-Some-clause-cursors : goal.returns-in-Some-clause-cursors
returns-in-Some-clause-cursors g c =
    let others = c.take_cursor-cursor.ensures.others in
    (others.count, λ place apart. others.each place (λ same. apart (c.in-Some.channel, c.in-Some.is, sym same)))
