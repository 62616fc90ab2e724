use Rattle.std.proofs.Common.{◌<◌, inl, inr, length, refl, sym, subst, ◌∙◌}
use Rattle.std.proofs.lemmas.Option.{slice_get_read}
use Rattle.std.proofs.lemmas.Result.{on_ok_weaker}
use Rattle.room_members.specs.declared.member.Member.TheVariants as member
use Rattle.room_open.proofs.Piping.{back_cursor, back_there, out_cursor, out_there, peer_before, peer_within, pipe_enters, pipe_open, primary_before, primary_within, tables_apart, tables_at}
use Rattle.room_open.proofs.pipes.enter_pipe.Goals as goal

pub two_of-there-requires : goal.two_of-there-requires
two_of-there-requires g c =
    let s = c.requires.can in
    let room = c.args.begun.now.room in
    let many = c.requires.ports.count in
    let ports = c.args.ports in (
      subst (λ n. c.args.held.peer < n) (sym (ports.ok.0 ∙ many)) (peer_within g.J.Judge.verdict (g.P.Phase.terms c.args.played.now) (g.P.Sends.exports c.args.played.now) s.0 room.tables.items c.args.before.now.items c.args.cursors.now.items (length room.members.items) c.args.held s.1),
      subst (λ n. c.args.held.primary < n) (sym (ports.ok.0 ∙ many)) (primary_within g.J.Judge.verdict (g.P.Phase.terms c.args.played.now) (g.P.Sends.exports c.args.played.now) s.0 room.tables.items c.args.before.now.items c.args.cursors.now.items (length room.members.items) c.args.held s.1),
      tables_apart g.J.Judge.verdict (g.P.Phase.terms c.args.played.now) (g.P.Sends.exports c.args.played.now) s.0 room.tables.items c.args.before.now.items c.args.cursors.now.items (length room.members.items) c.args.held s.1,
    )

pub take_cursor-out_cursor-requires : goal.take_cursor-out_cursor-requires
take_cursor-out_cursor-requires g c =
    let s = c.requires.can in
    let room = c.args.begun.now.room in
    out_there g.J.Judge.verdict (g.P.Phase.terms c.args.played.now) (g.P.Sends.exports c.args.played.now) s.0 room.tables.items c.args.before.now.items c.args.cursors.now.items (length room.members.items) c.args.held s.1

pub take_cursor-back_cursor-requires : goal.take_cursor-back_cursor-requires
take_cursor-back_cursor-requires g c =
    let s = c.requires.can in
    let room = c.args.begun.now.room in
    back_there g.J.Judge.verdict (g.P.Phase.terms c.args.played.now) (g.P.Sends.exports c.args.played.now) s.0 room.tables.items c.args.before.now.items c.args.cursors.now.items (length room.members.items) c.args.held s.1 c.take_cursor-out_cursor.new.cursors.items c.take_cursor-out_cursor.ensures.others

pub open_direction-out-requires : goal.open_direction-out-requires
open_direction-out-requires g c =
    let s = c.requires.can in
    let room = c.args.begun.now.room in
    (out_cursor g.J.Judge.verdict (g.P.Phase.terms c.args.played.now) (g.P.Sends.exports c.args.played.now) s.0 room.tables.items c.args.before.now.items c.args.cursors.now.items (length room.members.items) c.args.held s.1 c.take_cursor-out_cursor.result c.take_cursor-out_cursor.ensures.taken).4

pub open_direction-back-requires : goal.open_direction-back-requires
open_direction-back-requires g c =
    let s = c.requires.can in
    let room = c.args.begun.now.room in
    (back_cursor g.J.Judge.verdict (g.P.Phase.terms c.args.played.now) (g.P.Sends.exports c.args.played.now) s.0 room.tables.items c.args.before.now.items c.args.cursors.now.items (length room.members.items) c.args.held s.1 c.take_cursor-out_cursor.new.cursors.items c.take_cursor-out_cursor.ensures.others c.take_cursor-back_cursor.result c.take_cursor-back_cursor.ensures.taken).4

pub index-read-requires : goal.index-read-requires
index-read-requires g c =
    let s = c.requires.can in
    let room = c.args.begun.now.room in
    subst (λ n. c.args.held.primary < n) (sym c.args.before.now.ok.0) (primary_before g.J.Judge.verdict (g.P.Phase.terms c.args.played.now) (g.P.Sends.exports c.args.played.now) s.0 room.tables.items c.args.before.now.items c.args.cursors.now.items (length room.members.items) c.args.held s.1)

pub index-written-requires : goal.index-written-requires
index-written-requires g c =
    let s = c.requires.can in
    let room = c.args.begun.now.room in
    subst (λ n. c.args.held.peer < n) (sym c.args.before.now.ok.0) (peer_before g.J.Judge.verdict (g.P.Phase.terms c.args.played.now) (g.P.Sends.exports c.args.played.now) s.0 room.tables.items c.args.before.now.items c.args.cursors.now.items (length room.members.items) c.args.held s.1)

pub enter_pipe-requires-clause-number : goal.enter_pipe-requires-clause-number
enter_pipe-requires-clause-number g c =
    let room = c.args.begun.now.room in
    c.len-number.ensures ∙ room.members.ok.0

pub enter_pipe-requires-clause-tables : goal.enter_pipe-requires-clause-tables
enter_pipe-requires-clause-tables g c =
    let s = c.requires.can in
    let room = c.args.begun.now.room in
    let reader = out_cursor g.J.Judge.verdict (g.P.Phase.terms c.args.played.now) (g.P.Sends.exports c.args.played.now) s.0 room.tables.items c.args.before.now.items c.args.cursors.now.items (length room.members.items) c.args.held s.1 c.take_cursor-out_cursor.result c.take_cursor-out_cursor.ensures.taken in
    let other = back_cursor g.J.Judge.verdict (g.P.Phase.terms c.args.played.now) (g.P.Sends.exports c.args.played.now) s.0 room.tables.items c.args.before.now.items c.args.cursors.now.items (length room.members.items) c.args.held s.1 c.take_cursor-out_cursor.new.cursors.items c.take_cursor-out_cursor.ensures.others c.take_cursor-back_cursor.result c.take_cursor-back_cursor.ensures.taken in
    tables_at g.J.Judge.verdict (g.P.Phase.terms c.args.played.now) (g.P.Sends.exports c.args.played.now) s.0 room.tables.items c.args.before.now.items c.args.cursors.now.items (length room.members.items) c.args.held s.1 c.each_source_has_one_port.ensures.out c.each_source_has_one_port.ensures.back c.args.ports.items c.requires.ports c.two_of-there.result.0 c.two_of-there.result.1 c.two_of-there.ensures.0 c.two_of-there.ensures.1 c.take_cursor-out_cursor.result c.take_cursor-back_cursor.result reader other c.open_direction-out.result c.open_direction-back.result c.open_direction-out.ensures c.open_direction-back.ensures

pub enter_pipe-requires-clause-parts : goal.enter_pipe-requires-clause-parts
enter_pipe-requires-clause-parts g c =
    let s = c.requires.can in
    let room = c.args.begun.now.room in
    let before = c.args.before.now in
    let reader = out_cursor g.J.Judge.verdict (g.P.Phase.terms c.args.played.now) (g.P.Sends.exports c.args.played.now) s.0 room.tables.items c.args.before.now.items c.args.cursors.now.items (length room.members.items) c.args.held s.1 c.take_cursor-out_cursor.result c.take_cursor-out_cursor.ensures.taken in
    let other = back_cursor g.J.Judge.verdict (g.P.Phase.terms c.args.played.now) (g.P.Sends.exports c.args.played.now) s.0 room.tables.items c.args.before.now.items c.args.cursors.now.items (length room.members.items) c.args.held s.1 c.take_cursor-out_cursor.new.cursors.items c.take_cursor-out_cursor.ensures.others c.take_cursor-back_cursor.result c.take_cursor-back_cursor.ensures.taken in
    let primary_at = slice_get_read before.items (length before.items) c.args.held.primary c.index-read.result.now refl (primary_before g.J.Judge.verdict (g.P.Phase.terms c.args.played.now) (g.P.Sends.exports c.args.played.now) s.0 room.tables.items c.args.before.now.items c.args.cursors.now.items (length room.members.items) c.args.held s.1) c.index-read.ensures in
    let peer_at = slice_get_read before.items (length before.items) c.args.held.peer c.index-written.result.now refl (peer_before g.J.Judge.verdict (g.P.Phase.terms c.args.played.now) (g.P.Sends.exports c.args.played.now) s.0 room.tables.items c.args.before.now.items c.args.cursors.now.items (length room.members.items) c.args.held s.1) c.index-written.ensures in
    pipe_enters g.J.Judge.verdict (g.P.Phase.terms c.args.played.now) (g.P.Sends.exports c.args.played.now) s.0 room.tables.items c.args.before.now.items c.args.cursors.now.items (length room.members.items) c.args.held s.1 c.each_source_has_one_port.ensures.out c.each_source_has_one_port.ensures.back c.args.ports.items c.requires.ports c.two_of-there.result.0 c.two_of-there.result.1 c.two_of-there.ensures.0 c.two_of-there.ensures.1 c.take_cursor-out_cursor.result c.take_cursor-back_cursor.result reader other c.open_direction-out.result c.open_direction-back.result c.open_direction-out.ensures c.open_direction-back.ensures c.len-number.result (c.len-number.ensures ∙ room.members.ok.0) c.index-read.result.now c.index-written.result.now primary_at peer_at

pub returns-clause-added : goal.returns-clause-added
returns-clause-added g c =
    let s = c.requires.can in
    let room = c.args.begun.now.room in
    let before = c.args.before.now in
    let primary_at = slice_get_read before.items (length before.items) c.args.held.primary c.index-read.result.now refl (primary_before g.J.Judge.verdict (g.P.Phase.terms c.args.played.now) (g.P.Sends.exports c.args.played.now) s.0 room.tables.items c.args.before.now.items c.args.cursors.now.items (length room.members.items) c.args.held s.1) c.index-read.ensures in
    let peer_at = slice_get_read before.items (length before.items) c.args.held.peer c.index-written.result.now refl (peer_before g.J.Judge.verdict (g.P.Phase.terms c.args.played.now) (g.P.Sends.exports c.args.played.now) s.0 room.tables.items c.args.before.now.items c.args.cursors.now.items (length room.members.items) c.args.held s.1) c.index-written.ensures in
    on_ok_weaker c.enter_pipe.result
    (λ m. (
      member.Pipe m.0,
      m.1,
      λ stood can.
          pipe_open g.P.Phase.terms g.P.Sends.exports g.P.Sends.rules c.args.played.now stood g.J.Judge.verdict room.tables.items before.items c.args.cursors.now.items (length room.members.items) c.args.held can c.two_of-there.result.0 c.two_of-there.result.1
          c.take_cursor-out_cursor.result c.take_cursor-back_cursor.result c.open_direction-out.result c.open_direction-back.result c.open_direction-out.ensures c.open_direction-back.ensures c.len-number.result (c.len-number.ensures ∙ room.members.ok.0) c.index-read.result.now c.index-written.result.now
          primary_at peer_at m.0 m.2 m.3 m.4,
    )) c.enter_pipe.ensures.added

pub returns-clause-cursors : goal.returns-clause-cursors
returns-clause-cursors g c =
    let out = c.take_cursor-out_cursor.ensures.others in
    let back = c.take_cursor-back_cursor.ensures.others in
    (back.count ∙ out.count, λ place apart. back.each place (λ same. apart (inr (sym same))) ∙ out.each place (λ same. apart (inl (sym same))))
