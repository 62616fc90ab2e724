use Rattle.std.proofs.Common.{length, refl, subst, sym, ◌∙◌}
use Rattle.std.specs.Prelude.{vec_len}
use Rattle.std.proofs.lemmas.Result.{on_ok_weaker}
use Rattle.phase_room.specs.Parts.{IsChannelPart}
use Rattle.phase_room.specs.Sessions.{IsSession, channel_terms, protocol_terms}
use Rattle.phase_room.proofs.Dealing.{longer_by_one}
use Rattle.phase_room.proofs.Entering.{is_part, new_one, table_of}
use Rattle.room_members.specs.declared.member.Member.TheVariants.{Own}
use Rattle.room_members.proofs.begun.Begun.enter_neighbour.Goals as goal

pub begin_neighbour-requires-clause-parts : goal.begin_neighbour-requires-clause-parts
begin_neighbour-requires-clause-parts g c =
    let room = c.args.self.now.room in
    let s = c.requires.stands.0 in
    let many = c.len.ensures ∙ room.members.ok.0 in (
      s.stood,
      s.here,
      c.requires.stands.1,
      is_part g.J.Judge.verdict (g.P.Phase.terms c.args.played.now) room.tables.items (length room.members.items) c.args.table c.args.importer s c.args.ports.items c.requires.ports c.item_of.result c.item_of.ensures c.len.result many,
      subst (λ n. IsChannelPart g.J.Judge.verdict (g.P.Phase.terms c.args.played.now) s.stood s.here (g.P.Sends.exports c.args.played.now) n c.args.channel) (sym many) c.requires.stands.2,
    )

pub add-requires-clause-member : goal.add-requires-clause-member
add-requires-clause-member g c =
    let room = c.args.self.now.room in
    let session = c.in_ok-session.session in
    let protocol = protocol_terms g.P.Phase.terms session in
    let channel = channel_terms g.P.Sends.exports session in
    let at = table_of g.J.Judge.verdict (g.P.Phase.terms c.args.played.now) room.tables.items (length room.members.items) c.args.table c.args.importer c.requires.stands.0 c.args.ports.items c.requires.ports c.item_of.result c.item_of.ensures in
    subst (λ z. IsSession (g.P.Phase.terms z) room.tables.items (vec_len room.members) session.table protocol channel) (sym c.requires.played)
    (subst (λ n. IsSession (g.P.Phase.terms c.args.played.now) room.tables.items n session.table protocol channel) c.len.ensures (c.in_ok-session.ensures.session room.tables.items at))

pub returns-clause-count : goal.returns-clause-count
returns-clause-count g c =
    let old = c.args.self.now.room.members.items in
    on_ok_weaker c.add.result (λ e. longer_by_one old c.add.new.self.room.members.items (Own c.in_ok-session.session) (length old) refl e) c.add.ensures.added

pub returns-clause-added : goal.returns-clause-added
returns-clause-added g c =
    let session = c.in_ok-session.session in
    let new = c.in_ok-session.ensures.new in
    let starter = (g.P.Phase.terms c.args.played.now).starter in
    let members = c.args.self.now.room.members in
    on_ok_weaker c.add.result (λ e. (session, e, new_one g.P.Phase.terms starter c.args.table session c.len.result (length members.items) (c.len.ensures ∙ members.ok.0) new.0, new.1)) c.add.ensures.added
