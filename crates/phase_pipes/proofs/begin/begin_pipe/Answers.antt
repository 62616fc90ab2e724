use Rattle.std.proofs.Common.{ap, refl, ◌∙◌}
use Rattle.export_lock.specs.Lanes.{LaneTerms}
use Rattle.export_lock.specs.Locks.{lane_terms_of}
use Rattle.pipe_lock.specs.Locks.{direction_of, terms_of}
use Rattle.phase_pipes.proofs.Beginning.{hands_given, new_turns, pipe_begins, session_is}
use Rattle.phase_pipes.proofs.begin.begin_pipe.Goals as goal

pub begin_lane-requires-clause-part : goal.begin_lane-requires-clause-part
begin_lane-requires-clause-part g c =
    let r = c.requires.parts in
    (c.args.part.number, r.4.pipe.primary, r.4.pipe.peer, r.0, r.1, r.2, r.4.stands.setup, r.4.out_of, r.4.out_is)

pub begin_lane-requires-2-clause-part : goal.begin_lane-requires-2-clause-part
begin_lane-requires-2-clause-part g c =
    let r = c.requires.parts in
    (c.args.part.number, r.4.pipe.peer, r.4.pipe.primary, r.1, r.0, r.3, r.4.stands.setup, r.4.back_of, r.4.back_is)

pub lock_pipe-requires : goal.lock_pipe-requires
lock_pipe-requires g c =
    let r = c.requires.parts in
    let now = c.args.played.now in
    let a = c.in_ok-out.ensures in
    let b = c.in_ok-back.ensures in
    pipe_begins g.J.Judge.verdict (g.P.Phase.terms now) (g.P.Sends.exports now) r.0 r.1 c.args.part c.args.out c.args.back r.4 c.args.hands c.in_ok-turns.turns a.0 b.0 c.in_ok-turns.ensures.terms
    (direction_of c.in_ok-out.out_key) (direction_of c.in_ok-back.back_key) a.5 b.5 c.in_ok-turns.ensures.unturned c.in_ok-out.out_stamp c.in_ok-back.back_stamp a.2 a.3 b.2 b.3

pub returns-clause-session : goal.returns-clause-session
returns-clause-session g c = λ tables at_primary at_peer.
    let r = c.requires.parts in
    let now = c.args.played.now in
    let a = c.in_ok-out.ensures in
    let b = c.in_ok-back.ensures in
    session_is g.J.Judge.verdict (g.P.Phase.terms now) (g.P.Sends.exports now) r.0 r.1 c.args.part c.args.out c.args.back r.4 c.args.hands c.in_ok-turns.turns a.0 b.0 c.in_ok-turns.ensures.terms
    (g.P.Sends.rules now) c.requires.rules tables c.args.primary.now.items c.args.peer.now.items a.4 b.4 at_primary at_peer
    (direction_of c.in_ok-out.out_key) (direction_of c.in_ok-back.back_key)
    (terms_of g.P.Phase.terms c.in_ok-pipe.pipe.1) (lane_terms_of g.P.Sends.exports g.P.Sends.rules c.in_ok-out.out.1) (lane_terms_of g.P.Sends.exports g.P.Sends.rules c.in_ok-back.back.1)
    a.5 b.5 c.in_ok-pipe.ensures a.1 b.1

pub returns-clause-hands : goal.returns-clause-hands
returns-clause-hands g c =
    let r = c.requires.parts in
    let now = c.args.played.now in
    let a = c.in_ok-out.ensures in
    let b = c.in_ok-back.ensures in (
      c.in_ok-turns.ensures.hands.0,
      hands_given g.J.Judge.verdict (g.P.Phase.terms now) (g.P.Sends.exports now) r.0 r.1 c.args.part c.args.out c.args.back r.4 c.args.hands c.in_ok-turns.turns a.0 b.0 c.in_ok-turns.ensures.terms
          (direction_of c.in_ok-out.out_key) (direction_of c.in_ok-back.back_key) (terms_of g.P.Phase.terms c.in_ok-pipe.pipe.1) c.in_ok-turns.made.items c.in_ok-pipe.ensures c.in_ok-turns.ensures.hands.1,
    )

pub returns-clause-new : goal.returns-clause-new
returns-clause-new g c =
    let r = c.requires.parts in
    let now = c.args.played.now in
    let a = c.in_ok-out.ensures in
    let b = c.in_ok-back.ensures in
    record {
      primary_is = refl;
      peer_is = refl;
      turns =
          new_turns g.J.Judge.verdict (g.P.Phase.terms now) (g.P.Sends.exports now) r.0 r.1 c.args.part c.args.out c.args.back r.4 c.args.hands c.in_ok-turns.turns a.0 b.0 c.in_ok-turns.ensures.terms
          (direction_of c.in_ok-out.out_key) (direction_of c.in_ok-back.back_key) (terms_of g.P.Phase.terms c.in_ok-pipe.pipe.1) c.in_ok-pipe.ensures c.requires.hands;
      out_port = ap (λ (z : LaneTerms). z.port_number) a.1 ∙ r.4.out_is.port_number;
      back_port = ap (λ (z : LaneTerms). z.port_number) b.1 ∙ r.4.back_is.port_number;
    }

pub returns-clause-lanes : goal.returns-clause-lanes
returns-clause-lanes g c = ((c.in_ok-out.ensures.0, c.in_ok-out.ensures.1), (c.in_ok-back.ensures.0, c.in_ok-back.ensures.1))
