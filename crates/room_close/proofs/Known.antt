-- What is left of a room's members can go on, and is left of them as before once it has gone on.
use Rattle.std.proofs.Common.{◌≡◌, ℕ, List, Some, sym, ap, subst, ◌∙◌, arith}
use Rattle.std.specs.Prelude.{slice_get}
use Rattle.std.specs.List.{AllByRecursion}
use Rattle.attrs.specs.declared.judge.Verdict.{Verdict}
use Rattle.attrs.specs.declared.route.Route.{Route}
use Rattle.attrs.specs.declared.route.Src.{Src}
use Rattle.bits_ip.specs.Prefix.{Net}
use Rattle.core_machine.specs.Rules.{Rules}
use Rattle.core_setup.specs.Protocols.{rules_of}
use Rattle.core_setup.specs.Setup.{Exports, IsSetup, Setup}
use Rattle.core_setup.proofs.PairLemmas.{get_here, get_within}
use Rattle.export_lock.specs.LaneTurns.{AreSources}
use Rattle.export_lock.specs.Lanes.{LaneTerms}
use Rattle.import_lock.specs.Terms.{PhaseTerms}
use Rattle.phase_close.specs.Rooms.{HandsView}
use Rattle.phase_close.proofs.Ending.{all_placed, later_left}
use Rattle.phase_legal.specs.Shown.{AreBeside}
use Rattle.phase_pipes.specs.Sessions.{IsDirectionIn, back_terms, out_terms, pipe_terms}
use Rattle.phase_pipes.specs.Sources.{AreSourcesOf}
use Rattle.phase_room.specs.Sessions.{channel_terms, protocol_terms}
use Rattle.pipe_close.proofs.Sessions.{is_over}
use Rattle.pipe_lock.specs.Terms.{DirectionTerms, PipeTerms}
use Rattle.pipe_rest.specs.Later.{CanSettle, IsLaterMember}
use Rattle.pipe_rest.specs.declared.member.MemberLeft.{MemberLeft}
use Rattle.pipe_rest.specs.declared.member.MemberLeft.TheVariants as lefts
use Rattle.pipe_rest.proofs.Goes.{pipe_left}
use Rattle.room_ends.specs.Left.{AreHandsOf, AreMembersLeft, IsMemberLeft, locks_of, session_key}
use Rattle.room_members.specs.Members.{IsMember, IsRoom}
use Rattle.room_members.specs.declared.member.Member.{Member}
use Rattle.room_members.specs.declared.member.Member.TheVariants as members
use Rattle.room_members.specs.declared.room.Room.{Room}

-- what a law says of the sources of what is played
abbrev pub KnowSources : Type 0
KnowSources = (setup : Setup) (lane : LaneTerms) (table : ℕ) (sources : List Src) → IsSetup setup → lane.rules ≡ rules_of setup → (rules_of setup).target lane.number ≡ Some table → AreSourcesOf setup sources → AreSources lane sources

module _ {J P : Type 0} (terms : P → PhaseTerms) (exports : P → ℕ → Exports) (rules : P → Rules) (verdict : J → Net → Route → Verdict) (room : Room J P) (is : IsRoom terms exports rules room) (know : KnowSources) where
  lane_sources : (pipe : PipeTerms) → IsSetup pipe.phase.setup → pipe.phase ≡ terms room.played.value → (reads writes : ℕ) (direction : DirectionTerms) (lane : LaneTerms) → IsDirectionIn pipe room.tables.items reads writes direction lane → AreSources lane room.sources.items
  lane_sources pipe setup phase reads writes direction lane d =
      know pipe.phase.setup lane writes room.sources.items setup d.rules_are (ap (rules_of pipe.phase.setup).target d.number_is ∙ d.writes_is)
      (subst (λ (z : PhaseTerms). AreSourcesOf z.setup room.sources.items) (sym phase) is.sources)

  -- one member
  module _ (number : ℕ) (hands : HandsView) where
    can_settle : (member : Member J P) (left : MemberLeft J) → IsMember terms exports rules (terms room.played.value) room.tables.items number member → IsMemberLeft terms exports rules verdict member hands left → CanSettle verdict room.tables.items room.sources.items left
    can_settle (members.Own session) (lefts.Own left) s l = (
      session_key terms exports session hands,
      record { left_is = l.left_is; channel_is = s.channel_is; there = ap (slice_get room.tables.items) l.table ∙ s.table },
    )
    can_settle (members.Own session) (lefts.Pipe left) s l = absurd l
    can_settle (members.Pipe pipe) (lefts.Own left) s l = absurd l
    can_settle (members.Pipe pipe) (lefts.Pipe left) s l =
        let key = pipe_terms terms pipe in
        record {
          key = locks_of terms exports rules pipe;
          hands = hands.items;
          over = is_over verdict (terms room.played.value) room.tables.items number pipe.primary pipe.peer (locks_of terms exports rules pipe) s hands.items left l.left_is l.primary l.peer;
          out_sources = lane_sources key s.terms.setup s.phase_is pipe.primary pipe.peer key.out (out_terms exports rules pipe) s.out_is;
          back_sources = lane_sources key s.terms.setup s.phase_is pipe.peer pipe.primary key.back (back_terms exports rules pipe) s.back_is;
        }

    later_one : (member : Member J P) (old new : MemberLeft J) → IsMember terms exports rules (terms room.played.value) room.tables.items number member → IsLaterMember verdict room.sources.items old new → IsMemberLeft terms exports rules verdict member hands old
        → IsMemberLeft terms exports rules verdict member hands new
    later_one (members.Own session) (lefts.Own a) (lefts.Own b) s later l =
        record { table = later.table ∙ l.table; left_is = later_left verdict a b later (protocol_terms terms session) (channel_terms exports session) hands.items l.left_is }
    later_one (members.Own session) (lefts.Own a) (lefts.Pipe b) s later l = absurd later
    later_one (members.Own session) (lefts.Pipe a) b s later l = absurd l
    later_one (members.Pipe pipe) (lefts.Own a) b s later l = absurd l
    later_one (members.Pipe pipe) (lefts.Pipe a) (lefts.Own b) s later l = absurd later
    later_one (members.Pipe pipe) (lefts.Pipe a) (lefts.Pipe b) s later l =
        let key = pipe_terms terms pipe in
        record {
          primary = later.primary ∙ l.primary;
          peer = later.peer ∙ l.peer;
          left_is =
              pipe_left verdict room.sources.items (locks_of terms exports rules pipe) hands.items a b later
              (lane_sources key s.terms.setup s.phase_is pipe.primary pipe.peer key.out (out_terms exports rules pipe) s.out_is)
              (lane_sources key s.terms.setup s.phase_is pipe.peer pipe.primary key.back (back_terms exports rules pipe) s.back_is) l.left_is;
        }

  module _ (hands : List HandsView) (hands_are : AreBeside (AreHandsOf terms) room.members.items hands) (lefts : List (MemberLeft J)) (are : AreMembersLeft terms exports rules verdict room.members.items hands lefts) where
    pub all_can_settle : AllByRecursion (CanSettle verdict room.tables.items room.sources.items) lefts
    all_can_settle =
        all_placed (CanSettle verdict room.tables.items room.sources.items) lefts
        (λ i left at.
        let inside = get_within lefts i left at in
        let count = are.count in
        let many = hands_are.count in
        let member = get_here room.members.items i (omega (arith, inside, count)) in
        let own = get_here hands i (omega (arith, inside, count, many)) in
        can_settle i own.0 member.0 left (is.members i member.0 member.1) (are.each i member.0 left member.1 at own.0 own.1))

    pub all_are_left : (later : List (MemberLeft J)) → AreBeside (IsLaterMember verdict room.sources.items) lefts later → AreMembersLeft terms exports rules verdict room.members.items hands later
    all_are_left later goes = record {
      count = goes.count ∙ are.count;
      each = λ number member left at there own h.
          let inside = get_within later number left there in
          let count = goes.count in
          let was = get_here lefts number (omega (arith, inside, count)) in
          later_one number own member was.0 left (is.members number member at) (goes.each number was.0 left was.1 there) (are.each number member was.0 at was.1 own h);
    }
