-- What an actor's hands are in a room: of which member. And which lines they may record.
use Rattle.std.proofs.Common.{◌≡◌, ℕ, ◌<◌, List, length, Some, sym, ap, subst, ◌∙◌, arith}
use Rattle.std.specs.Prelude.{slice_get}
use Rattle.std.proofs.lemmas.List.{length-map}
use Rattle.std.proofs.lemmas.Option.{slice_get_within}
use Rattle.core_machine.specs.Rules.{Rules}
use Rattle.import_core.specs.declared.operation.Op.{Op}
use Rattle.jour.specs.Seats.{journal, number_of}
use Rattle.core_setup.specs.Setup.{Exports}
use Rattle.import_lock.specs.Terms.{PhaseTerms}
use Rattle.phase_legal.specs.Shown.{HandView, PassView}
use Rattle.phase_legal.specs.Turns.{hand_in, line_at, turn_in}
use Rattle.phase_pipes.specs.Sessions.{pipe_terms}
use Rattle.phase_room.specs.Sessions.{protocol_terms}
use Rattle.phase_actors.specs.Acting.{HasSeats}
use Rattle.phase_actors.specs.Steps.{applying}
use Rattle.phase_actors.proofs.Places.{get_map, one}
use Rattle.room_members.specs.Members.{IsMember, IsRoom, MayRecord, room_seen, turns_of}
use Rattle.room_members.specs.declared.member.Member.{Member}
use Rattle.room_members.specs.declared.member.Member.TheVariants.{Own, Pipe}
use Rattle.room_members.specs.declared.room.Room.{Room}
use Rattle.room_actors.specs.Script.{CanApply, FitsMember}

module _ {J P : Type 0} (terms : P → PhaseTerms) (exports : P → ℕ → Exports) (rules : P → Rules) (room : Room J P) where
  -- the line of a place may be recorded
  may_record : (member : Member J P) (number protocol place line hand : ℕ) (op : Op) → IsMember terms exports rules (terms room.played.value) room.tables.items protocol member → FitsMember terms member op
      → line_at (terms room.played.value).lines place ≡ Some (applying number line protocol op) → hand ≡ number → MayRecord terms member hand place op
  may_record (Own session) number protocol place line hand op is fits told mine =
      let there : line_at (protocol_terms terms session).phase.lines place ≡ Some (applying number line protocol op) = ap (λ z. line_at z.lines place) is.phase_is ∙ told in record {
        hand_is = mine ∙ sym (ap (hand_in (protocol_terms terms session).phase.starter) there);
        op_is = ap (λ z. (turn_in z).op) there;
        family = fits;
      }
  may_record (Pipe pipe) number protocol place line hand op is fits told mine =
      let there : line_at (pipe_terms terms pipe).phase.lines place ≡ Some (applying number line protocol op) = ap (λ z. line_at z.lines place) is.phase_is ∙ told in record {
        hand_is = mine ∙ sym (ap (hand_in (pipe_terms terms pipe).phase.starter) there);
        op_is = ap (λ z. (turn_in z).op) there;
      }

  module _ (is : IsRoom terms exports rules room) (number protocol : ℕ) (op : Op) (can : CanApply terms room protocol op) where
    pub line_is : (place line hand : ℕ) (member : Member J P) → slice_get room.members.items protocol ≡ Some member
        → line_at (terms room.played.value).lines place ≡ Some (applying number line protocol op) → hand ≡ number → MayRecord terms member hand place op
    line_is place line hand member at told mine =
        may_record member number protocol place line hand op (is.members protocol member at) (subst (λ z. FitsMember terms z op) (one room.members.items protocol can.member member can.member_at at) can.fits) told mine

    turns_at : slice_get (room_seen terms room).turns protocol ≡ Some (turns_of terms can.member)
    turns_at = get_map (turns_of terms) room.members.items protocol can.member can.member_at

    module _ (hands : List HandView) (passes : List PassView) (seats : HasSeats (room_seen terms room) number hands passes) where
      pub hand_there : protocol < length hands
      hand_there =
          let w = slice_get_within room.members.items protocol can.member can.member_at in
          let c = seats.hands_are.count in
          let m = length-map room.members.items (turns_of terms) in
          omega (arith, w, c, m)

      pub hand_is : (hand : HandView) → slice_get hands protocol ≡ Some hand → slice_get (room_seen terms room).turns protocol ≡ Some (journal hand)
      hand_is hand hand_at = turns_at ∙ ap Some (sym (seats.hands_are.each protocol (turns_of terms can.member) hand turns_at hand_at).0)

      pub number_is : (hand : HandView) → slice_get hands protocol ≡ Some hand → number_of hand.1.role ≡ number
      number_is hand hand_at = (seats.hands_are.each protocol (turns_of terms can.member) hand turns_at hand_at).1
