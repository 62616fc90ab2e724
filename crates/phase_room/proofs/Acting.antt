-- An actor that has seen nothing of a phase.
use Rattle.std.proofs.Common.{◌≡◌, ℕ, ◌≤◌, arith, List, [], length, Some, sym, ap, subst}
use Rattle.std.specs.Prelude.{slice_get}
use Rattle.atomic_table.specs.Seated.{TableId}
use Rattle.jour_rule.specs.Journal.{receipts}
use Rattle.jour_rule.specs.declared.views.Terms.{Terms}
use Rattle.jour.specs.Seats.{front, journal, number_of}
use Rattle.core_machine.specs.Lines.{ops_of}
use Rattle.core_setup.proofs.PairLemmas.{get_here, get_within}
use Rattle.phase_legal.specs.Changes.{given}
use Rattle.phase_legal.specs.Shown.{AreBeside, HandView, IsActing, IsHandOf, PassView, Room}
use Rattle.phase_legal.specs.Turns.{turns_told, words_in}
use Rattle.table_shared.specs.Opening.{TableOpening}
use Rattle.phase_room.specs.Begun.{IsNewHand}

can_act : (room : Room) (actor : ℕ) (hands : List HandView) (passes : List PassView) → AreBeside (IsHandOf room actor) room.turns hands → AreBeside (λ (t : TableId × Terms TableOpening) (p : PassView). journal p ≡ t) room.tables passes
    → ((i : ℕ) (hand : HandView) → slice_get hands i ≡ Some hand → front hand.1 ≡ []) → IsActing room actor [] hands passes
can_act room actor hands passes are shown new = record {
  hands_are = are;
  passes_are = shown;
  said = λ i hand at. ap (λ z. words_in (receipts hand.1.seen.terms.start (number_of hand.1.role) z)) (new i hand at);
  seen = λ i port hand pass numbered at there.
      let all : List (ℕ × List ℕ) = receipts pass.1.seen.terms.start port (front pass.1) in
      let least : 0 ≤ length all = omega arith in
      subst (λ z. length (given room.rules i (ops_of (room.past i)) (ops_of (turns_told room.lines z))) ≤ length all) (sym (new i hand at)) least;
}

-- with new hands, each of its number
pub begun_can_act : (room : Room) (actor : ℕ) (hands : List HandView) (passes : List PassView) → AreBeside (IsNewHand actor) room.turns hands → AreBeside (λ (t : TableId × Terms TableOpening) (p : PassView). journal p ≡ t) room.tables passes → IsActing room actor [] hands passes
begun_can_act room actor hands passes are shown =
    can_act room actor hands passes (record { count = are.count; each = λ i turns hand a b. let h = are.each i turns hand a b in (h.0, h.1) }) shown
    (λ i hand at.
    let inside = get_within hands i hand at in
    let many = are.count in
    let turns = get_here room.turns i (omega (arith, inside, many)) in
    (are.each i turns.0 hand turns.1 at).2)
