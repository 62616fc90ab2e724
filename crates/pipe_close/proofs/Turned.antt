-- The turns of a pipe, by what is known of its hands.
use Rattle.std.proofs.Common.{◌≡◌, ℕ, List, ◌++◌, Some, refl, sym, ap, subst, ◌∙◌}
use Rattle.std.specs.Prelude.{slice_get}
use Rattle.core_setup.proofs.Numbered.{all_at}
use Rattle.jour_rule.specs.Journal.{receipts}
use Rattle.jour_rule.specs.declared.views.Entry.{Entry}
use Rattle.jour.specs.Seats.{front, number_of, own}
use Rattle.core_machine.specs.Lines.{Line}
use Rattle.phase_legal.specs.Shown.{HandView, Room}
use Rattle.phase_legal.specs.Turns.{AreByHands, AreStarts, AreTurnsOf, words_in}
use Rattle.import_lock.specs.Calls.{IsRoomOf}
use Rattle.pipe_lock.specs.Terms.{PipeTerms}
use Rattle.import_lock.specs.declared.state.OpRecord.{OpRecord}
use Rattle.pipe_close.specs.Left.{ArePipeTurns}
use Rattle.phase_close.specs.Retired.{IsRetired}
use Rattle.pipe_close.specs.Turned.{ArePipeTurned}

module _ (key : PipeTerms) (list : List Entry) (hands : List HandView) (ops : List OpRecord) (all : ArePipeTurns key list hands ops) (k : ℕ) (hand : HandView) (at : slice_get hands k ≡ Some hand) where
  retired : IsRetired key.turns list hand
  retired = all_at (IsRetired key.turns list) hands k hand all.retired at

  pub hand_said : (actor i : ℕ) (done : List Line) → number_of hand.1.role ≡ actor → AreTurnsOf actor i done (own hand.1) → AreTurnsOf actor i done (receipts key.turns.1.start actor list)
  hand_said actor i done number said = ap (λ n. words_in (receipts key.turns.1.start n list)) (sym number) ∙ ap words_in retired.receipts ∙ said

  pub turned : (room : Room) → IsRoomOf key.phase room → number_of hand.1.role ≡ key.phase.starter → AreStarts (front hand.1) → ArePipeTurned room key list (front hand.1)
  turned room of number starts =
      let rest = retired.heard.0 in
      let joined : front hand.1 ++ rest ≡ list = retired.heard.1 in
      let start = key.turns.1.start in
      let starter = key.phase.starter in
      record {
        rest = rest;
        all = joined;
        turns = record {
          hands = subst (λ l. AreByHands l starter (front hand.1 ++ rest)) (sym of.lines) (subst (AreByHands key.phase.lines starter) (sym joined) all.by_hands);
          starts = starts;
          start = start;
          ended =
              ap words_in
              (ap (λ n. receipts start n (front hand.1 ++ rest)) (sym number)
              ∙ ap (receipts start (number_of hand.1.role)) joined
              ∙ retired.receipts
              ∙ ap (λ z. receipts z.1.start (number_of hand.1.role) (front hand.1)) retired.here_is
              ∙ ap (λ n. receipts start n (front hand.1)) number);
        };
        start = refl;
      }
