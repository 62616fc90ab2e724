-- What a pass has seen of the port that shared its table's list with it.
use Rattle.std.proofs.Common.{◌≡◌, ℕ, suc, ◌≤◌, arith, List, [], ◌∷◌, ◌++◌, Bool, true, false, cond, length, refl, sym, ap, subst, ◌∙◌, append-nil}
use Rattle.std.specs.Prelude.{◌==◌}
use Rattle.std.proofs.lemmas.List.{length-reverse}
use mathlib.Core.List.{IsPrefix}
use Rattle.attrs.specs.declared.judge.Verdict.{Verdict}
use Rattle.attrs.specs.declared.route.Change.{Change}
use Rattle.attrs.specs.declared.route.Route.{Route}
use Rattle.bits_ip.specs.Prefix.{Net}
use Rattle.jour_rule.specs.Journal.{receipts}
use Rattle.jour_rule.specs.declared.views.Entry.{Entry}
use Rattle.jour.specs.Seats.{front, journal, own}
use Rattle.core_machine.specs.Lines.{Line, Turn, ops_of}
use Rattle.core_machine.specs.Rules.{Rules}
use Rattle.phase_legal.specs.Changes.{AreMade, changes_in, given}
use Rattle.phase_legal.specs.Shown.{HandView, IsSeen, PassView, Room}
use Rattle.phase_legal.specs.Turns.{turns_told}
use Rattle.import_lock.specs.Calls.{IsRoomOf}
use Rattle.import_lock.specs.Kept.{IsImporting, left}
use Rattle.import_lock.specs.Terms.{ImportTerms, ops_told, past_ops, rules_in}
use Rattle.import_lock.specs.declared.state.ImportState.{ImportState}

made_count : (rs : List (ℕ × List ℕ)) (made : List (ℕ × Change)) → AreMade rs made → length (changes_in made) ≡ length rs
made_count [] [] are = refl
made_count [] (m ∷ made) are = absurd are
made_count (r ∷ rs) [] are = absurd are
made_count (r ∷ rs) (m ∷ made) are = ap suc (made_count rs made are.1)

-- a longer list has no fewer receipts
receipts_le : (n k : ℕ) (xs ys : List Entry) → length (receipts n k xs) ≤ length (receipts n k (xs ++ ys))
receipts_le n k [] ys = omega arith
receipts_le n k (e ∷ xs) ys = step (e.maker == k) (receipts_le (suc n) k xs ys)
  where
    step : (b : Bool) → length (receipts (suc n) k xs) ≤ length (receipts (suc n) k (xs ++ ys))
        → length (cond b ((suc n, e.words) ∷ receipts (suc n) k xs) (receipts (suc n) k xs)) ≤ length (cond b ((suc n, e.words) ∷ receipts (suc n) k (xs ++ ys)) (receipts (suc n) k (xs ++ ys)))
    step true le = omega (arith, le)
    step false le = le

module _ {J : Type 0} (verdict : J → Net → Route → Verdict) where
  pub seen_of : (key : ImportTerms) (made : List (ℕ × Change)) (a : ImportState J) (room : Room) (hand : HandView) (pass : PassView) → IsImporting verdict key made a → left a ≡ [] → IsRoomOf key.phase room
      → front hand.1 ≡ front a.turns.1 → journal pass ≡ journal a.port → IsPrefix (front a.port.1) (front pass.1) → IsSeen room key.number key.port_number hand pass
  seen_of key made a room hand pass o rest is same here shared =
      let gave : List Change = given (rules_in key) key.number (past_ops key) (ops_told key (front a.turns.1)) in
      let sent : length (changes_in made) ≡ length gave =
      ap length (sym (append-nil (changes_in made)) ∙ ap (λ z. changes_in made ++ z) (sym rest) ∙ o.sent) ∙ length-reverse gave in
      let count = made_count (own a.port.1) made o.says in
      let given_is : length (given room.rules key.number (ops_of (room.past key.number)) (ops_of (turns_told room.lines (front hand.1)))) ≡ length gave =
      ap (λ (z : Rules). length (given z key.number (ops_of (room.past key.number)) (ops_of (turns_told room.lines (front hand.1))))) is.rules
      ∙ ap (λ (z : ℕ → List Turn). length (given (rules_in key) key.number (ops_of (z key.number)) (ops_of (turns_told room.lines (front hand.1))))) is.past
      ∙ ap (λ (z : List Line). length (given (rules_in key) key.number (past_ops key) (ops_of (turns_told z (front hand.1))))) is.lines
      ∙ ap (λ (z : List Entry). length (given (rules_in key) key.number (past_ops key) (ops_told key z))) same in
      let mine : receipts pass.1.seen.terms.start key.port_number (front a.port.1) ≡ own a.port.1 =
      ap (λ z. receipts z.1.start key.port_number (front a.port.1)) here ∙ ap (λ z. receipts a.port.1.seen.terms.start z (front a.port.1)) (sym o.port_number) in
      let le : length (receipts pass.1.seen.terms.start key.port_number (front a.port.1)) ≤ length (receipts pass.1.seen.terms.start key.port_number (front pass.1)) =
      subst (λ z. length (receipts pass.1.seen.terms.start key.port_number (front a.port.1)) ≤ length (receipts pass.1.seen.terms.start key.port_number z)) shared.1 (receipts_le pass.1.seen.terms.start key.port_number (front a.port.1) shared.0) in
      let mine_count = ap length mine in
      omega (arith, sent, count, given_is, mine_count, le)
