-- A text that is split at the first byte of a kind.
use Rattle.std.proofs.Common.{◌≡◌, ◌≢◌, ℕ, ◌<◌, ◌+◌, List, ◌∷◌, ◌++◌, length, get_or, take, drop, All, Option, option_map, Some, None, sym, ap, ◌∙◌, refl, arith, rules, eqb, ltb, tests, true, false}
use Rattle.std.specs.List.{position}
use Rattle.std.proofs.lemmas.Bool.{ne_eqb, eq-eqb, eqb-true}
use Rattle.std.proofs.lemmas.List.{get_or_append_left, get_or_at, take_at, drop_at, drop-drop, take-append-drop, drop_more}
use Rattle.std.proofs.lemmas.List.Elements.{All-get_or}
use Rattle.std.proofs.lemmas.Option.{none-some, same_Some}
use Rattle.std.proofs.lemmas.List.Quantifiers.{position-Some}
use Rattle.std.proofs.lemmas.List.Sums.{position_or_len_is}
use Rattle.std.proofs.lemmas.Grind.{common_steps}
use Rattle.bits_ip.specs.Parts.{split_first}

-- a text is split at a byte that doesn't stand before
pub split_at_mark : (mark : ℕ) (front rest : List ℕ) → All (λ b. b ≢ mark) front → split_first mark (front ++ mark ∷ rest) ≡ Some (front, rest)
split_at_mark mark front rest clear =
    let text = front ++ mark ∷ rest in
    let longer : length text ≡ length front + (length rest + 1) = grind (arith, common_steps) in
    let before : (k : ℕ) → k < length front → eqb (get_or text k 0) mark ≡ false = λ k h.
    rw (get_or_append_left front (mark ∷ rest) 0 k h) (ne_eqb _ mark (All-get_or (λ b. b ≢ mark) front k 0 h clear)) in
    let here : eqb (get_or text (length front) 0) mark ≡ true = rw (get_or_at front mark rest 0 (length front) refl) (eq-eqb mark mark refl) in
    let place = position_or_len_is (λ b. eqb b mark) text (length front) 0 (omega arith) before (λ _. here) in
    let within : ltb (length front) (length text) ≡ true = search (rules, tests) in
    let taken : take (length front) text ≡ front = take_at front (mark ∷ rest) (length front) refl in
    let left : drop (length front + 1) text ≡ rest = sym (drop-drop 1 (length front) text) ∙ ap (drop 1) (drop_at front (mark ∷ rest) (length front) refl) in
    rw (place, within, taken, left) refl

from_option_map : {A B : Type 0} (f : A → B) (o : Option A) (y : B) → option_map f o ≡ Some y → (x : A) × (o ≡ Some x) × (f x ≡ y)
from_option_map f None y e = absurd (none-some y e)
from_option_map f (Some x) y e = (x, refl, same_Some (f x) y e)

-- the parts of a split text are the text
pub joined_parts : (mark : ℕ) (text front rest : List ℕ) → split_first mark text ≡ Some (front, rest) → text ≡ front ++ mark ∷ rest
joined_parts mark text front rest split =
    let found = from_option_map (λ i. (take i text, drop (i + 1) text)) (position (λ b. eqb b mark) text) (front, rest) split in
    let at = position-Some (λ b. eqb b mark) text found.0 0 found.1 in
    let mark_is : get_or text found.0 0 ≡ mark = eqb-true _ mark at.1 in
    let front_is : take found.0 text ≡ front = ap (λ p. p.0) found.2 in
    let rest_is : drop (found.0 + 1) text ≡ rest = ap (λ p. p.1) found.2 in
    let here : drop found.0 text ≡ mark ∷ rest = drop_more text found.0 0 at.0 ∙ ap (λ b. b ∷ drop (found.0 + 1) text) mark_is ∙ ap (λ r. mark ∷ r) rest_is in
    sym (take-append-drop found.0 text) ∙ ap (λ f. f ++ drop found.0 text) front_is ∙ ap (λ r. front ++ r) here
