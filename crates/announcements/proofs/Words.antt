-- The first of some words, and the others.
use Rattle.std.proofs.Common.{◌≡◌, ℕ, List, ◌∷◌}
use Rattle.announcements.specs.Reading.{IfForm}
use Rattle.announcements.specs.declared.refusal.Refusal.{Refusal}
use Rattle.announcements.specs.declared.refusal.Refusal.TheVariants as refusals

pub form_more : (refusal : Refusal) (P Q : Type 0) → (P → Q) → IfForm refusal P → IfForm refusal Q
form_more refusals.Form P Q more given = more given
form_more refusals.Memory P Q more given = tt

pub first_byte : (x y : ℕ) (xs ys : List ℕ) → x ∷ xs ≡ y ∷ ys → x ≡ y
first_byte x y xs ys same = cc

pub heads_same : (a b : List ℕ) (xs ys : List (List ℕ)) → a ∷ xs ≡ b ∷ ys → a ≡ b
heads_same a b xs ys same = cc

pub words_behind : (a b : List ℕ) (xs ys : List (List ℕ)) → a ∷ xs ≡ b ∷ ys → xs ≡ ys
words_behind a b xs ys same = cc
