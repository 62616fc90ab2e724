-- The numbers of a protocol's channels among those of all.
use Rattle.std.proofs.Common.{◌≡◌, ◌==◌, ℕ, suc, ◌+◌, ◌<◌, Bool, true, false, List, [], ◌∷◌, ◌++◌, Option, Some, None, inl, inr, refl, ◌∙◌, ap, arith, length}
use Rattle.std.specs.Prelude.{if◌then◌else◌}
use Rattle.std.proofs.lemmas.Bool.Decides.{eqb_tells}
use Rattle.bits_ip.specs.declared.address.Family.{Family}
use Rattle.core_setup.specs.Channels.{Channel, channels_from, channels_in, numbers_of, session}
use Rattle.core_setup.specs.Setup.{Body, Exports, IsPipe, IsSource, Protocol}
use Rattle.core_setup.proofs.Numbered.{itself_is}

another : (a b : ℕ) → (a ≡ b → ⊥) → (a == b) ≡ false
another a b e = elim (eqb_tells a b) [ inl w ↦ absurd (e w.1) | inr w ↦ w.0 ]

abbrev with_number : Bool → ℕ → List ℕ → List ℕ
with_number b n more = if b then n ∷ more else more

pub numbers_join : (i n : ℕ) (xs ys : List Channel) → numbers_of i n (xs ++ ys) ≡ numbers_of i n xs ++ numbers_of i (n + length xs) ys
numbers_join i n [] ys = ap (λ m. numbers_of i m ys) (let e : n ≡ n + 0 = omega arith in e)
numbers_join i n (x ∷ xs) ys =
    ap (with_number (x.owner == i) n) (numbers_join i (n + 1) xs ys ∙ ap (λ m. numbers_of i (n + 1) xs ++ numbers_of i m ys) (let e : n + 1 + length xs ≡ n + suc (length xs) = omega arith in e))
    ∙ by (x.owner == i) (numbers_of i (n + 1) xs) (numbers_of i (n + suc (length xs)) ys)
  where
    by : (b : Bool) (l m : List ℕ) → with_number b n (l ++ m) ≡ with_number b n l ++ m
    by true l m = refl
    by false l m = refl

module _ (tables : List (List ℕ × Family)) where
  -- a pipe has two
  pub pipe_numbers : (i n : ℕ) (name : List ℕ) (b : Body) (out back : Channel) → channels_in tables i name b ≡ out ∷ back ∷ [] → out.owner ≡ i → back.owner ≡ i
      → numbers_of i n (channels_in tables i name b) ≡ n ∷ (n + 1) ∷ []
  pipe_numbers i n name b out back is mine own =
      ap (numbers_of i n) is
      ∙ ap (λ t. with_number t n (with_number (back.owner == i) (n + 1) [])) (ap (λ o. o == i) mine ∙ itself_is i)
      ∙ ap (λ t. n ∷ with_number t (n + 1) []) (ap (λ o. o == i) own ∙ itself_is i)

  pub no_numbers : (i m n : ℕ) (name : List ℕ) (b : Body) → (m ≡ i → ⊥) → numbers_of i n (channels_in tables m name b) ≡ []
  no_numbers i m n name (IsSource p) apart = by p.exports where
    by : (o : Option Exports) → numbers_of i n (session tables m name p.table o) ≡ []
    by None = refl
    by (Some x) = ap (λ t. with_number t n []) (another m i apart)
  no_numbers i m n name (IsPipe p) apart =
      ap (λ t. with_number t n (with_number t (n + 1) [])) (another m i apart)

  -- and later protocols have none of them
  pub none_behind : (i m n : ℕ) (ps : List Protocol) → i < m → numbers_of i n (channels_from tables m ps) ≡ []
  none_behind i m n [] w = refl
  none_behind i m n (p ∷ ps) w =
      numbers_join i n (channels_in tables m p.name p.body) (channels_from tables (m + 1) ps)
      ∙ ap (λ l. l ++ numbers_of i (n + length (channels_in tables m p.name p.body)) (channels_from tables (m + 1) ps)) (no_numbers i m n p.name p.body (λ e. omega (arith, w, e)))
      ∙ none_behind i (m + 1) (n + length (channels_in tables m p.name p.body)) ps (omega (arith, w))
