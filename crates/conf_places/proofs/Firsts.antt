-- The refusal that counts in a text is the first by place of all that there are.
use Rattle.std.proofs.Common.{◌≡◌, ℕ, zero, suc, ◌<◌, arith, Bool, true, false, ◌&&◌, ◌||◌, ◌==◌, nat_lt, All, Contains, get_or, length, List, [], ◌∷◌, ◌++◌, Option, Some, None, refl, ap, ◌∙◌, sym as flip, true≢false}
use Rattle.std.proofs.lemmas.Bool.{eqb-true, ltb-true}
use Rattle.conf_ast.specs.Configurations.{Declaration}
use Rattle.conf_names.specs.declared.refusal.Refusal.{Refusal}
use Rattle.conf_names.specs.Known.{Known}
use Rattle.conf_names.specs.Refusals.{first_in, precedes, number_of}
use Rattle.conf_rules.specs.Statements.{refusals}
use Rattle.conf_check.specs.Behind.{behind_one}
use Rattle.conf_check.specs.Refused.{or_later, refusal_of}
use Rattle.conf_places.specs.Configurations.{places}
use Rattle.conf_places.specs.Refused.{gathered}
use Rattle.conf_places.proofs.Configurations.{declaration_stands}
use Rattle.conf_places.proofs.Every.{Every, join, weaker, all_of, of_one_among, contains_more}
use Rattle.conf_places.proofs.Order.{InOrder, PlacesBefore}
use Rattle.conf_places.proofs.Refused.{counted}

-- ---- lists

every_of : {X : Type 0} (P : X → Type 0) (xs : List X) → All P xs → Every P xs
every_of P [] a = tt
every_of P (x ∷ xs) a = (a 0 x (omega arith), every_of P xs (λ k d lt. a (suc k) d (omega (arith, lt))))

contains_at : {X : Type 0} (xs ys : List X) (y : X) (k : ℕ) → k < length xs → get_or xs k y ≡ y → Contains (xs ++ ys) y
contains_at [] ys y k lt is = absurd (omega (arith, lt))
contains_at (x ∷ xs) ys y zero lt is = (0, omega arith, is)
contains_at (x ∷ xs) ys y (suc k) lt is = contains_more x (xs ++ ys) y (contains_at xs ys y k (omega (arith, lt)) is)

-- ---- what stands behind doesn't come before

neither : (p q n : Bool) → p ≡ false → q ≡ false → (p || (q && n)) ≡ false
neither true q n a b = absurd (true≢false a)
neither false true n a b = absurd (true≢false b)
neither false false n a b = refl

is_false : (b : Bool) → (b ≡ true → ⊥) → b ≡ false
is_false true f = absurd (f refl)
is_false false f = refl

not_before : (s r : Refusal) → r.at < s.at → precedes s r ≡ false
not_before s r lt =
    neither (nat_lt s.at r.at) (s.at == r.at) (nat_lt (number_of s.kind) (number_of r.kind))
    (is_false (nat_lt s.at r.at) (λ e. let less = ltb-true s.at r.at e in omega (arith, lt, less)))
    (is_false (s.at == r.at) (λ e. let same = eqb-true s.at r.at e in omega (arith, lt, same)))

-- what holds of each place of some statements holds of those of all that is refused of them
gathered_stand : (P : ℕ → Type 0) (known : Known) (ds : List Declaration) → Every (λ d. Every P (places d)) ds → Every (λ (r : Refusal). P r.at) (gathered known ds)
gathered_stand P known [] h = tt
gathered_stand P known (d ∷ ds) h = join (λ (r : Refusal). P r.at) (refusals known d) (gathered (behind_one known d) ds) (declaration_stands P known d h.0) (gathered_stand P (behind_one known d) ds h.1)

module _ (accepted : (rs : List Refusal) → first_in None rs ≡ None → rs ≡ [])
    (among : (rs : List Refusal) (r : Refusal) → first_in None rs ≡ Some r → Contains rs r)
    (before : (rs : List Refusal) (r : Refusal) → first_in None rs ≡ Some r → All (λ (other : Refusal). precedes other r ≡ false) rs)
    (only : (rs : List Refusal) (r : Refusal) → Contains rs r → All (λ (other : Refusal). precedes other r ≡ false) rs → first_in None rs ≡ Some r) where
  first_of_two : (rs ys : List Refusal) (o later : Option Refusal) → first_in None rs ≡ o → later ≡ first_in None ys → ((r : Refusal) → first_in None rs ≡ Some r → Every (λ (s : Refusal). precedes s r ≡ false) ys) → or_later o later ≡ first_in None (rs ++ ys)
  first_of_two rs ys None later is next behind = next ∙ ap (λ (xs : List Refusal). first_in None (xs ++ ys)) (flip (accepted rs is))
  first_of_two rs ys (Some r) later is next behind =
      let found = among rs r is in
      flip (only (rs ++ ys) r (contains_at rs ys r found.0 found.1 found.2)
      (all_of (λ (s : Refusal). precedes s r ≡ false) (rs ++ ys) (join (λ (s : Refusal). precedes s r ≡ false) rs ys (every_of (λ (s : Refusal). precedes s r ≡ false) rs (before rs r is)) (behind r is))))

  behind_it : (known : Known) (d : Declaration) (ds : List Declaration) (next : Known) → Every (PlacesBefore d) ds → (r : Refusal) → first_in None (refusals known d) ≡ Some r → Every (λ (s : Refusal). precedes s r ≡ false) (gathered next ds)
  behind_it known d ds next order r is =
      weaker (λ (s : Refusal). r.at < s.at) (λ (s : Refusal). precedes s r ≡ false) (λ s lt. not_before s r lt) (gathered next ds)
      (gathered_stand (λ (n : ℕ). r.at < n) next ds
      (weaker (PlacesBefore d) (λ (e : Declaration). Every (λ (n : ℕ). r.at < n) (places e))
      (λ e h. of_one_among (λ (x : ℕ). Every (λ (n : ℕ). x < n) (places e)) (places d) r.at (all_of (λ (x : ℕ). Every (λ (n : ℕ). x < n) (places e)) (places d) h) (counted among known d r is)) ds order))

  pub first_of_all : (known : Known) (ds : List Declaration) → InOrder PlacesBefore ds → refusal_of known ds ≡ first_in None (gathered known ds)
  first_of_all known [] h = refl
  first_of_all known (d ∷ ds) h =
      first_of_two (refusals known d) (gathered (behind_one known d) ds) (first_in None (refusals known d)) (refusal_of (behind_one known d) ds) refl
      (first_of_all (behind_one known d) ds h.1) (behind_it known d ds (behind_one known d) h.0)
