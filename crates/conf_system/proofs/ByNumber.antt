-- The filters that have names, by their numbers.
use Rattle.std.proofs.Common.{◌≡◌, ap, refl, ℕ, zero, suc, ◌<◌, min, List, [], ◌∷◌, length, map, Some, None, arith}
use Rattle.std.proofs.lemmas.Option.{none-some}
use Rattle.std.specs.Prelude.{slice_get}
use Rattle.filt_meaning.specs.Scopes.{named}
use Rattle.filt_meaning.specs.declared.scope.Scope.{Scope}
use Rattle.filt_meaning.specs.declared.tree.TFilter.{TFilter}
use Rattle.conf_system.specs.Seen.{numbered, tree_says}

pub count_of : {A : Type 0} (ns : List (List ℕ)) (xs : List A) → length (named ns xs) ≡ min (length ns) (length xs)
count_of [] xs = omega arith
count_of (n ∷ ns) [] = omega arith
count_of (n ∷ ns) (x ∷ xs) = omega (arith, count_of ns xs)

pub name_at : {A : Type 0} (ns : List (List ℕ)) (xs : List A) (i : ℕ) (n : List ℕ) → i < length (named ns xs) → slice_get ns i ≡ Some n → slice_get (map (λ f. f.0) (named ns xs)) i ≡ Some n
name_at [] xs i n less is = absurd (omega (arith, less))
name_at (m ∷ ns) [] i n less is = absurd (omega (arith, less))
name_at (m ∷ ns) (x ∷ xs) zero n less is = is
name_at (m ∷ ns) (x ∷ xs) (suc i) n less is = name_at ns xs i n (omega (arith, less)) is

pub got_seen : {D S : Type 0} (see : D → S) (ds : List D) (i : ℕ) (d : D) → slice_get ds i ≡ Some d → slice_get (map see ds) i ≡ Some (see d)
got_seen see [] i d is = absurd cc
got_seen see (x ∷ ds) zero d is = let same : x ≡ d = cc in ap (λ (y : _). Some (see y)) same
got_seen see (x ∷ ds) (suc i) d is = got_seen see ds i d is

-- a number of one of the pairs is one of each list
pub below_both : {A : Type 0} (ns : List (List ℕ)) (xs : List A) (i : ℕ) → i < length (named ns xs) → (i < length ns) × (i < length xs)
below_both ns xs i less = (omega (arith, less, count_of ns xs), omega (arith, less, count_of ns xs))

pub none_past : {A : Type 0} (xs : List A) (i : ℕ) → None ≡ slice_get xs i → i < length xs → ⊥
none_past [] i is less = omega (arith, less)
none_past (x ∷ xs) zero is less = none-some x is
none_past (x ∷ xs) (suc i) is less = none_past xs i is (omega (arith, less))

-- the filter of a number, which is there
pub number_says : (scope : Scope) (filters : List TFilter) (names : List (List ℕ)) (ns : List (List ℕ)) (fs : List TFilter) (i : ℕ) → i < length (named ns (map (tree_says scope names) fs))
    → slice_get (map (λ f. f.1) (named ns (map (tree_says scope names) fs))) i ≡ Some (numbered scope filters names (slice_get fs i))
number_says scope filters names [] fs i less = absurd (omega (arith, less))
number_says scope filters names (n ∷ ns) [] i less = absurd (omega (arith, less))
number_says scope filters names (n ∷ ns) (f ∷ fs) zero less = refl
number_says scope filters names (n ∷ ns) (f ∷ fs) (suc i) less = number_says scope filters names ns fs i (omega (arith, less))
