-- Lists that a loop fills from another one, and what is left of lists that it empties.
use Rattle.std.proofs.Common.{◌≡◌, ℕ, ◌+◌, ◌≤◌, arith, zero-add, List, [], ◌∷◌, ◌++◌, length, map, Some, refl, sym, ap, subst, ◌∙◌, length-append}
use Rattle.std.specs.Prelude.{slice_get}
use Rattle.core_setup.specs.Pairs.{Pairs}
use Rattle.core_setup.proofs.Numbered.{get_behind}
use Rattle.core_setup.proofs.PairLemmas.{pairs_length, pairs_push}
use Rattle.room_open.specs.Lists.{AreLater, AreOthers}

pub pairs_longer : {X Y : Type 0} (P : ℕ → X → Y → Type 0) (xs : List X) (ys more : List Y) (x : X) (y : Y) → Pairs P 0 xs ys → P (length ys) x y → more ≡ ys ++ y ∷ [] → Pairs P 0 (xs ++ x ∷ []) more
pairs_longer P xs ys more x y ps p e =
    subst (λ z. Pairs P 0 (xs ++ x ∷ []) z) (sym e) (pairs_push P 0 xs ys x y ps (subst (λ n. P n x y) (sym (pairs_length P 0 xs ys ps) ∙ sym (zero-add (length xs))) p))

pub same_maps : {X Y Z : Type 0} (f : X → Z) (g : Y → Z) (n : ℕ) (xs : List X) (ys : List Y) → Pairs (λ k x y. f x ≡ g y) n xs ys → map f xs ≡ map g ys
same_maps f g n [] [] ps = refl
same_maps f g n [] (y ∷ ys) ps = absurd ps
same_maps f g n (x ∷ xs) [] ps = absurd ps
same_maps f g n (x ∷ xs) (y ∷ ys) ps = ap (λ z. z ∷ map f xs) ps.0 ∙ ap (λ z. g y ∷ z) (same_maps f g (n + 1) xs ys ps.1)

pub map_twice : {X Y Z : Type 0} (f : Y → Z) (g : X → Y) (xs : List X) → map f (map g xs) ≡ map (λ x. f (g x)) xs
map_twice f g [] = refl
map_twice f g (x ∷ xs) = ap (λ z. f (g x) ∷ z) (map_twice f g xs)

-- the item behind those that are done
pub next_at : {X : Type 0} (done rest all : List X) (x : X) → done ++ x ∷ rest ≡ all → slice_get all (length done) ≡ Some x
next_at done rest all x e =
    let none : length done ≡ length done + 0 = omega arith in
    ap (λ z. slice_get z (length done)) (sym e) ∙ ap (slice_get (done ++ x ∷ rest)) none ∙ get_behind done (x ∷ rest) 0

pub one_longer : {X : Type 0} (done : List X) (x : X) → length (done ++ x ∷ []) ≡ length done + 1
one_longer done x = length-append done (x ∷ [])

pub all_later : {X : Type 0} (place : ℕ) (xs : List X) → AreLater place xs xs
all_later place xs = record { count = refl; each = λ k least. refl }

pub later_more : {X : Type 0} (place next : ℕ) (old now new : List X) → next ≡ place + 1 → AreLater place old now → AreOthers place now new → AreLater next old new
later_more place next old now new e later others = record {
  count = others.count ∙ later.count;
  each = λ k least. others.each k (λ same. let bad : 1 ≤ 0 = omega (arith, same, least, e) in omega (arith, bad)) ∙ later.each k (let less : place ≤ k = omega (arith, least, e) in less);
}
