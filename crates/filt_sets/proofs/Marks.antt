-- Marks of the places of a path, from the last one on.
use Rattle.std.proofs.Common.{◌≡◌, ◌==◌, ℕ, zero, suc, ◌<◌, ◌-◌, ◌++◌, take, ◌≤◌, ◌+◌, Bool, true, false, List, [], ◌∷◌, length, get_or, set, replicate, drop, refl, sym, ap, ◌∙◌, ⊎_elim, arith, append_assoc, get_or-set_other, get_or-set_same}
use Rattle.std.proofs.lemmas.Bool.{cases_eq, eq-eqb, ne_eqb}
use Rattle.std.proofs.lemmas.List.{drop_more, take_all, take_more, length-replicate}
use Rattle.std.proofs.Math.Seq.{drop-length}
use Rattle.filt_sets.specs.declared.mask.MaskItem.{MaskItem}
use Rattle.filt_sets.specs.Search.{before, cuts, is_empty, matches_at, Tells}

-- The marks below a place tell of the later items alone, those from it on of the item too. `behind` is what stood there.
pub record IsMarked (item : MaskItem) (later : List ℕ → Bool) (path : List ℕ) (marks : List Bool) (place : ℕ) (was : Bool) : Type 0 where
  pub low : (k : ℕ) → k < place → get_or marks k false ≡ later (drop k path)
  pub high : (k : ℕ) → place ≤ k → k ≤ length path → get_or marks k false ≡ before item later (drop k path)
  pub behind : was ≡ later (drop place path)

pub marks_step :
    (item : MaskItem) (later : List ℕ → Bool) (path : List ℕ) (marks : List Bool) (place p : ℕ) (was : Bool) → place ≡ p + 1 → p < length path → length path < length marks → IsMarked item later path marks place was
    → IsMarked item later path (set marks p (matches_at item (get_or path p 0) (get_or marks p false) was (get_or marks (p + 1) false))) p (get_or marks p false)
marks_step item later path marks place p was up within room is =
    let v = matches_at item (get_or path p 0) (get_or marks p false) was (get_or marks (p + 1) false) in
    let more : drop p path ≡ get_or path p 0 ∷ drop (p + 1) path = drop_more path p 0 within in
    let here : get_or marks p false ≡ later (drop p path) = is.low p (omega arith) in
    let again : get_or marks (p + 1) false ≡ before item later (drop (p + 1) path) = is.high (p + 1) (omega arith) (omega arith) in
    let behind : was ≡ later (drop (p + 1) path) = is.behind ∙ ap (λ k. later (drop k path)) up in
    let answer : v ≡ before item later (drop p path) =
    ap (λ b. matches_at item (get_or path p 0) b was (get_or marks (p + 1) false)) (here ∙ ap later more)
    ∙ ap (λ b. matches_at item (get_or path p 0) (later (get_or path p 0 ∷ drop (p + 1) path)) b (get_or marks (p + 1) false)) behind
    ∙ ap (matches_at item (get_or path p 0) (later (get_or path p 0 ∷ drop (p + 1) path)) (later (drop (p + 1) path))) again
    ∙ sym (ap (before item later) more) in
    record {
      low = λ k h. let ne : k ≡ p → ⊥ = λ e. omega arith in get_or-set_other marks p k v false ne ∙ is.low k (omega arith);
      high = λ k h i. ⊎_elim (λ e. rw e (get_or-set_same marks p v false (omega arith) ∙ answer)) (λ ne. get_or-set_other marks p k v false ne ∙ is.high k (omega arith) i) (cases_eq k p);
      behind = here;
    }

pub marks_end : (item : MaskItem) (later : List ℕ → Bool) (path : List ℕ) (marks : List Bool) (was : Bool) → IsMarked item later path marks 0 was → Tells (before item later) path marks
marks_end item later path marks was is = λ k h. is.high k (omega arith) h

none_marked : (n k : ℕ) → get_or (replicate n false) k false ≡ false
none_marked zero k = refl
none_marked (suc n) zero = refl
none_marked (suc n) (suc k) = none_marked n k

-- one place is marked
pub one_marked : (n place : ℕ) → place < n → (k : ℕ) → get_or (set (replicate n false) place true) k false ≡ (k == place)
one_marked n place within k =
    ⊎_elim
    (λ e. rw e (get_or-set_same (replicate n false) place true false (omega (arith, length-replicate n false)) ∙ sym (eq-eqb place place refl)))
    (λ ne. get_or-set_other (replicate n false) place k true false ne ∙ none_marked n k ∙ sym (ne_eqb k place ne))
    (cases_eq k place)

-- no items match where the path ends
pub last_marked : (path : List ℕ) (marks : List Bool) → ((k : ℕ) → get_or marks k false ≡ (k == length path)) → Tells (cuts []) path marks
last_marked path marks is k h =
    ⊎_elim
    (λ e. is k ∙ eq-eqb k (length path) e ∙ sym (rw e (ap is_empty (drop-length path))))
    (λ ne. is k ∙ ne_eqb k (length path) ne ∙ sym (ap is_empty (drop_more path k 0 (omega arith))))
    (cases_eq k (length path))

-- the last item is gone through
pub gone_more : (items left gone : List MaskItem) (d : MaskItem) → 1 ≤ length left → items ≡ left ++ gone → items ≡ take (length left - 1) left ++ get_or left (length left - 1) d ∷ gone
gone_more items left gone d some is =
    let i = length left - 1 in
    let whole : left ≡ take i left ++ get_or left i d ∷ [] = sym (take_all (i + 1) left (omega arith)) ∙ take_more left i d (omega arith) in
    is ∙ ap (λ l. l ++ gone) whole ∙ append_assoc (take i left) (get_or left i d ∷ []) gone
