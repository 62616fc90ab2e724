-- The keys of marks that a chunk is over are added with no candidate.
use Rattle.std.proofs.Common.{◌≡◌, ◌+◌, ℕ, arith, length, Bool, true, false, List, Option, Some, None, refl, inl, inr, sym, ◌∙◌, ap, cond, is_some}
use Rattle.std.specs.Prelude.{◌||◌, ◌&&◌, if◌then◌else◌, drop, slice_get}
use Rattle.std.specs.BTreeMap.{is_at}
use Rattle.export_core.specs.Candidates.{AddsNone, covers}
use Rattle.export_core.specs.Keys.{key_cmp, same_key}
use Rattle.export_core.specs.Marks.{Listed, at, find, live}
use Rattle.export_core.specs.declared.floors.Floor.{Floor}
use Rattle.export_core.specs.declared.log.Key.{Key}
use Rattle.export_core.specs.declared.marks.Mark.{Mark}
use Rattle.attrs.specs.declared.route.Route.{Route}
use Rattle.export_core.proofs.Feeding.{adds_one}
use Rattle.export_core.proofs.Keys.{is_at_is, key_tells, same_key_flip}
use Rattle.export_core.proofs.TwoMaps.{at_append, drop_end, split_at}

-- the keys that stand from a number on, as far as the range covers them
abbrev pub Covers : Floor → ℕ → Listed → List (Key × Option Route) → List (Key × Option Route) → Type 0
Covers f n es old new = AddsNone (λ q. covers f q && is_some (at q (drop n es))) old new

asks_none : (c : Bool) (o : Option (Option Route)) → o ≡ (if is_some o then o else (if c && false then Some None else None))
asks_none true None = refl
asks_none false None = refl
asks_none c (Some x) = refl

pub covers_none : (f : Floor) (es : Listed) (old : List (Key × Option Route)) → Covers f (length es) es old old
covers_none f es old q =
    asks_none (covers f q) (at q old)
    ∙ ap (λ l. if is_some (at q old) then at q old else (if covers f q && is_some (at q l) then Some None else None)) (sym (drop_end (length es) es (omega arith)))

both_one : (c s : Bool) (o : Option Mark) → (c && is_some o) ≡ ((c && is_some o) || (s && false))
both_one true true (Some m) = refl
both_one true true None = refl
both_one true false (Some m) = refl
both_one true false None = refl
both_one false true o = refl
both_one false false o = refl

one_more : (c b : Bool) → (c && true) ≡ ((c && b) || (c && true))
one_more true true = refl
one_more true false = refl
one_more false b = refl

-- one more, in front of them
covered_more : (f : Floor) (q k : Key) (m : Mark) (o : Option Mark) → (covers f q && is_some (cond (is_at (key_cmp q) k) (Some m) o)) ≡ ((covers f q && is_some o) || (covers f k && same_key k q))
covered_more f q k m o = elim (key_tells k q) [
  | inl z ↦
      ap (λ b. covers f q && is_some (cond b (Some m) o)) (is_at_is q k ∙ same_key_flip q k ∙ z.0)
      ∙ one_more (covers f q) (is_some o)
      ∙ ap (λ n. (covers f q && is_some o) || (covers f n && true)) (sym z.1)
      ∙ ap (λ b. (covers f q && is_some o) || (covers f k && b)) (sym z.0)
  | inr z ↦
      ap (λ b. covers f q && is_some (cond b (Some m) o)) (is_at_is q k ∙ same_key_flip q k ∙ z.0)
      ∙ both_one (covers f q) (covers f k) o
      ∙ ap (λ b. (covers f q && is_some o) || (covers f k && b)) (sym z.0)
]

pub covers_more : (f : Floor) (n : ℕ) (k : Key) (m : Mark) (es : Listed) (old mid new : List (Key × Option Route)) → slice_get es n ≡ Some (k, m) → Covers f (n + 1) es old mid → AddsNone (λ q. covers f k && same_key k q) mid new → Covers f n es old new
covers_more f n k m es old mid new is a b q =
    adds_one (at q old) (at q mid) (at q new) (covers f q && is_some (at q (drop (n + 1) es))) (covers f q && is_some (at q (drop n es))) (covers f k && same_key k q) (a q) (b q)
    (ap (λ l. covers f q && is_some (at q l)) (split_at n es (k, m) is) ∙ covered_more f q k m (at q (drop (n + 1) es)))

either : (c : Bool) (o p : Option Mark) → (c && is_some (if is_some o then o else p)) ≡ ((c && is_some o) || (c && is_some p))
either true (Some m) p = refl
either true None p = refl
either false o p = refl

-- those of the first map, and then those of the second
pub covers_both : (f : Floor) (n : ℕ) (leaving coming view : Listed) (old mid new : List (Key × Option Route)) → live n leaving coming ≡ view → Covers f n leaving old mid → Covers f 0 coming mid new → AddsNone (λ q. covers f q && is_some (find q view)) old new
covers_both f n leaving coming view old mid new is a b q =
    adds_one (at q old) (at q mid) (at q new) (covers f q && is_some (at q (drop n leaving))) (covers f q && is_some (find q view)) (covers f q && is_some (at q coming)) (a q) (b q)
    (ap (λ l. covers f q && is_some (find q l)) (sym is) ∙ ap (λ o. covers f q && is_some o) (at_append q (drop n leaving) coming) ∙ either (covers f q) (at q (drop n leaving)) (at q coming))
