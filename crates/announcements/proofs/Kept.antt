-- What is kept of a value, by whether it passes.
use Rattle.std.proofs.Common.{◌≡◌, ◌∙◌, sym, ap, refl, Bool, true, false, cond, ◌&&◌, Some, None, inl, inr}
use Rattle.std.proofs.lemmas.Bool.{cases_Bool}
use Rattle.announcements.specs.Reading.{kept}

pub kept_yes : {X : Type 0} (test : X → Bool) (x : X) → test x ≡ true → kept test x ≡ Some x
kept_yes test x is = ap (λ (b : Bool). cond b (Some x) None) is

pub kept_no : {X : Type 0} (test : X → Bool) (x : X) → test x ≡ false → kept test x ≡ None
kept_no test x is = ap (λ (b : Bool). cond b (Some x) None) is

none_some : {X : Type 0} (x : X) → None ≡ Some x → ⊥
none_some x same = cc

some_same : {X : Type 0} (x y : X) → Some x ≡ Some y → x ≡ y
some_same x y same = cc

pub none_kept : {X : Type 0} (test : X → Bool) (x : X) → None ≡ kept test x → test x ≡ false
none_kept test x is = elim (cases_Bool (test x)) [
  | inl holds ↦ absurd (none_some x (is ∙ kept_yes test x holds))
  | inr fails ↦ fails
]

pub some_kept : {X : Type 0} (test : X → Bool) (x y : X) → Some y ≡ kept test x → (test x ≡ true) × (y ≡ x)
some_kept test x y is = elim (cases_Bool (test x)) [
  | inl holds ↦ (holds, some_same y x (is ∙ kept_yes test x holds))
  | inr fails ↦ absurd (none_some y (sym (is ∙ kept_no test x fails)))
]

pub and_no_left : (a b : Bool) → a ≡ false → (a && b) ≡ false
and_no_left a b is = ap (λ (x : Bool). x && b) is

pub and_no_right : (a b : Bool) → b ≡ false → (a && b) ≡ false
and_no_right true b is = is
and_no_right false b is = refl
