-- The first of several lists of refusals.
use Rattle.std.proofs.Common.{◌≡◌, Bool, true, false, ◌&&◌, ◌||◌, ◌==◌, ℕ, arith, ◌+◌, ◌*◌, ◌<◌, ◌≤◌, min, nat_lt, if◌then◌else◌, List, [], ◌∷◌, ◌++◌, length, Option, Some, None, refl, ap, ◌∙◌, sym, true≢false}
use Rattle.std.proofs.Math.Dec.{eqb-suc-zero}
use Rattle.std.proofs.lemmas.Bool.{eq-eqb, eqb-true, ltb-true, ltb-false, lt-ltb}
use Rattle.filt_types.specs.declared.refusal.Cause.{Cause}
use Rattle.filt_types.specs.declared.refusal.Cause.TheVariants as causes
use Rattle.filt_types.specs.declared.refusal.Refusal.{Refusal}
use Rattle.filt_types.specs.Items.{is_known, is_empty}
use Rattle.filt_types.proofs.Lookups.{same_truth}
use Rattle.filt_types.specs.Refusals.{first_in, first_of, precedes, number_of}

pub first_append : (found : Option Refusal) (xs ys : List Refusal) → first_in found (xs ++ ys) ≡ first_in (first_in found xs) ys
first_append found [] ys = refl
first_append found (x ∷ xs) ys = first_append (first_of found x) xs ys

-- one list after another
pub first_two : (xs ys : List Refusal) (f g h : Option Refusal) → g ≡ first_in f xs → h ≡ first_in g ys → h ≡ first_in f (xs ++ ys)
first_two xs ys f g h p q = q ∙ ap (λ (x : Option Refusal). first_in x ys) p ∙ sym (first_append f xs ys)

-- the first of two lists is taken
pub first_rest : (xs ys : List Refusal) (f g : Option Refusal) → g ≡ first_in f xs → first_in f (xs ++ ys) ≡ first_in g ys
first_rest xs ys f g p = first_append f xs ys ∙ ap (λ (x : Option Refusal). first_in x ys) (sym p)

pub known_append : (xs ys : List Refusal) → is_known (xs ++ ys) ≡ (is_known xs && is_known ys)
known_append [] ys = refl
known_append (x ∷ xs) ys = refl

pub and_apart : (a b c : Bool) → (a && (b && c)) ≡ ((a && b) && c)
and_apart true b c = refl
and_apart false b c = refl

-- `is_empty` of a slice
pub empty_is : {A : Type 0} (xs : List A) → is_empty xs ≡ (length xs == 0)
empty_is [] = refl
empty_is (x ∷ xs) = sym (eqb-suc-zero (length xs))

-- ---- the order in which refusals are found doesn't matter

-- a refusal as a number: by place, at one place by the number of its cause
abbrev key : Refusal → ℕ
key r = 15 * r.at + number_of r.cause

at_most : (c : Cause) → number_of c ≤ 14
at_most causes.UnknownName = omega arith
at_most causes.DuplicateName = omega arith
at_most causes.Mismatch = omega arith
at_most causes.NotAssignable = omega arith
at_most causes.TooHeavy = omega arith
at_most causes.Limit = omega arith

abbrev cause_from : ℕ → Cause
cause_from n = if n == 4 then causes.UnknownName else if n == 5 then causes.DuplicateName else if n == 6 then causes.Mismatch else if n == 7 then causes.NotAssignable else if n == 8 then causes.TooHeavy else causes.Limit

cause_back : (c : Cause) → cause_from (number_of c) ≡ c
cause_back causes.UnknownName = refl
cause_back causes.DuplicateName = refl
cause_back causes.Mismatch = refl
cause_back causes.NotAssignable = refl
cause_back causes.TooHeavy = refl
cause_back causes.Limit = refl

abbrev refusal : ℕ → Cause → Refusal
refusal at cause = record { at = at; cause = cause }

same_key : (a b : Refusal) → key a ≡ key b → a ≡ b
same_key a b same =
    let places : a.at ≡ b.at = omega (arith, same, at_most a.cause, at_most b.cause) in
    let numbers : number_of a.cause ≡ number_of b.cause = omega (arith, same, places) in
    ap (λ (n : ℕ). refusal n a.cause) places ∙ ap (λ (c : Cause). refusal b.at c) (sym (cause_back a.cause) ∙ ap cause_from numbers ∙ cause_back b.cause)

forth : (p q r : Bool) → (p || (q && r)) ≡ true → (P : Type 0) → (p ≡ true → P) → (q ≡ true → r ≡ true → P) → P
forth true q r h P first second = first refl
forth false true true h P first second = second refl refl
forth false true false h P first second = absurd (true≢false (sym h))
forth false false r h P first second = absurd (true≢false (sym h))

back : (p q r : Bool) → (p ≡ false → q ≡ true) → (p ≡ false → r ≡ true) → (p || (q && r)) ≡ true
back true q r f g = refl
back false q r f g = rw (f refl, g refl) refl

precedes_key : (a b : Refusal) → precedes a b ≡ nat_lt (key a) (key b)
precedes_key a b = same_truth (precedes a b) (nat_lt (key a) (key b))
    (λ h. lt-ltb (key a) (key b) (forth (nat_lt a.at b.at) (a.at == b.at) (nat_lt (number_of a.cause) (number_of b.cause)) h (key a < key b)
    (λ p. let lt = ltb-true a.at b.at p in omega (arith, lt, at_most a.cause, at_most b.cause))
    (λ q r. let is = eqb-true a.at b.at q in let lt = ltb-true (number_of a.cause) (number_of b.cause) r in omega (arith, is, lt))))
    (λ h. let lt = ltb-true (key a) (key b) h in back (nat_lt a.at b.at) (a.at == b.at) (nat_lt (number_of a.cause) (number_of b.cause))
    (λ p. let le = ltb-false a.at b.at p in eq-eqb a.at b.at (omega (arith, le, lt, at_most a.cause, at_most b.cause)))
    (λ p. let le = ltb-false a.at b.at p in lt-ltb (number_of a.cause) (number_of b.cause) (omega (arith, le, lt, at_most a.cause, at_most b.cause))))

abbrev pick : Refusal → Refusal → Refusal
pick found r = if nat_lt (key r) (key found) then r else found

pick_by : (x r : Refusal) (b : Bool) → nat_lt (key r) (key x) ≡ b → key (if b then r else x) ≡ min (key r) (key x)
pick_by x r true is = let lt = ltb-true (key r) (key x) is in omega (arith, lt)
pick_by x r false is = let le = ltb-false (key r) (key x) is in omega (arith, le)

key_pick : (x r : Refusal) → key (pick x r) ≡ min (key r) (key x)
key_pick x r = pick_by x r (nat_lt (key r) (key x)) refl

some_if : (x r : Refusal) (b : Bool) → (if b then Some r else Some x) ≡ Some (if b then r else x)
some_if x r true = refl
some_if x r false = refl

first_pick : (x r : Refusal) → first_of (Some x) r ≡ Some (pick x r)
first_pick x r = ap (λ (b : Bool). if b then Some r else Some x) (precedes_key r x) ∙ some_if x r (nat_lt (key r) (key x))

first_swap : (f : Option Refusal) (a b : Refusal) → first_of (first_of f a) b ≡ first_of (first_of f b) a
first_swap None a b = first_pick a b ∙ ap (λ (r : Refusal). Some r) (same_key (pick a b) (pick b a) (omega (arith, key_pick a b, key_pick b a))) ∙ sym (first_pick b a)
first_swap (Some x) a b =
    ap (λ (f : Option Refusal). first_of f b) (first_pick x a) ∙ first_pick (pick x a) b
    ∙ ap (λ (r : Refusal). Some r) (same_key (pick (pick x a) b) (pick (pick x b) a) (omega (arith, key_pick (pick x a) b, key_pick x a, key_pick (pick x b) a, key_pick x b)))
    ∙ sym (ap (λ (f : Option Refusal). first_of f a) (first_pick x b) ∙ first_pick (pick x b) a)

first_past : (f : Option Refusal) (r : Refusal) (xs : List Refusal) → first_in (first_of f r) xs ≡ first_of (first_in f xs) r
first_past f r [] = refl
first_past f r (x ∷ xs) = ap (λ (g : Option Refusal). first_in g xs) (first_swap f r x) ∙ first_past (first_of f x) r xs

pub lists_past : (f : Option Refusal) (xs ys : List Refusal) → first_in (first_in f ys) xs ≡ first_in (first_in f xs) ys
lists_past f xs [] = refl
lists_past f xs (y ∷ ys) = lists_past (first_of f y) xs ys ∙ ap (λ (g : Option Refusal). first_in g ys) (first_past f y xs)
