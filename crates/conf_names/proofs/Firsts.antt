-- The first of several lists of refusals.
use Rattle.std.proofs.Common.{◌≡◌, Bool, true, false, ◌&&◌, ◌||◌, ◌==◌, ℕ, zero, suc, arith, ◌+◌, ◌*◌, ◌<◌, ◌≤◌, min, nat_lt, All, Contains, length, get_or, subst, if◌then◌else◌, List, [], ◌∷◌, ◌++◌, Option, Some, None, option_map, refl, ap, ◌∙◌, sym, true≢false}
use Rattle.std.proofs.lemmas.Bool.{eq-eqb, eqb-true, ltb-true, ltb-false, lt-ltb}
use Rattle.conf_ast.specs.declared.kind.ConfKind.{ConfKind}
use Rattle.conf_ast.specs.declared.kind.ConfKind.TheVariants as kinds
use Rattle.filt_types.specs.declared.refusal.Cause.{Cause}
use Rattle.filt_types.specs.declared.refusal.Cause.TheVariants as causes
use Rattle.filt_types.specs.declared.refusal.Refusal.{Refusal as FilterRefusal}
use Rattle.filt_types.specs.Refusals as filters
use Rattle.filt_types.proofs.Lookups.{same_truth}
use Rattle.conf_names.specs.declared.refusal.Refusal.{Refusal}
use Rattle.conf_names.specs.Refusals.{first_in, first_of, precedes, number_of, kind_of, of_filter, of_filters}

pub first_append : (found : Option Refusal) (xs ys : List Refusal) → first_in found (xs ++ ys) ≡ first_in (first_in found xs) ys
first_append found [] ys = refl
first_append found (x ∷ xs) ys = first_append (first_of found x) xs ys

-- one list after another
pub first_two : (xs ys : List Refusal) (f g h : Option Refusal) → g ≡ first_in f xs → h ≡ first_in g ys → h ≡ first_in f (xs ++ ys)
first_two xs ys f g h p q = q ∙ ap (λ (x : Option Refusal). first_in x ys) p ∙ sym (first_append f xs ys)

-- the first of two lists is taken
pub first_rest : (xs ys : List Refusal) (f g : Option Refusal) → g ≡ first_in f xs → first_in f (xs ++ ys) ≡ first_in g ys
first_rest xs ys f g p = first_append f xs ys ∙ ap (λ (x : Option Refusal). first_in x ys) (sym p)

-- ---- the order in which refusals are found doesn't matter

-- a refusal as a number: by place, at one place by the number of its kind
abbrev key : Refusal → ℕ
key r = 16 * r.at + number_of r.kind

at_most : (k : ConfKind) → number_of k ≤ 15
at_most kinds.Lex = omega arith
at_most kinds.Syntax = omega arith
at_most kinds.TooDeep = omega arith
at_most kinds.UnknownName = omega arith
at_most kinds.DuplicateName = omega arith
at_most kinds.TypeMismatch = omega arith
at_most kinds.NotAssignable = omega arith
at_most kinds.TooHeavy = omega arith
at_most kinds.Nettype = omega arith
at_most kinds.PolicyMissing = omega arith
at_most kinds.MedRule = omega arith
at_most kinds.PipeCycle = omega arith
at_most kinds.DuplicateStatic = omega arith
at_most kinds.Limit = omega arith
at_most kinds.Unsupported = omega arith

abbrev kind_from : ℕ → ConfKind
kind_from n =
    if n == 1 then kinds.Lex else if n == 2 then kinds.Syntax else if n == 3 then kinds.TooDeep
    else if n == 4 then kinds.UnknownName else if n == 5 then kinds.DuplicateName
    else if n == 6 then kinds.TypeMismatch else if n == 7 then kinds.NotAssignable
    else if n == 8 then kinds.TooHeavy else if n == 9 then kinds.Nettype
    else if n == 10 then kinds.PolicyMissing else if n == 11 then kinds.MedRule
    else if n == 12 then kinds.PipeCycle else if n == 13 then kinds.DuplicateStatic
    else if n == 14 then kinds.Limit
    else kinds.Unsupported

kind_back : (k : ConfKind) → kind_from (number_of k) ≡ k
kind_back kinds.Lex = refl
kind_back kinds.Syntax = refl
kind_back kinds.TooDeep = refl
kind_back kinds.UnknownName = refl
kind_back kinds.DuplicateName = refl
kind_back kinds.TypeMismatch = refl
kind_back kinds.NotAssignable = refl
kind_back kinds.TooHeavy = refl
kind_back kinds.Nettype = refl
kind_back kinds.PolicyMissing = refl
kind_back kinds.MedRule = refl
kind_back kinds.PipeCycle = refl
kind_back kinds.DuplicateStatic = refl
kind_back kinds.Limit = refl
kind_back kinds.Unsupported = refl

abbrev pub refusal : ℕ → ConfKind → Refusal
refusal at kind = record { at = at; kind = kind }

same_key : (a b : Refusal) → key a ≡ key b → a ≡ b
same_key a b same =
    let places : a.at ≡ b.at = omega (arith, same, at_most a.kind, at_most b.kind) in
    let numbers : number_of a.kind ≡ number_of b.kind = omega (arith, same, places) in
    ap (λ (n : ℕ). refusal n a.kind) places ∙ ap (λ (k : ConfKind). refusal b.at k) (sym (kind_back a.kind) ∙ ap kind_from numbers ∙ kind_back b.kind)

forth : (p q r : Bool) → (p || (q && r)) ≡ true → (P : Type 0) → (p ≡ true → P) → (q ≡ true → r ≡ true → P) → P
forth true q r h P first second = first refl
forth false true true h P first second = second refl refl
forth false true false h P first second = absurd (true≢false (sym h))
forth false false r h P first second = absurd (true≢false (sym h))

back : (p q r : Bool) → (p ≡ false → q ≡ true) → (p ≡ false → r ≡ true) → (p || (q && r)) ≡ true
back true q r f g = refl
back false q r f g = rw (f refl, g refl) refl

precedes_key : (a b : Refusal) → precedes a b ≡ nat_lt (key a) (key b)
precedes_key a b = same_truth (precedes a b) (nat_lt (key a) (key b))
    (λ h. lt-ltb (key a) (key b) (forth (nat_lt a.at b.at) (a.at == b.at) (nat_lt (number_of a.kind) (number_of b.kind)) h (key a < key b)
    (λ p. let lt = ltb-true a.at b.at p in omega (arith, lt, at_most a.kind, at_most b.kind))
    (λ q r. let is = eqb-true a.at b.at q in let lt = ltb-true (number_of a.kind) (number_of b.kind) r in omega (arith, is, lt))))
    (λ h. let lt = ltb-true (key a) (key b) h in back (nat_lt a.at b.at) (a.at == b.at) (nat_lt (number_of a.kind) (number_of b.kind))
    (λ p. let le = ltb-false a.at b.at p in eq-eqb a.at b.at (omega (arith, le, lt, at_most a.kind, at_most b.kind)))
    (λ p. let le = ltb-false a.at b.at p in lt-ltb (number_of a.kind) (number_of b.kind) (omega (arith, le, lt, at_most a.kind, at_most b.kind))))

-- the earlier of two, the one found before where neither is
abbrev pick : Refusal → Refusal → Refusal
pick found r = if nat_lt (key r) (key found) then r else found

pick_by : (x r : Refusal) (b : Bool) → nat_lt (key r) (key x) ≡ b → key (if b then r else x) ≡ min (key r) (key x)
pick_by x r true is = let lt = ltb-true (key r) (key x) is in omega (arith, lt)
pick_by x r false is = let le = ltb-false (key r) (key x) is in omega (arith, le)

key_pick : (x r : Refusal) → key (pick x r) ≡ min (key r) (key x)
key_pick x r = pick_by x r (nat_lt (key r) (key x)) refl

some_if : (x r : Refusal) (b : Bool) → (if b then Some r else Some x) ≡ Some (if b then r else x)
some_if x r true = refl
some_if x r false = refl

first_pick : (x r : Refusal) → first_of (Some x) r ≡ Some (pick x r)
first_pick x r = ap (λ (b : Bool). if b then Some r else Some x) (precedes_key r x) ∙ some_if x r (nat_lt (key r) (key x))

first_swap : (f : Option Refusal) (a b : Refusal) → first_of (first_of f a) b ≡ first_of (first_of f b) a
first_swap None a b = first_pick a b ∙ ap (λ (r : Refusal). Some r) (same_key (pick a b) (pick b a) (omega (arith, key_pick a b, key_pick b a))) ∙ sym (first_pick b a)
first_swap (Some x) a b =
    ap (λ (f : Option Refusal). first_of f b) (first_pick x a) ∙ first_pick (pick x a) b
    ∙ ap (λ (r : Refusal). Some r) (same_key (pick (pick x a) b) (pick (pick x b) a) (omega (arith, key_pick (pick x a) b, key_pick x a, key_pick (pick x b) a, key_pick x b)))
    ∙ sym (ap (λ (f : Option Refusal). first_of f a) (first_pick x b) ∙ first_pick (pick x b) a)

first_past : (f : Option Refusal) (r : Refusal) (xs : List Refusal) → first_in (first_of f r) xs ≡ first_of (first_in f xs) r
first_past f r [] = refl
first_past f r (x ∷ xs) = ap (λ (g : Option Refusal). first_in g xs) (first_swap f r x) ∙ first_past (first_of f x) r xs

pub lists_past : (f : Option Refusal) (xs ys : List Refusal) → first_in (first_in f ys) xs ≡ first_in (first_in f xs) ys
lists_past f xs [] = refl
lists_past f xs (y ∷ ys) = lists_past (first_of f y) xs ys ∙ ap (λ (g : Option Refusal). first_in g ys) (first_past f y xs)

-- ---- the first of a list that was found alone

abbrev with_first : Option Refusal → Option Refusal → Option Refusal
with_first found None = found
with_first found (Some r) = first_of found r

alone : (found : Option Refusal) → with_first None found ≡ found
alone None = refl
alone (Some r) = refl

joined_later : (f : Option Refusal) (a b : Refusal) → first_of (first_of f a) b ≡ with_first f (first_of (Some a) b)
joined_later None a b = sym (alone (first_of (Some a) b))
joined_later (Some x) a b =
    ap (λ (f : Option Refusal). first_of f b) (first_pick x a) ∙ first_pick (pick x a) b
    ∙ ap (λ (r : Refusal). Some r) (same_key (pick (pick x a) b) (pick x (pick a b)) (omega (arith, key_pick (pick x a) b, key_pick x a, key_pick x (pick a b), key_pick a b)))
    ∙ sym (ap (λ (f : Option Refusal). with_first (Some x) f) (first_pick a b) ∙ first_pick x (pick a b))

first_with : (f : Option Refusal) (a : Refusal) (found : Option Refusal) → with_first (first_of f a) found ≡ with_first f (with_first (Some a) found)
first_with f a None = refl
first_with f a (Some b) = joined_later f a b

first_alone : (f : Option Refusal) (xs : List Refusal) → first_in f xs ≡ with_first f (first_in None xs)
first_alone f [] = refl
first_alone f (x ∷ xs) =
    first_alone (first_of f x) xs ∙ first_with f x (first_in None xs)
    ∙ ap (λ (g : Option Refusal). with_first f g) (sym (first_alone (Some x) xs))

-- ---- refusals of filters

same_number : (c : Cause) → number_of (kind_of c) ≡ filters.number_of c
same_number causes.UnknownName = refl
same_number causes.DuplicateName = refl
same_number causes.Mismatch = refl
same_number causes.NotAssignable = refl
same_number causes.TooHeavy = refl
same_number causes.Limit = refl

same_order : (a b : FilterRefusal) → precedes (of_filter a) (of_filter b) ≡ filters.precedes a b
same_order a b = rw (same_number a.cause, same_number b.cause) refl

kept_if : (b : Bool) (x r : FilterRefusal) → option_map of_filter (if b then Some r else Some x) ≡ (if b then Some (of_filter r) else Some (of_filter x))
kept_if true x r = refl
kept_if false x r = refl

of_first_of : (f : Option FilterRefusal) (r : FilterRefusal) → option_map of_filter (filters.first_of f r) ≡ first_of (option_map of_filter f) (of_filter r)
of_first_of None r = refl
of_first_of (Some x) r = kept_if (filters.precedes r x) x r ∙ ap (λ (b : Bool). if b then Some (of_filter r) else Some (of_filter x)) (sym (same_order r x))

of_first_in : (f : Option FilterRefusal) (rs : List FilterRefusal) → option_map of_filter (filters.first_in f rs) ≡ first_in (option_map of_filter f) (of_filters rs)
of_first_in f [] = refl
of_first_in f (r ∷ rs) = of_first_in (filters.first_of f r) rs ∙ ap (λ (g : Option Refusal). first_in g (of_filters rs)) (of_first_of f r)

-- what is found first in a filter is joined to what was found before
pub found_in : (f : Option Refusal) (found : Option FilterRefusal) (rs : List FilterRefusal) → found ≡ filters.first_in None rs → first_in f (of_filters rs) ≡ with_first f (option_map of_filter found)
found_in f found rs is =
    first_alone f (of_filters rs) ∙ ap (λ (g : Option Refusal). with_first f g) (sym (of_first_in None rs) ∙ ap (λ (o : Option FilterRefusal). option_map of_filter o) (sym is))

pub found_some : (f g : Option Refusal) (r : FilterRefusal) (rs : List FilterRefusal) → Some r ≡ filters.first_in None rs → g ≡ first_of f (of_filter r) → g ≡ first_in f (of_filters rs)
found_some f g r rs is new = new ∙ sym (found_in f (Some r) rs is)

pub found_none : (f : Option Refusal) (rs : List FilterRefusal) → None ≡ filters.first_in None rs → f ≡ first_in f (of_filters rs)
found_none f rs is = sym (found_in f None rs is)

-- ---- what the first one is

pub either_order : (f : Option Refusal) (xs ys : List Refusal) → first_in f (xs ++ ys) ≡ first_in f (ys ++ xs)
either_order f xs ys = first_append f xs ys ∙ sym (lists_past f xs ys) ∙ sym (first_append f ys xs)

-- the least of these, the first of it where there are several
abbrev least : Refusal → List Refusal → Refusal
least r [] = r
least r (x ∷ xs) = least (pick r x) xs

least_is : (r : Refusal) (xs : List Refusal) → first_in (Some r) xs ≡ Some (least r xs)
least_is r [] = refl
least_is r (x ∷ xs) = ap (λ (f : Option Refusal). first_in f xs) (first_pick r x) ∙ least_is (pick r x) xs

some_none : (r : Refusal) → Some r ≡ None → ⊥
some_none r e = cc

inside : (a b : Refusal) → Some a ≡ Some b → a ≡ b
inside a b e = cc

pub none_found : (rs : List Refusal) → first_in None rs ≡ None → rs ≡ []
none_found [] none = refl
none_found (r ∷ rs) none = absurd (some_none (least r rs) (sym (least_is r rs) ∙ none))

-- one of two, or one of the others
among_step : (r x p m : Refusal) (xs : List Refusal) (t : Bool) → p ≡ (if t then x else r) → (k : ℕ) → k < length (p ∷ xs) → get_or (p ∷ xs) k m ≡ m → Contains (r ∷ x ∷ xs) m
among_step r x p m xs true e zero lt is = (1, omega arith, sym e ∙ is)
among_step r x p m xs false e zero lt is = (0, omega arith, sym e ∙ is)
among_step r x p m xs true e (suc k) lt is = (suc (suc k), omega (arith, lt), is)
among_step r x p m xs false e (suc k) lt is = (suc (suc k), omega (arith, lt), is)

least_among : (r : Refusal) (xs : List Refusal) → Contains (r ∷ xs) (least r xs)
least_among r [] = (0, omega arith, refl)
least_among r (x ∷ xs) = let among = least_among (pick r x) xs in among_step r x (pick r x) (least (pick r x) xs) xs (nat_lt (key x) (key r)) refl among.0 among.1 among.2

pub found_among : (rs : List Refusal) (r : Refusal) → first_in None rs ≡ Some r → Contains rs r
found_among [] r found = absurd (some_none r (sym found))
found_among (x ∷ rs) r found = subst (λ (m : Refusal). Contains (x ∷ rs) m) (inside (least x rs) r (sym (least_is x rs) ∙ found)) (least_among x rs)

least_le : (r : Refusal) (xs : List Refusal) → key (least r xs) ≤ key r
least_le r [] = omega arith
least_le r (x ∷ xs) = omega (arith, least_le (pick r x) xs, key_pick r x)

least_each : (r : Refusal) (xs : List Refusal) (k : ℕ) (d : Refusal) → k < length xs → key (least r xs) ≤ key (get_or xs k d)
least_each r [] k d lt = absurd (omega (arith, lt))
least_each r (x ∷ xs) zero d lt = omega (arith, least_le (pick r x) xs, key_pick r x)
least_each r (x ∷ xs) (suc k) d lt = least_each (pick r x) xs k d (omega (arith, lt))

not_before : (s m : Refusal) → key m ≤ key s → precedes s m ≡ false
not_before s m le = precedes_key s m ∙ by_test (nat_lt (key s) (key m)) refl
  where
    by_test : (b : Bool) → nat_lt (key s) (key m) ≡ b → b ≡ false
    by_test true lt = absurd (omega (arith, le, ltb-true (key s) (key m) lt))
    by_test false lt = refl

each_later : (x : Refusal) (rs : List Refusal) (k : ℕ) (d : Refusal) → k < length (x ∷ rs) → precedes (get_or (x ∷ rs) k d) (least x rs) ≡ false
each_later x rs zero d lt = not_before x (least x rs) (least_le x rs)
each_later x rs (suc k) d lt = not_before (get_or rs k d) (least x rs) (least_each x rs k d (omega (arith, lt)))

pub found_before : (rs : List Refusal) (r : Refusal) → first_in None rs ≡ Some r → All (λ (other : Refusal). precedes other r ≡ false) rs
found_before [] r found k d lt = absurd (omega (arith, lt))
found_before (x ∷ rs) r found k d lt = ap (λ (m : Refusal). precedes (get_or (x ∷ rs) k d) m) (inside r (least x rs) (sym found ∙ least_is x rs)) ∙ each_later x rs k d lt

le_each : (x : Refusal) (rs : List Refusal) (k : ℕ) (d : Refusal) → k < length (x ∷ rs) → key (least x rs) ≤ key (get_or (x ∷ rs) k d)
le_each x rs zero d lt = least_le x rs
le_each x rs (suc k) d lt = least_each x rs k d (omega (arith, lt))

pub found_only : (rs : List Refusal) (r : Refusal) → Contains rs r → All (λ (other : Refusal). precedes other r ≡ false) rs → first_in None rs ≡ Some r
found_only [] r among before = absurd (omega (arith, among.1))
found_only (x ∷ rs) r among before =
    let at = least_among x rs in
    let later = sym (precedes_key (least x rs) r) ∙ ap (λ (m : Refusal). precedes m r) (sym at.2) ∙ before at.0 (least x rs) at.1 in
    let le = ltb-false (key (least x rs)) (key r) later in
    let back = le_each x rs among.0 r among.1 in
    let same = ap key among.2 in
    least_is x rs ∙ ap (λ (m : Refusal). Some m) (same_key (least x rs) r (omega (arith, le, back, same)))
