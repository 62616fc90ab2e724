-- Frames in one list.
use Rattle.std.proofs.Common.{◌≡◌, ℕ, Bool, true, false, Result, Ok, length-append, subst, suc, zero, ◌+◌, ◌-◌, ◌<◌, ◌≤◌, min, List, [], ◌∷◌, ◌++◌, length, map, take, drop, reverse, Some, refl, sym, ap, ◌∙◌, arith}
use Rattle.std.proofs.lemmas.List.{map-append, length-map, take-map, drop-map, length-drop, length-take-le, take-append-le, drop-append-le, drop-take, take-take, reverse-append, length-reverse, append-nil, drop_all, take_rest, with_items_is}
use Rattle.std.specs.Global.{Global}
use Rattle.std.specs.Vec.{with_items}
use Rattle.std.specs.Prelude.{slice_get, slice_set, Vec}
use Rattle.filt_meaning.specs.declared.value.Value.{Value}
use Rattle.filt_meaning.specs.Seen.{val_of}
use Rattle.filt_meaning.specs.Values.{Val, VBool}
use Rattle.attrs.specs.declared.attributes.Attrs.{Attrs}
use Rattle.conf_ast.specs.declared.filters.LogicalOp.{LogicalOp}
use Rattle.filt_code.specs.Codes.{At, behind_left, decides, with_one}
use Rattle.filt_meaning.specs.Flow.{Frame, and_then, plainly}
use Rattle.filt_meaning.specs.Operators.{bool_in}
use Rattle.filt_meaning.specs.declared.value.Failure.{Failure}
use Rattle.filt_route.specs.Seen.{IsApplicable}
use Rattle.filt_vm.specs.Seen.{AreStacked, Held, first_of, held_in, rest_of, top_first, TakesTop, vals_of}

-- ---- values in memory

pub below : (v : List Value) (base : ℕ) (begins : List ℕ) → AreStacked (length v) (base ∷ begins) → base ≤ length (map val_of v)
below v base begins stacked = omega (arith, stacked.0, length-map v val_of)

pub last_first : (xs ys : List ℕ) (b : ℕ) → xs ≡ ys ++ b ∷ [] → reverse xs ≡ b ∷ reverse ys
last_first xs ys b is = rw is (reverse-append ys (b ∷ []))

pub room : (held : Held) (vals : List Val) (base count : ℕ) (begins : List ℕ) → held_in vals base begins ≡ held → count < length held.here → base + count ≤ length vals
room held vals base count begins is lt =
    let e : length (drop base vals) ≡ length held.here = ap (λ (h : Held). length h.here) is in
    omega (arith, lt, e, length-drop base vals)

-- ---- frames

frame : {A : Type 0} (n : ℕ) (xs ys : List A) → n ≤ length xs → (drop n (xs ++ ys) ≡ drop n xs ++ ys) × (take n (xs ++ ys) ≡ take n xs)
frame n xs ys le = (drop-append-le n xs ys le, take-append-le n xs ys le)

-- one value more behind the others
pub pushed : (xs new : List Val) (v : Val) (base : ℕ) (begins : List ℕ) → base ≤ length xs → new ≡ xs ++ v ∷ [] → held_in new base begins ≡ record { here = (held_in xs base begins).here ++ v ∷ []; under = (held_in xs base begins).under }
pushed xs new v base begins le is =
    rw (is, (frame base xs (v ∷ []) le).0, (frame base xs (v ∷ []) le).1) refl

at_end : {A : Type 0} (n : ℕ) (xs ys : List A) → n ≤ length xs → (drop n (take n xs ++ ys) ≡ ys) × (take n (take n xs ++ ys) ≡ take n xs)
at_end zero xs ys le = (refl, refl)
at_end (suc n) [] ys le = absurd (omega arith)
at_end (suc n) (x ∷ xs) ys le = let h = at_end n xs ys (omega arith) in (h.0, ap (λ (zs : List _). x ∷ zs) h.1)

-- those of the last frame the other way round
pub turned : (xs new : List Val) (base : ℕ) (begins : List ℕ) → base ≤ length xs → new ≡ take base xs ++ reverse (drop base xs) → held_in new base begins ≡ record { here = reverse (held_in xs base begins).here; under = (held_in xs base begins).under }
turned xs new base begins le is =
    rw (is, (at_end base xs (reverse (drop base xs)) le).0, (at_end base xs (reverse (drop base xs)) le).1) refl

map_turned : (xs : List Value) → map val_of (reverse xs) ≡ reverse (map val_of xs)
map_turned [] = refl
map_turned (x ∷ xs) =
    ap (λ (ys : List Value). map val_of ys) (reverse-append (x ∷ []) xs)
    ∙ map-append val_of (reverse xs) (x ∷ [])
    ∙ ap (λ (ys : List Val). ys ++ val_of x ∷ []) (map_turned xs)
    ∙ sym (reverse-append (val_of x ∷ []) (map val_of xs))

turned_values : (xs : List Value) (base : ℕ) → map val_of (take base xs ++ reverse (drop base xs)) ≡ take base (map val_of xs) ++ reverse (drop base (map val_of xs))
turned_values xs base =
    map-append val_of (take base xs) (reverse (drop base xs))
    ∙ rw (map_turned (drop base xs), take-map val_of base xs, drop-map val_of base xs) refl

-- the same, as a part of the list that was written back
pub turned_back : (v : Vec Value Global) (xs part : List Value) (base : ℕ) (begins : List ℕ) → AreStacked (length v.items) (base ∷ begins) → xs ≡ v.items → v.len ≡ length v.items → part ≡ reverse (take (length xs - base) (drop base xs)) → held_in (vals_of (with_items v (take base xs ++ (part ++ drop (length xs - base) (drop base xs))))) base begins ≡ record { here = reverse (held_in (vals_of v) base begins).here; under = (held_in (vals_of v) base begins).under }
turned_back v xs part base begins stacked is len same =
    let room : base ≤ length v.items = stacked.0 in
    let le : base ≤ length xs = omega (arith, room, ap (λ (ys : List Value). length ys) is) in
    let whole : take base xs ++ (part ++ drop (length xs - base) (drop base xs)) ≡ take base xs ++ reverse (drop base xs) =
    rw (same, take_rest xs base, drop_all (length xs - base) (drop base xs) (omega (arith, length-drop base xs)), append-nil (reverse (drop base xs))) refl in
    let long : length (take base xs ++ (part ++ drop (length xs - base) (drop base xs))) ≡ v.len =
    ap (λ (ys : List Value). length ys) whole ∙ omega (arith, le, len, ap (λ (ys : List Value). length ys) is, length-append (take base xs) (reverse (drop base xs)), length-take-le base xs le, length-reverse (drop base xs), length-drop base xs) in
    turned (vals_of v) (vals_of (with_items v (take base xs ++ (part ++ drop (length xs - base) (drop base xs))))) base begins (below v.items base begins stacked)
    (ap (λ (ys : List Value). map val_of ys) (with_items_is v (take base xs ++ (part ++ drop (length xs - base) (drop base xs))) long ∙ whole)
    ∙ turned_values xs base
    ∙ ap (λ (ys : List Value). take base (map val_of ys) ++ reverse (drop base (map val_of ys))) is)

-- the first so many of the last frame
shorter : {A : Type 0} (n k : ℕ) (xs : List A) → n + k ≤ length xs → (drop n (take (n + k) xs) ≡ take k (drop n xs)) × (take n (take (n + k) xs) ≡ take n xs)
shorter n k xs le = (drop-take n k xs, take-take n (n + k) xs (omega arith))

pub truncated : (xs new : List Val) (base count : ℕ) (begins : List ℕ) → base + count ≤ length xs → new ≡ take (base + count) xs → held_in new base begins ≡ record { here = take count (held_in xs base begins).here; under = (held_in xs base begins).under }
truncated xs new base count begins le is =
    rw (is, (shorter base count xs le).0, (shorter base count xs le).1) refl

all : {A : Type 0} (n : ℕ) (xs : List A) → length xs ≤ n → take n xs ≡ xs
all zero [] le = refl
all zero (x ∷ xs) le = absurd (omega arith)
all (suc n) [] le = refl
all (suc n) (x ∷ xs) le = ap (λ (ys : List _). x ∷ ys) (all n xs (omega arith))

pub kept : (held : Held) (count : ℕ) → length held.here ≤ count → held ≡ record { here = take count held.here; under = held.under }
kept held count le = rw (all count held.here le) refl

none : {A : Type 0} (n : ℕ) (xs : List A) → n ≡ length xs → (drop n xs ≡ []) × (take n xs ≡ xs)
none zero [] is = (refl, refl)
none zero (x ∷ xs) is = absurd (omega (arith, is))
none (suc n) [] is = absurd (omega (arith, is))
none (suc n) (x ∷ xs) is = let h = none n xs (omega (arith, is)) in (h.0, ap (λ (ys : List _). x ∷ ys) h.1)

pub cleared : (xs new : List Val) (base : ℕ) (begins : List ℕ) → base ≤ length xs → new ≡ take base xs → held_in new base begins ≡ record { here = []; under = (held_in xs base begins).under }
cleared xs new base begins le is =
    let n = none base (take base xs) (sym (length-take-le base xs le)) in rw (is, n.0, n.1) refl

pub entered : (xs : List Val) (base end : ℕ) (begins now : List ℕ) → end ≡ length xs → now ≡ base ∷ begins → held_in xs end now ≡ record { here = []; under = (held_in xs base begins).here ∷ (held_in xs base begins).under }
entered xs base end begins now is more =
    let n = none end xs is in rw (more, n.0, n.1) refl

pub left : (xs new : List Val) (base b : ℕ) (begins more : List ℕ) → new ≡ take base xs → begins ≡ b ∷ more → held_in new b more ≡ record { here = first_of (held_in xs base begins).under; under = rest_of (held_in xs base begins).under }
left xs new base b begins more is front = rw (is, front) refl

pub left_all : (xs new : List Val) (base b : ℕ) (begins more : List ℕ) → new ≡ [] → begins ≡ [] → more ≡ [] → held_in new b more ≡ record { here = first_of (held_in xs base begins).under; under = rest_of (held_in xs base begins).under }
left_all xs new base zero begins more is none also = rw (is, none, also) refl
left_all xs new base (suc b) begins more is none also = rw (is, none, also) refl

-- a value by its place
put : {A : Type 0} (n p : ℕ) (xs : List A) (x : A) → (drop n (slice_set xs (n + p) x) ≡ slice_set (drop n xs) p x) × (take n (slice_set xs (n + p) x) ≡ take n xs)
put zero p xs x = let e : 0 + p ≡ p = omega arith in rw e (refl, refl)
put (suc n) zero [] x = (refl, refl)
put (suc n) (suc p) [] x = (refl, refl)
put (suc n) p (y ∷ xs) x =
    let h = put n p xs x in
    let e : suc n + p ≡ suc (n + p) = omega arith in
    rw e (h.0, ap (λ (ys : List _). y ∷ ys) h.1)

pub set : (xs new : List Val) (base p : ℕ) (v : Val) (begins : List ℕ) → new ≡ slice_set xs (base + p) v → held_in new base begins ≡ record { here = slice_set (held_in xs base begins).here p v; under = (held_in xs base begins).under }
set xs new base p v begins is = let h = put base p xs v in rw (is, h.0, h.1) refl

-- ---- arguments

one_more : {A : Type 0} (n : ℕ) (xs rest : List A) (v : A) → drop n xs ≡ v ∷ rest → (drop (n + 1) xs ≡ rest) × (take (n + 1) xs ≡ take n xs ++ v ∷ [])
one_more n [] rest v is = absurd (nothing n is)
  where
    nothing : (n : ℕ) → drop n [] ≡ v ∷ rest → ⊥
    nothing zero is = cc
    nothing (suc n) is = cc
one_more zero (x ∷ xs) rest v is = let p : x ≡ v = cc in let q : xs ≡ rest = cc in (q, rw p refl)
one_more (suc n) (x ∷ xs) rest v is =
    let h = one_more n xs rest v is in
    let e : suc n + 1 ≡ suc (n + 1) = omega arith in
    rw e (h.0, ap (λ (ys : List _). x ∷ ys) h.1)

-- one more is handed
pub handed : (all os mid : Held) (vars new : Held) (under : List (List Val)) (v : Val) (n : ℕ) → os ≡ record { here = drop n all.here; under = all.under } → vars ≡ record { here = take n all.here; under = under } → os ≡ record { here = v ∷ mid.here; under = mid.under } → new ≡ record { here = vars.here ++ v ∷ []; under = vars.under } → (mid ≡ record { here = drop (n + 1) all.here; under = all.under }) × (new ≡ record { here = take (n + 1) all.here; under = under })
handed all os mid vars new under v n left taken pops puts =
    let here : drop n all.here ≡ v ∷ mid.here = ap (λ (h : Held). h.here) (sym left ∙ pops) in
    let same : all.under ≡ mid.under = ap (λ (h : Held). h.under) (sym left ∙ pops) in
    let h = one_more n all.here mid.here v here in (
      rw (h.0, same) refl,
      rw (puts, taken, h.1) refl,
    )

pub some_left : (all os : Held) (n few : ℕ) → os ≡ record { here = drop n all.here; under = all.under } → n < few → few ≤ length all.here → 0 < length os.here
some_left all os n few left lt le = rw left (omega (arith, lt, le, length-drop n all.here))

-- all of them are handed, or so many
of_none : {A : Type 0} (n : ℕ) (xs : List A) → xs ≡ [] → (take n xs ≡ xs) × (drop n xs ≡ xs)
of_none zero [] is = (refl, refl)
of_none zero (x ∷ xs) is = absurd (cc)
of_none (suc n) [] is = (refl, refl)
of_none (suc n) (x ∷ xs) is = absurd (cc)

cases : {A : Type 0} (n few : ℕ) (xs : List A) → few ≡ min n (length xs) → (take few xs ≡ take n xs) × (drop few xs ≡ drop n xs)
cases n few [] is =
    let a = of_none few [] refl in
    let b = of_none n [] refl in
    (a.0 ∙ sym b.0, a.1 ∙ sym b.1)
cases zero zero (x ∷ xs) is = (refl, refl)
cases zero (suc few) (x ∷ xs) is = absurd (omega (arith, is))
cases (suc n) zero (x ∷ xs) is = absurd (omega (arith, is))
cases (suc n) (suc few) (x ∷ xs) is = let h = cases n few xs (omega (arith, is)) in (ap (λ (ys : List _). x ∷ ys) h.0, h.1)

pub all_taken : (all vars new : Held) (under : List (List Val)) (n few k : ℕ) → vars ≡ record { here = take k all.here; under = under } → new ≡ record { here = reverse vars.here; under = vars.under } → k ≡ few → few ≡ min n (length all.here) → new ≡ record { here = reverse (take n all.here); under = under }
all_taken all vars new under n few k taken turns end is = rw (turns, taken, end, (cases n few all.here is).0) refl

pub all_left : (all os : Held) (n few k : ℕ) → os ≡ record { here = drop k all.here; under = all.under } → k ≡ few → few ≡ min n (length all.here) → os ≡ record { here = drop n all.here; under = all.under }
all_left all os n few k left end is = rw (left, end, (cases n few all.here is).1) refl

pub handed_to : (vals mid new : Held) (arguments : List Val) → mid ≡ record { here = []; under = vals.here ∷ vals.under } → new ≡ record { here = arguments; under = mid.under } → new ≡ record { here = arguments; under = vals.here ∷ vals.under }
handed_to vals mid new arguments enters hands = rw (hands, enters) refl

-- ---- the last value

ends : {A : Type 0} (xs : List A) (v : A) → slice_get xs (length xs - 1) ≡ Some v → (front : List A) × (xs ≡ front ++ v ∷ [])
ends [] v is = absurd (cc)
ends (x ∷ []) v is = let p : x ≡ v = cc in ([], rw p refl)
ends (x ∷ y ∷ more) v is =
    let e : length (x ∷ y ∷ more) - 1 ≡ suc (length (y ∷ more) - 1) = omega arith in
    let there : slice_get (y ∷ more) (length (y ∷ more) - 1) ≡ Some v = ap (slice_get (x ∷ y ∷ more)) (sym e) ∙ is in
    let h = ends (y ∷ more) v there in
    (x ∷ h.0, ap (λ (ys : List _). x ∷ ys) h.1)

ends_in : (xs : List Value) (v : Value) (base : ℕ) → base < length xs → (front : List Value) × (xs ≡ front ++ v ∷ []) → (front : List Val) × (drop base (map val_of xs) ≡ front ++ val_of v ∷ [])
ends_in xs v base lt p =
    let front : List Value = p.0 in
    let is : xs ≡ front ++ v ∷ [] = p.1 in
    let e : length xs ≡ length (front ++ v ∷ []) = ap (λ (ys : List Value). length ys) is in
    let le : base ≤ length (map val_of front) = omega (arith, lt, e, length-append front (v ∷ []), length-map front val_of) in
    (drop base (map val_of front), ap (λ (ys : List Value). drop base (map val_of ys)) is ∙ ap (drop base) (map-append val_of front (v ∷ [])) ∙ drop-append-le base (map val_of front) (val_of v ∷ []) le)

pub last_of : (held : Held) (xs : List Value) (v : Value) (base : ℕ) (begins : List ℕ) → held_in (map val_of xs) base begins ≡ held → 0 < length held.here → slice_get xs (length xs - 1) ≡ Some v → (front : List Val) × (held.here ≡ front ++ val_of v ∷ [])
last_of held xs v base begins is lt there =
    let e : length (drop base (map val_of xs)) ≡ length held.here = ap (λ (h : Held). length h.here) is in
    let h = ends_in xs v base (omega (arith, lt, e, length-drop base (map val_of xs), length-map xs val_of)) (ends xs v there) in
    (h.0, ap (λ (h : Held). h.here) (sym is) ∙ h.1)

is_truth : (v : Val) (b : Bool) → bool_in v ≡ Ok b → v ≡ VBool b
is_truth (VBool a) b is = let p : a ≡ b = cc in ap VBool p
is_truth _ b is = absurd (cc)

pub top_truth : (frames now : Held) (v : Val) (b : Bool) → top_first frames ≡ now → (front : List Val) × (frames.here ≡ front ++ v ∷ []) → bool_in v ≡ Ok b → (under : List Val) × (now.here ≡ VBool b ∷ under)
top_truth frames now v b is last truth =
    let front : List Val = last.0 in
    (reverse front, ap (λ (h : Held). h.here) (sym is) ∙ ap (λ (os : List Val). reverse os) last.1 ∙ reverse-append front (v ∷ []) ∙ ap (λ (v : Val). v ∷ reverse front) (is_truth v b truth))

takes_some : {A : Type 0} (f : Val → Result A Failure) (os : List Val) → TakesTop f os → 0 < length os
takes_some f [] takes = absurd takes
takes_some f (v ∷ os) takes = omega arith

pub some_under : (frames now : Held) → top_first frames ≡ now → TakesTop bool_in now.here → 0 < length frames.here
some_under frames now is takes =
    omega (arith, takes_some bool_in now.here takes, ap (λ (h : Held). length h.here) is, length-reverse frames.here)

pub takes_last : (frames now : Held) (v : Val) → top_first frames ≡ now → (front : List Val) × (frames.here ≡ front ++ v ∷ []) → TakesTop bool_in now.here → IsApplicable (bool_in v)
takes_last frames now v is last takes =
    subst (λ (os : List Val). TakesTop bool_in os) (ap (λ (h : Held). h.here) (sym is) ∙ ap (λ (os : List Val). reverse os) last.1 ∙ reverse-append last.0 (v ∷ [])) takes

-- what the top operand decides
pub decided : (os now : List Val) (b is : Bool) (n : ℕ) (rest : ℕ → At) (vals : Frame) (attrs : Attrs) (joint : LogicalOp) → (under : List Val) × (os ≡ VBool b ∷ under) → is ≡ decides joint b → is ≡ true → now ≡ os → with_one (λ v os attrs. and_then (plainly (bool_in v) attrs) (λ left attrs. behind_left (decides joint left) left n rest vals os attrs)) os attrs ≡ rest n vals now attrs
decided os now b is n rest vals attrs joint top what holds same = rw (same, top.1, sym what ∙ holds) refl

pub undecided : (os now : Held) (b is : Bool) (v : Val) (n : ℕ) (rest : ℕ → At) (vals : Frame) (attrs : Attrs) (joint : LogicalOp) → (under : List Val) × (os.here ≡ VBool b ∷ under) → is ≡ decides joint b → is ≡ false → os ≡ record { here = v ∷ now.here; under = now.under } → with_one (λ v os attrs. and_then (plainly (bool_in v) attrs) (λ left attrs. behind_left (decides joint left) left n rest vals os attrs)) os.here attrs ≡ rest 0 vals now.here attrs
undecided os now b is v n rest vals attrs joint top what fails pops =
    let e : VBool b ∷ top.0 ≡ v ∷ now.here = sym top.1 ∙ ap (λ (h : Held). h.here) pops in
    let p : top.0 ≡ now.here = cc in
    rw (top.1, p, sym what ∙ fails) refl
