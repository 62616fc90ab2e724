-- The arms of a `case`, one after another.
use Rattle.std.proofs.Common.{◌≡◌, ℕ, suc, zero, ◌+◌, ◌<◌, ◌≤◌, true, false, List, [], ◌∷◌, length, drop, Result, Ok, Err, refl, ap, arith}
use Rattle.std.proofs.Math.ListN.{get_or}
use Rattle.filt_meaning.specs.declared.value.Failure.{Failure}
use Rattle.filt_meaning.specs.Operators as operators
use Rattle.filt_meaning.specs.Values.{Val}
use Rattle.filt_meaning.specs.declared.tree.TArm.{TArm}
use Rattle.filt_meaning.specs.declared.tree.TStmt.{TStmt}
use Rattle.filt_meaning.specs.Trees.{has}
use Rattle.filt_code.specs.Codes.{arms_before, before_in, labels_of}

next_item : {A : Type 0} (xs : List A) (i : ℕ) (x : A) → i < length xs → x ≡ get_or xs i x → drop i xs ≡ x ∷ drop (i + 1) xs
next_item [] i x lt is = absurd (omega arith)
next_item (y ∷ ys) zero x lt is = rw is refl
next_item (y ∷ ys) (suc i) x lt is = let e : suc i + 1 ≡ suc (i + 1) = omega arith in rw e (next_item ys i x (omega arith) is)

nothing_left : {A : Type 0} (xs : List A) (i : ℕ) → length xs ≤ i → drop i xs ≡ []
nothing_left [] zero le = refl
nothing_left [] (suc i) le = refl
nothing_left (x ∷ xs) zero le = absurd (omega arith)
nothing_left (x ∷ xs) (suc i) le = nothing_left xs i (omega arith)

-- so many arms are passed over
abbrev pub past : ℕ → Result ℕ Failure → Result ℕ Failure
past n r = operators.and_then r (λ m. Ok (n + m))

pub at_first : (r : Result ℕ Failure) → r ≡ past 0 r
at_first (Ok m) = ap Ok (let e : m ≡ 0 + m = omega arith in e)
at_first (Err failure) = refl

next_arm : (arms : List (TArm TStmt)) (n : ℕ) (arm : TArm TStmt) (v : Val) → n < length arms → arm ≡ get_or arms n arm → arms_before (labels_of (drop n arms)) v ≡ operators.and_then (has arm.labels v) (λ is. before_in is (arms_before (labels_of (drop (n + 1) arms)) v))
next_arm arms n arm v lt is = ap (λ (xs : List (TArm TStmt)). arms_before (labels_of xs) v) (next_item arms n arm lt is)

one_more : (n : ℕ) (r : Result ℕ Failure) → past n (operators.and_then r (λ m. Ok (suc m))) ≡ past (n + 1) r
one_more n (Ok m) = ap Ok (let e : n + suc m ≡ (n + 1) + m = omega arith in e)
one_more n (Err failure) = refl

pub passed : (arms : List (TArm TStmt)) (n : ℕ) (arm : TArm TStmt) (v : Val) → n < length arms → arm ≡ get_or arms n arm → has arm.labels v ≡ Ok false → past n (arms_before (labels_of (drop n arms)) v) ≡ past (n + 1) (arms_before (labels_of (drop (n + 1) arms)) v)
passed arms n arm v lt is isnt = rw (next_arm arms n arm v lt is, isnt) (one_more n (arms_before (labels_of (drop (n + 1) arms)) v))

pub taken : (arms : List (TArm TStmt)) (n : ℕ) (arm : TArm TStmt) (v : Val) → n < length arms → arm ≡ get_or arms n arm → has arm.labels v ≡ Ok true → past n (arms_before (labels_of (drop n arms)) v) ≡ Ok n
taken arms n arm v lt is holds = rw (next_arm arms n arm v lt is, holds) (ap Ok (let e : n + 0 ≡ n = omega arith in e))

pub failed : (arms : List (TArm TStmt)) (n : ℕ) (arm : TArm TStmt) (v : Val) (failure : Failure) → n < length arms → arm ≡ get_or arms n arm → has arm.labels v ≡ Err failure → past n (arms_before (labels_of (drop n arms)) v) ≡ Err failure
failed arms n arm v failure lt is fails = rw (next_arm arms n arm v lt is, fails) refl

pub none_taken : (arms : List (TArm TStmt)) (n : ℕ) (v : Val) → length arms ≤ n → past n (arms_before (labels_of (drop n arms)) v) ≡ Ok n
none_taken arms n v le = rw (nothing_left arms n le) (ap Ok (let e : n + 0 ≡ n = omega arith in e))
