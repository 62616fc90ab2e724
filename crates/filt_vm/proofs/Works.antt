-- What code costs.
use Rattle.std.proofs.Common.{◌≡◌, ℕ, suc, zero, ◌+◌, ◌*◌, ◌<◌, ◌≤◌, max, List, [], ◌∷◌, ◌++◌, length, take, drop, get_or, Some, Result, Ok, Err, IfOk, refl, arith, length-append, inl, inr, ◌⊎◌}
use Rattle.std.proofs.Math.Nat.{le-max_left, le-max_right, le_refl}
use Rattle.std.specs.Prelude.{slice_get}
use Rattle.filt_code.specs.declared.code.Routine.{Routine}
use Rattle.filt_code.specs.declared.instr.Instr.{Instr}
use Rattle.filt_code.specs.Costs.{cost, costs, greatest, with_costs}
use Rattle.filt_route.specs.declared.halt.Halt.{Halt}
use Rattle.filt_vm.specs.Machines.{turns_left}

one_up : (m n : ℕ) → (m ≡ suc n) ⊎ (m ≤ n) → (suc m ≡ suc (suc n)) ⊎ (suc m ≤ suc n)
one_up m n (inl e) = inl (omega arith)
one_up m n (inr l) = inr (omega arith)

last_or_before : (m n : ℕ) → m ≤ suc n → (m ≡ suc n) ⊎ (m ≤ n)
last_or_before zero n le = inr (omega arith)
last_or_before (suc zero) zero le = inl refl
last_or_before (suc (suc m)) zero le = absurd (omega arith)
last_or_before (suc m) (suc n) le = one_up m n (last_or_before m n (omega arith))

one_less : (of : ℕ → ℕ) (n m : ℕ) → (m ≡ suc n) ⊎ (m ≤ n) → (m ≤ n → of m ≤ greatest of n) → of m ≤ max (of (suc n)) (greatest of n)
one_less of n m (inl e) below = rw e (le-max_left (of (suc n)) (greatest of n))
one_less of n m (inr l) below = omega (arith, below l, le-max_right (of (suc n)) (greatest of n))

greatest_of : (of : ℕ → ℕ) (n m : ℕ) → m ≤ n → of m ≤ greatest of n
greatest_of of zero zero le = le_refl (of 0)
greatest_of of zero (suc m) le = absurd (omega arith)
greatest_of of (suc n) m le = one_less of n m (last_or_before m n le) (λ l. greatest_of of n m l)

pub few_cost : (r : Result ℕ Halt) (of : ℕ → ℕ) (n : ℕ) → IfOk r (λ m. m ≤ n) → IfOk r (λ m. of m ≤ greatest of n)
few_cost (Ok m) of n le = greatest_of of n m le
few_cost (Err halt) of n le = tt

-- from a place on, as by what stands there
pub cost-behind : (fs : List ℕ) (code : List Instr) (n : ℕ) → cost fs (drop n code) 0 ≡ cost fs code n
cost-behind fs [] zero = refl
cost-behind fs [] (suc n) = refl
cost-behind fs (i ∷ more) zero = refl
cost-behind fs (i ∷ more) (suc n) = cost-behind fs more n

-- so many turns at most
pub times_is : (left n : ℕ) → turns_left left n ≡ left * (1 + n)
times_is zero n = omega arith
times_is (suc left) n = omega (arith, times_is left n)

turns_up : (few more n : ℕ) → few ≤ more → turns_left few n ≤ turns_left more n
turns_up zero more n le = omega arith
turns_up (suc few) zero n le = absurd (omega arith)
turns_up (suc few) (suc more) n le = omega (arith, turns_up few more n (omega arith))

pub at_most : (few n : ℕ) → few ≤ 120 → turns_left few n ≤ 120 * (1 + n)
at_most few n le = omega (arith, turns_up few 120 n le, times_is 120 n)

-- ---- functions

get-front : {A : Type 0} (xs ys : List A) (n : ℕ) (x d : A) → n < length xs → get_or xs n d ≡ x → get_or (xs ++ ys) n d ≡ x
get-front [] ys n x d lt is = absurd (omega arith)
get-front (a ∷ xs) ys zero x d lt is = is
get-front (a ∷ xs) ys (suc n) x d lt is = get-front xs ys n x d (omega arith) is

get-last : {A : Type 0} (xs : List A) (x d : A) → get_or (xs ++ x ∷ []) (length xs + 0) d ≡ x
get-last [] x d = refl
get-last (a ∷ xs) x d = let e : length (a ∷ xs) + 0 ≡ suc (length xs + 0) = omega arith in rw e (get-last xs x d)

costs-front : (cs : List ℕ) (fs : List Routine) (n c : ℕ) → n < length cs → get_or cs n 0 ≡ c → get_or (with_costs cs fs) n 0 ≡ c
costs-front cs [] n c lt is = is
costs-front cs (g ∷ fs) n c lt is = costs-front (cs ++ cost cs g.code.items 0 ∷ []) fs n c (omega (arith, lt, length-append cs (cost cs g.code.items 0 ∷ []))) (get-front cs (cost cs g.code.items 0 ∷ []) n c 0 lt is)

at_after : (cs : List ℕ) (fs : List Routine) (n : ℕ) (f : Routine) → slice_get fs n ≡ Some f → get_or (with_costs cs fs) (length cs + n) 0 ≡ cost (with_costs cs (take n fs)) f.code.items 0
at_after cs [] n f is = absurd (cc)
at_after cs (g ∷ fs) zero f is =
    let p : g ≡ f = cc in
    costs-front (cs ++ cost cs g.code.items 0 ∷ []) fs (length cs + 0) (cost cs f.code.items 0) (omega (arith, length-append cs (cost cs g.code.items 0 ∷ []))) (rw (← p) (get-last cs (cost cs g.code.items 0) 0))
at_after cs (g ∷ fs) (suc n) f is =
    let e : length cs + suc n ≡ length (cs ++ cost cs g.code.items 0 ∷ []) + n = omega (arith, length-append cs (cost cs g.code.items 0 ∷ [])) in
    rw e (at_after (cs ++ cost cs g.code.items 0 ∷ []) fs n f is)

-- what a function costs that is called
pub cost-of : (fs : List Routine) (n : ℕ) (f : Routine) → slice_get fs n ≡ Some f → get_or (costs fs) n 0 ≡ cost (costs (take n fs)) f.code.items 0
cost-of fs n f is = let e : 0 + n ≡ n = omega arith in rw e at (at_after [] fs n f is)
