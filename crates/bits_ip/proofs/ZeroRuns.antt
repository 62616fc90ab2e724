-- The zeros that are left out of an IPv6 address are its first longest run.
use Rattle.std.proofs.Common.{◌≡◌, ℕ, zero, suc, ◌<◌, ◌≤◌, ◌+◌, cond, List, [], ◌∷◌, ◌++◌, length, take, drop, replicate, sym, ap, ◌∙◌, refl, subst, ⊎_elim, arith, append_assoc}
use Rattle.std.proofs.lemmas.Bool.{cases_eq, cases_lt, eq-eqb, ne_eqb}
use Rattle.std.proofs.lemmas.List.{drop-drop, length-take-le, take-append-drop}
use Rattle.std.proofs.Math.Seq.{drop-append_seam}
use Rattle.bits_ip.specs.Text.{groups, zero_run, longest_run, run_start, v6_text, IsShortText}
use Rattle.bits_ip.proofs.Groups.{start_within}

zeros_at_front : (n : ℕ) (behind : List ℕ) → n ≤ zero_run (replicate n 0 ++ behind)
zeros_at_front zero behind = omega arith
zeros_at_front (suc n) behind = omega (arith, zeros_at_front n behind)

none_longer : (gs : List ℕ) (i : ℕ) → zero_run (drop i gs) ≤ longest_run gs
none_longer [] zero = omega arith
none_longer [] (suc i) = omega arith
none_longer (g ∷ gs) zero = omega arith
none_longer (g ∷ gs) (suc i) = omega (arith, none_longer gs i)

start_now : (len g : ℕ) (gs : List ℕ) → zero_run (g ∷ gs) ≡ len → run_start len (g ∷ gs) ≡ 0
start_now len g gs same = ap (λ t. cond t 0 (run_start len gs + 1)) (eq-eqb (zero_run (g ∷ gs)) len same)

start_then : (len g : ℕ) (gs : List ℕ) → (zero_run (g ∷ gs) ≡ len → ⊥) → run_start len (g ∷ gs) ≡ suc (run_start len gs)
start_then len g gs other =
    let later : run_start len (g ∷ gs) ≡ run_start len gs + 1 = ap (λ t. cond t 0 (run_start len gs + 1)) (ne_eqb (zero_run (g ∷ gs)) len other) in
    omega (arith, later)

-- the longest run stands where it starts
run_stands : (len : ℕ) (gs : List ℕ) → len ≡ longest_run gs → zero_run (drop (run_start len gs) gs) ≡ len
run_stands len [] e = sym e
run_stands len (g ∷ gs) e =
    ⊎_elim
    (λ same. ap (λ k. zero_run (drop k (g ∷ gs))) (start_now len g gs same) ∙ same)
    (λ other. ap (λ k. zero_run (drop k (g ∷ gs))) (start_then len g gs other) ∙ run_stands len gs (omega (arith, e, other)))
    (cases_eq (zero_run (g ∷ gs)) len)

-- no run of this length starts before
none_earlier : (len : ℕ) (gs : List ℕ) (i : ℕ) → i < run_start len gs → zero_run (drop i gs) ≡ len → ⊥
none_earlier len [] i before same = omega (arith, before)
none_earlier len (g ∷ gs) zero before same = omega (arith, before, start_now len g gs same)
none_earlier len (g ∷ gs) (suc i) before same =
    ⊎_elim
    (λ now. omega (arith, before, start_now len g gs now))
    (λ other. none_earlier len gs i (omega (arith, before, start_then len g gs other)) same)
    (cases_eq (zero_run (g ∷ gs)) len)

-- the groups of a run are zeros
zeros_taken : (gs : List ℕ) → take (zero_run gs) gs ≡ replicate (zero_run gs) 0
zeros_taken [] = refl
zeros_taken (g ∷ gs) =
    ⊎_elim
    (λ zero_is.
    let one : zero_run (g ∷ gs) ≡ zero_run gs + 1 = ap (λ t. cond t (zero_run gs + 1) 0) (eq-eqb g 0 zero_is) in
    let more : zero_run (g ∷ gs) ≡ suc (zero_run gs) = omega (arith, one) in
    ap (λ k. take k (g ∷ gs)) more
    ∙ ap (λ (x : ℕ). x ∷ take (zero_run gs) gs) zero_is
    ∙ ap (λ (l : List ℕ). 0 ∷ l) (zeros_taken gs)
    ∙ sym (ap (λ (k : ℕ). replicate {A = ℕ} k 0) more))
    (λ other.
    let none : zero_run (g ∷ gs) ≡ 0 = ap (λ t. cond t (zero_run gs + 1) 0) (ne_eqb g 0 other) in
    ap (λ k. take k (g ∷ gs)) none ∙ sym (ap (λ (k : ℕ). replicate {A = ℕ} k 0) none))
    (cases_eq g 0)

module _ (gs : List ℕ) where
  taken : take (longest_run gs) (drop (run_start (longest_run gs) gs) gs) ≡ replicate (longest_run gs) 0
  taken =
      subst (λ (k : ℕ). take k (drop (run_start (longest_run gs) gs) gs) ≡ replicate k 0) (run_stands (longest_run gs) gs refl)
      (zeros_taken (drop (run_start (longest_run gs) gs) gs))

  cut : gs ≡ take (run_start (longest_run gs) gs) gs ++ replicate (longest_run gs) 0 ++ drop (run_start (longest_run gs) gs + longest_run gs) gs
  cut =
      let s = run_start (longest_run gs) gs in
      let k = longest_run gs in
      sym (take-append-drop s gs)
      ∙ ap (λ (l : List ℕ). take s gs ++ l) (sym (take-append-drop k (drop s gs)))
      ∙ ap (λ (l : List ℕ). take s gs ++ (l ++ drop k (drop s gs))) taken
      ∙ ap (λ (l : List ℕ). take s gs ++ (replicate k 0 ++ l)) (drop-drop k s gs)
      ∙ sym (append_assoc (take s gs) (replicate k 0) (drop (s + k) gs))

  longest : (before : List ℕ) (n : ℕ) (behind : List ℕ) → gs ≡ before ++ replicate n 0 ++ behind
      → (n ≤ longest_run gs) × (n ≡ longest_run gs → length (take (run_start (longest_run gs) gs) gs) ≤ length before)
  longest before n behind parts =
      let i = length before in
      let here : drop i gs ≡ replicate n 0 ++ behind = ap (λ (l : List ℕ). drop i l) (parts ∙ append_assoc before (replicate n 0) behind) ∙ drop-append_seam before (replicate n 0 ++ behind) in
      let some : n ≤ zero_run (drop i gs) = subst (λ (l : List ℕ). n ≤ zero_run l) (sym here) (zeros_at_front n behind) in
      let most : zero_run (drop i gs) ≤ longest_run gs = none_longer gs i in (
        omega (arith, some, most),
        λ e.
            let long : length (take (run_start (longest_run gs) gs) gs) ≡ run_start (longest_run gs) gs = length-take-le (run_start (longest_run gs) gs) gs (omega (arith, start_within (longest_run gs) gs refl)) in
            ⊎_elim
            (λ less. absurd (none_earlier (longest_run gs) gs i less (omega (arith, some, most, e))))
            (λ at_least. omega (arith, long, at_least))
            (cases_lt i (run_start (longest_run gs) gs)),
      )

pub text_is_short : (n : ℕ) → IsShortText (v6_text n) (groups n)
text_is_short n =
    let gs = groups n in
    record {
      front = take (run_start (longest_run gs) gs) gs;
      len = longest_run gs;
      back = drop (run_start (longest_run gs) gs + longest_run gs) gs;
      run = record { whole = cut gs; longest = longest gs };
      text_is = refl;
    }
