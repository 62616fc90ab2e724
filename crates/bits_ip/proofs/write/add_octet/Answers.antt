use Rattle.std.proofs.Common.{◌≡◌, ◌++◌, ◌∷◌, [], List, ℕ, ◌+◌, ◌≤◌, ◌<◌, ◌/◌, ◌%◌, ◌∙◌, ap, append_assoc, arith, decimal, length, slice_set, sym, take}
use Rattle.std.proofs.lemmas.Fmt.{decimal_digit, decimal_step}
use Rattle.std.proofs.lemmas.Grind.{take-set_at}
use Rattle.std.proofs.lemmas.List.{length-set}
use Rattle.bits_ip.proofs.write.add_octet.Goals as goal

two_digits : (n : ℕ) → 10 ≤ n → n < 100 → decimal n ≡ (48 + n / 10) ∷ (48 + n % 10) ∷ []
two_digits n large small =
    decimal_step n large (omega arith)
    ∙ ap (λ ds. ds ++ (48 + n % 10) ∷ []) (decimal_digit (n / 10) (omega arith))

three_digits : (n : ℕ) → 100 ≤ n → n < 256 → decimal n ≡ (48 + n / 100) ∷ (48 + n / 10 % 10) ∷ (48 + n % 10) ∷ []
three_digits n large small =
    let first : n / 10 / 10 ≡ n / 100 = omega arith in
    decimal_step n (omega arith) (omega arith)
    ∙ ap (λ ds. ds ++ (48 + n % 10) ∷ []) (two_digits (n / 10) (omega arith) (omega arith))
    ∙ ap (λ d. (48 + d) ∷ (48 + n / 10 % 10) ∷ (48 + n % 10) ∷ []) first

-- one byte, two and three are written behind the first
one_more : (text : List ℕ) (start a : ℕ) → start < length text → take (start + 1) (slice_set text start a) ≡ take start text ++ a ∷ []
one_more text start a within = take-set_at text start (start + 1) a (omega arith) within

two_more : (text : List ℕ) (start a b : ℕ) → start + 1 < length text
    → take (start + 2) (slice_set (slice_set text start a) (start + 1) b) ≡ take start text ++ a ∷ b ∷ []
two_more text start a b within =
    take-set_at (slice_set text start a) (start + 1) (start + 2) b (omega arith) (omega (arith, length-set text start a))
    ∙ ap (λ front. front ++ b ∷ []) (one_more text start a (omega arith))
    ∙ append_assoc (take start text) (a ∷ []) (b ∷ [])

three_more : (text : List ℕ) (start a b d : ℕ) → start + 2 < length text
    → take (start + 3) (slice_set (slice_set (slice_set text start a) (start + 1) b) (start + 2) d) ≡ take start text ++ a ∷ b ∷ d ∷ []
three_more text start a b d within =
    let more = slice_set text start a in
    take-set_at (slice_set more (start + 1) b) (start + 2) (start + 3) d (omega arith) (omega (arith, length-set more (start + 1) b, length-set text start a))
    ∙ ap (λ front. front ++ d ∷ []) (two_more text start a b (omega arith))
    ∙ append_assoc (take start text) (a ∷ b ∷ []) (d ∷ [])

-- src/write.rt:96:9
pub returns-then-number-lt10-clause-written : goal.returns-then-number-lt10-clause-written
returns-then-number-lt10-clause-written c =
    one_more c.args.text.now c.args.start (48 + c.args.number) (omega (arith, c.told-text, c.requires))
    ∙ ap (λ ds. take c.args.start c.args.text.now ++ ds) (sym (decimal_digit c.args.number c.if-number-lt10.true))

pub returns-then-number-lt100-clause-written : goal.returns-then-number-lt100-clause-written
returns-then-number-lt100-clause-written c =
    two_more c.args.text.now c.args.start _ _ (omega (arith, c.told-text, c.requires))
    ∙ ap (λ ds. take c.args.start c.args.text.now ++ ds) (sym (two_digits c.args.number c.if-number-lt10.false c.if-number-lt100.true))

pub returns-clause-written : goal.returns-clause-written
returns-clause-written c =
    three_more c.args.text.now c.args.start _ _ _ (omega (arith, c.told-text, c.requires))
    ∙ ap (λ ds. take c.args.start c.args.text.now ++ ds) (sym (three_digits c.args.number c.if-number-lt100.false (omega (arith, c.ranges.number.fits))))
