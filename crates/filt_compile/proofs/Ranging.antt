-- Which numbers pass a test.
use Rattle.std.proofs.Common.{◌≡◌, ℕ, suc, zero, ◌<◌, Bool, true, false, not, ◌&&◌, List, [], ◌∷◌, Option, Some, None, Result, Ok, Err, refl, sym, ap, ◌∙◌, arith, inl, inr, ◌⊎◌}
use Rattle.std.proofs.Math.Dec.{leb, leb-zero}
use Rattle.std.proofs.lemmas.Bool.{eq-eqb, ne_eqb, le-leb, lt-leb, lt-ltb}
use Rattle.std.specs.Cmp.{nat_cmp_is}
use Rattle.std.specs.Ordering.{is_lt, is_le, is_gt, is_ge, nat_cmp}
use Rattle.std.specs.Prelude.{◌==◌, nat_le, nat_lt}
use Rattle.std.specs.declared.cmp.Ordering.TheVariants.{Less, Equal, Greater}
use Rattle.attrs.specs.declared.attributes.Attrs.{Attrs}
use Rattle.conf_ast.specs.declared.filters.CompareOp.{CompareOp}
use Rattle.conf_ast.specs.declared.filters.CompareOp.TheVariants as compare_ops
use Rattle.conf_ast.specs.declared.filters.Property.{Property}
use Rattle.conf_ast.specs.declared.attribute.Attribute.{Attribute}
use Rattle.filt_meaning.specs.declared.value.Failure.{Failure}
use Rattle.filt_meaning.specs.Operators as operators
use Rattle.filt_meaning.specs.Operators.{bool_in, says}
use Rattle.filt_meaning.specs.Values.{Val, VBool, VInt}
use Rattle.filt_meaning.specs.Attributes.{attribute_of, defined_as}
use Rattle.filt_meaning.specs.Flow.{Flow, Frame, and_then, plainly}
use Rattle.filt_meaning.specs.Meaning.{compare_of, property_of}
use Rattle.filt_meaning.specs.declared.tree.TTest.{TTest}
use Rattle.filt_meaning.specs.declared.tree.TTest.TheVariants as tests
use Rattle.filt_meaning.specs.Trees as trees
use Rattle.filt_code.specs.declared.instr.Instr.{Instr}
use Rattle.filt_code.specs.declared.instr.Instr.TheVariants as instrs
use Rattle.filt_code.specs.declared.instr.Number.{Number}
use Rattle.filt_code.specs.declared.instr.Question.{Question}
use Rattle.filt_code.specs.declared.instr.Question.TheVariants as questions
use Rattle.filt_code.specs.Codes.{jump_where, known, mean, number_in, within}
use Rattle.filt_compile.specs.declared.ranges.Range.{Range}
use Rattle.filt_compile.specs.declared.seen.Seen.{Seen}
use Rattle.filt_compile.specs.Emits.{Asks}
use Rattle.filt_compile.specs.Ranges.{IsBelow, IsHeld, IsPart, IsRange, IsWithin, sense}

-- ---- comparing numbers

order : (m n : ℕ) → (m < n) ⊎ ((m ≡ n) ⊎ (n < m))
order zero zero = inr (inl refl)
order zero (suc n) = inl (omega arith)
order (suc m) zero = inr (inr (omega arith))
order (suc m) (suc n) = one_up (order m n)
  where
    one_up : (m < n) ⊎ ((m ≡ n) ⊎ (n < m)) → (suc m < suc n) ⊎ ((suc m ≡ suc n) ⊎ (suc n < suc m))
    one_up (inl lt) = inl (omega (arith, lt))
    one_up (inr (inl e)) = inr (inl (omega (arith, e)))
    one_up (inr (inr gt)) = inr (inr (omega (arith, gt)))

is_less : (m n : ℕ) → (m < n) ⊎ ((m ≡ n) ⊎ (n < m)) → is_lt (nat_cmp m n) ≡ nat_lt m n
is_less m n (inl lt) = ap is_lt (sym (nat_cmp_is m n Less lt)) ∙ sym (lt-ltb m n lt)
is_less m n (inr (inl e)) = ap is_lt (sym (nat_cmp_is m n Equal e)) ∙ sym (lt-leb (suc m) n (omega (arith, e)))
is_less m n (inr (inr gt)) = ap is_lt (sym (nat_cmp_is m n Greater gt)) ∙ sym (lt-leb (suc m) n (omega (arith, gt)))

at_most : (m n : ℕ) → (m < n) ⊎ ((m ≡ n) ⊎ (n < m)) → is_le (nat_cmp m n) ≡ nat_le m n
at_most m n (inl lt) = ap is_le (sym (nat_cmp_is m n Less lt)) ∙ sym (le-leb m n (omega (arith, lt)))
at_most m n (inr (inl e)) = ap is_le (sym (nat_cmp_is m n Equal e)) ∙ sym (le-leb m n (omega (arith, e)))
at_most m n (inr (inr gt)) = ap is_le (sym (nat_cmp_is m n Greater gt)) ∙ sym (lt-leb m n gt)

is_more : (m n : ℕ) → (m < n) ⊎ ((m ≡ n) ⊎ (n < m)) → is_gt (nat_cmp m n) ≡ not (nat_le m n)
is_more m n (inl lt) = ap is_gt (sym (nat_cmp_is m n Less lt)) ∙ sym (ap not (le-leb m n (omega (arith, lt))))
is_more m n (inr (inl e)) = ap is_gt (sym (nat_cmp_is m n Equal e)) ∙ sym (ap not (le-leb m n (omega (arith, e))))
is_more m n (inr (inr gt)) = ap is_gt (sym (nat_cmp_is m n Greater gt)) ∙ sym (ap not (lt-leb m n gt))

at_least : (m n : ℕ) → (m < n) ⊎ ((m ≡ n) ⊎ (n < m)) → is_ge (nat_cmp m n) ≡ not (nat_lt m n)
at_least m n (inl lt) = ap is_ge (sym (nat_cmp_is m n Less lt)) ∙ sym (ap not (lt-ltb m n lt))
at_least m n (inr (inl e)) = ap is_ge (sym (nat_cmp_is m n Equal e)) ∙ sym (ap not (lt-leb (suc m) n (omega (arith, e))))
at_least m n (inr (inr gt)) = ap is_ge (sym (nat_cmp_is m n Greater gt)) ∙ sym (ap not (lt-leb (suc m) n (omega (arith, gt))))

both : (a b x y : Bool) → a ≡ x → b ≡ y → (a && b) ≡ (x && y)
both a b x y p q = rw (p, q) refl

apart : (m n : ℕ) → m < n → m ≡ n → ⊥
apart m n lt e = omega (arith, lt, e)

apart_too : (m n : ℕ) → n < m → m ≡ n → ⊥
apart_too m n gt e = omega (arith, gt, e)

is_same : (m n : ℕ) → (m < n) ⊎ ((m ≡ n) ⊎ (n < m)) → (m == n) ≡ within n n m
is_same m n (inl lt) = ne_eqb m n (apart m n lt) ∙ sym (both (nat_le n m) (nat_le m n) false true (lt-leb n m lt) (le-leb m n (omega (arith, lt))))
is_same m n (inr (inl e)) = eq-eqb m n e ∙ sym (both (nat_le n m) (nat_le m n) true true (le-leb n m (omega (arith, e))) (le-leb m n (omega (arith, e))))
is_same m n (inr (inr gt)) = ne_eqb m n (apart_too m n gt) ∙ sym (both (nat_le n m) (nat_le m n) true false (le-leb n m (omega (arith, gt))) (lt-leb m n gt))

from_zero : (n m : ℕ) → within 0 n m ≡ nat_le m n
from_zero n m = both (nat_le 0 m) (nat_le m n) true (nat_le m n) (leb-zero m) refl

-- ---- ranges

pub equals : (number : Number) (n : ℕ) (r : Range) → r ≡ record { number = number; low = n; high = n; inside = true } → IsWithin number compare_ops.Equal n r
equals number n r is = rw is (record { of = refl; has = λ m. ap (λ (b : Bool). Ok (VBool b)) (is_same m n (order m n)) })

pub differs : (number : Number) (n : ℕ) (r : Range) → r ≡ record { number = number; low = n; high = n; inside = false } → IsWithin number compare_ops.NotEqual n r
differs number n r is = rw is (record { of = refl; has = λ m. ap (λ (b : Bool). Ok (VBool (not b))) (is_same m n (order m n)) })

pub up_to : (number : Number) (n : ℕ) (r : Range) → r ≡ record { number = number; low = 0; high = n; inside = true } → IsWithin number compare_ops.LessOrEqual n r
up_to number n r is = rw is (record { of = refl; has = λ m. ap (λ (b : Bool). Ok (VBool b)) (at_most m n (order m n) ∙ sym (from_zero n m)) })

pub above : (number : Number) (n : ℕ) (r : Range) → r ≡ record { number = number; low = 0; high = n; inside = false } → IsWithin number compare_ops.Greater n r
above number n r is = rw is (record { of = refl; has = λ m. ap (λ (b : Bool). Ok (VBool b)) (is_more m n (order m n) ∙ ap not (sym (from_zero n m))) })

pub less : (number : Number) (n : ℕ) (r : Range) → IsBelow number n true r → IsWithin number compare_ops.Less n r
less number n r p = record {
  of = p.of;
  has = λ m. ap (λ (b : Bool). Ok (VBool b)) (is_less m n (order m n) ∙ sym (p.has m) ∙ ap (λ (i : Bool). sense i (within r.low r.high m)) (sym p.where_it_holds));
}

pub not_less : (number : Number) (n : ℕ) (r : Range) → IsBelow number n false r → IsWithin number compare_ops.GreaterOrEqual n r
not_less number n r p = record {
  of = p.of;
  has = λ m. ap (λ (b : Bool). Ok (VBool b)) (at_least m n (order m n) ∙ ap not (sym (p.has m)) ∙ ap (λ (i : Bool). sense i (within r.low r.high m)) (sym p.where_it_holds));
}

none_below : (n m : ℕ) → n ≡ 0 → within 1 0 m ≡ nat_lt m n
none_below n zero is = both (nat_le 1 0) (nat_le 0 0) false true refl refl ∙ sym (lt-leb 1 n (omega (arith, is)))
none_below n (suc m) is = both (nat_le 1 (suc m)) (nat_le (suc m) 0) (nat_le 1 (suc m)) false refl (lt-leb (suc m) 0 (omega arith)) ∙ and_false (nat_le 1 (suc m)) ∙ sym (lt-leb (suc (suc m)) n (omega (arith, is)))
  where
    and_false : (b : Bool) → (b && false) ≡ false
    and_false true = refl
    and_false false = refl

some_below : (n k m : ℕ) → n ≡ suc k → within 0 k m ≡ nat_lt m n
some_below n k m is = from_zero k m ∙ rw is (shifted m k)
  where
    shifted : (m k : ℕ) → nat_le m k ≡ nat_lt m (suc k)
    shifted m k = by_order (order m k)
      where
        by_order : (m < k) ⊎ ((m ≡ k) ⊎ (k < m)) → nat_le m k ≡ nat_lt m (suc k)
        by_order (inl lt) = le-leb m k (omega (arith, lt)) ∙ sym (lt-ltb m (suc k) (omega (arith, lt)))
        by_order (inr (inl e)) = le-leb m k (omega (arith, e)) ∙ sym (lt-ltb m (suc k) (omega (arith, e)))
        by_order (inr (inr gt)) = lt-leb m k gt ∙ sym (lt-leb (suc m) (suc k) (omega (arith, gt)))

pub below_none : (number : Number) (n : ℕ) (inside : Bool) (r : Range) → n ≡ 0 → r ≡ record { number = number; low = 1; high = 0; inside = inside } → IsBelow number n inside r
below_none number n inside r zero_is is = rw is (record { of = refl; where_it_holds = refl; has = λ m. none_below n m zero_is })

pub below_some : (number : Number) (n k : ℕ) (inside : Bool) (r : Range) → n ≡ suc k → r ≡ record { number = number; low = 0; high = k; inside = inside } → IsBelow number n inside r
below_some number n k inside r more is = rw is (record { of = refl; where_it_holds = refl; has = λ m. some_below n k m more })

-- ---- attributes

pub known_is : (held : Option ℕ) → defined_as VInt held ≡ operators.and_then (known held) (λ n. Ok (VInt n))
known_is None = refl
known_is (Some n) = refl

-- ---- tests

compared : (r : Result ℕ Failure) (op : CompareOp) (n low high : ℕ) (inside : Bool) (attrs : Attrs) → ((m : ℕ) → compare_of op (VInt m) (VInt n) ≡ Ok (VBool (sense inside (within low high m)))) → and_then (plainly (operators.and_then r (λ m. Ok (VInt m))) attrs) (λ v attrs. plainly (compare_of op v (VInt n)) attrs) ≡ plainly (operators.and_then r (λ m. says (sense inside (within low high m)))) attrs
compared (Ok m) op n low high inside attrs has = ap (λ (r : Result Val Failure). plainly r attrs) (has m)
compared (Err failure) op n low high inside attrs has = refl

pub attribute_ranged : (a : Attribute) (op : CompareOp) (n : ℕ) (number : Number) (r : Range) (what : TTest) → what ≡ tests.Attribute a op n → IsHeld a number → IsWithin number op n r → IsRange what r
attribute_ranged a op n number r what is held p = λ around vals attrs.
    ap (λ (what : TTest). trees.test around what vals attrs) is
    ∙ ap (λ (r : Result Val Failure). and_then (plainly r attrs) (λ v attrs. plainly (compare_of op v (VInt n)) attrs)) (held around attrs)
    ∙ compared (number_in around number attrs) op n r.low r.high r.inside attrs p.has
    ∙ ap (λ (number : Number). plainly (operators.and_then (number_in around number attrs) (λ m. says (sense r.inside (within r.low r.high m)))) attrs) (sym p.of)

pub in_two : (r : Result Val Failure) (g : Val → Result Val Failure) (attrs : Attrs) → and_then (plainly r attrs) (λ v attrs. plainly (g v) attrs) ≡ plainly (operators.and_then r g) attrs
in_two (Ok v) g attrs = refl
in_two (Err failure) g attrs = refl

pub part_ranged : (a : Attribute) (property : Property) (op : CompareOp) (n : ℕ) (number : Number) (r : Range) (what : TTest) → what ≡ tests.Property a property op n → IsPart a property number → IsWithin number op n r → IsRange what r
part_ranged a property op n number r what is part p = λ around vals attrs.
    ap (λ (what : TTest). trees.test around what vals attrs) is
    ∙ ap (λ (flow : Flow Val). and_then flow (λ v attrs. plainly (compare_of op v (VInt n)) attrs)) (in_two (attribute_of around a attrs) (property_of property) attrs ∙ ap (λ (r : Result Val Failure). plainly r attrs) (part around attrs))
    ∙ compared (number_in around number attrs) op n r.low r.high r.inside attrs p.has
    ∙ ap (λ (number : Number). plainly (operators.and_then (number_in around number attrs) (λ m. says (sense r.inside (within r.low r.high m)))) attrs) (sym p.of)

turned : (inside is : Bool) (n : ℕ) (b : Bool) → jump_where (sense inside is) n b ≡ jump_where is n (sense inside b)
turned true is n b = refl
turned false true n true = refl
turned false true n false = refl
turned false false n true = refl
turned false false n false = refl

asked : (r : Result ℕ Failure) (low high n : ℕ) (inside is : Bool) (attrs : Attrs) (next : ℕ → Attrs → Flow Frame) → and_then (plainly (operators.and_then r (λ m. says (within low high m))) attrs) (λ v attrs. and_then (plainly (bool_in v) attrs) (λ b attrs. next (jump_where (sense inside is) n b) attrs)) ≡ and_then (plainly (operators.and_then r (λ m. says (sense inside (within low high m)))) attrs) (λ v attrs. and_then (plainly (bool_in v) attrs) (λ b attrs. next (jump_where is n b) attrs))
asked (Ok m) low high n inside is attrs next = ap (λ (k : ℕ). next k attrs) (turned inside is n (within low high m))
asked (Err failure) low high n inside is attrs next = refl

pub range_asks : (seen : Seen) (is sensed : Bool) (n : ℕ) (what : TTest) (range : Range) (q : Question) (old new : List Instr) → IsRange what range → sensed ≡ sense range.inside is → q ≡ questions.Within range.number range.low range.high → new ≡ instrs.JumpIfAsked sensed q n ∷ old → Asks seen is n (λ t. trees.test t.around what) old new
range_asks seen is sensed n what range q old new p same asks front = record {
  code = instrs.JumpIfAsked sensed q n ∷ [];
  grows = front;
  means = λ s few vals os attrs.
      ap (λ (code : List Instr). mean s code 0 vals os attrs) (front ∙ ap (λ (b : Bool). instrs.JumpIfAsked b q n ∷ old) same ∙ ap (λ (q : Question). instrs.JumpIfAsked (sense range.inside is) q n ∷ old) asks)
      ∙ asked (number_in s.around range.number attrs) range.low range.high n range.inside is attrs (λ k attrs. mean s old k vals os attrs)
      ∙ ap (λ (flow : Flow Val). and_then flow (λ v attrs. and_then (plainly (bool_in v) attrs) (λ b attrs. mean s old (jump_where is n b) vals os attrs))) (sym (p s.around vals attrs));
}
