-- For private contracts alone: which numbers pass a test.
use Rattle.std.specs.Prelude.{◌≡◌, ℕ, Bool, true, false, not, nat_lt, Ok}
use Rattle.attrs.specs.declared.attributes.Attrs.{Attrs}
use Rattle.conf_ast.specs.declared.filters.CompareOp.{CompareOp}
use Rattle.conf_ast.specs.declared.attribute.Attribute.{Attribute}
use Rattle.conf_ast.specs.declared.filters.Property.{Property}
use Rattle.filt_meaning.specs.Operators.{and_then, says}
use Rattle.filt_meaning.specs.Values.{VBool, VInt}
use Rattle.filt_meaning.specs.Attributes.{attribute_of}
use Rattle.filt_meaning.specs.Flow.{Frame, plainly}
use Rattle.filt_meaning.specs.Meaning.{compare_of, property_of}
use Rattle.filt_meaning.specs.Names.{Around}
use Rattle.filt_meaning.specs.declared.tree.TTest.{TTest}
use Rattle.filt_meaning.specs.Trees.{test}
use Rattle.filt_code.specs.declared.instr.Number.{Number}
use Rattle.filt_code.specs.Codes.{number_in, within}
use Rattle.filt_compile.specs.declared.ranges.Range.{Range}

-- the answer where what is asked for is inside, or outside
abbrev pub sense : (inside : Bool) → Bool → Bool
sense true b = b
sense false b = not b

-- an attribute is this number
abbrev pub IsHeld : Attribute → Number → Type 0
IsHeld a number = (around : Around) (attrs : Attrs) → attribute_of around a attrs ≡ and_then (number_in around number attrs) (λ n. Ok (VInt n))

-- a property of an attribute is this number
abbrev pub IsPart : Attribute → Property → Number → Type 0
IsPart a property number = (around : Around) (attrs : Attrs) → and_then (attribute_of around a attrs) (property_of property) ≡ and_then (number_in around number attrs) (λ n. Ok (VInt n))

-- the range has the numbers below this one
pub record IsBelow (number : Number) (n : ℕ) (inside : Bool) (range : Range) : Type 0 where
  pub of : range.number ≡ number
  pub where_it_holds : range.inside ≡ inside
  pub has : (m : ℕ) → within range.low range.high m ≡ nat_lt m n

-- the numbers that compare so with this one are those inside of the range, or outside
pub record IsWithin (number : Number) (op : CompareOp) (n : ℕ) (range : Range) : Type 0 where
  pub of : range.number ≡ number
  pub has : (m : ℕ) → compare_of op (VInt m) (VInt n) ≡ Ok (VBool (sense range.inside (within range.low range.high m)))

-- the test asks whether a number is inside of the range, or outside
abbrev pub IsRange : TTest → Range → Type 0
IsRange what range =
    (around : Around) (vals : Frame) (attrs : Attrs) → test around what vals attrs ≡ plainly (and_then (number_in around range.number attrs) (λ n. says (sense range.inside (within range.low range.high n)))) attrs
