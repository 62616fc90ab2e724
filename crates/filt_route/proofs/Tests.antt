-- Tests of what a route holds.
use Rattle.std.proofs.Common.{◌≡◌, ◌∙◌, ap, Bool, [], Result, Ok, Err, refl}
use Rattle.attrs.specs.declared.attributes.Attrs.{Attrs}
use Rattle.filt_meaning.specs.declared.value.Failure.{Failure}
use Rattle.filt_meaning.specs.Operators as operators
use Rattle.filt_meaning.specs.Operators.{bool_in, matches_of}
use Rattle.filt_meaning.specs.Values.{Val, VInt, VPair}
use Rattle.filt_meaning.specs.Attributes.{attribute_of}
use Rattle.filt_meaning.specs.Flow.{Flow, Frame, and_then, plainly}
use Rattle.filt_meaning.specs.Meaning.{compare_of, property_of}
use Rattle.filt_meaning.specs.Names.{Around}
use Rattle.filt_meaning.specs.declared.tree.TTest.{TTest}
use Rattle.filt_meaning.specs.declared.tree.TTest.TheVariants as tests
use Rattle.filt_meaning.specs.Trees as trees
use Rattle.filt_route.specs.declared.halt.Halt.{Halt}
use Rattle.filt_route.specs.declared.halt.Halt.TheVariants as halts
use Rattle.filt_route.specs.Seen.{test_in, Gives, IsApplicable, IsUnstuck, Yields}

one_by_one : {A B : Type 0} (r : Result A Failure) (g : A → Result B Failure) (attrs : Attrs) → and_then (plainly r attrs) (λ v attrs. plainly (g v) attrs) ≡ plainly (operators.and_then r g) attrs
one_by_one (Ok a) g attrs = refl
one_by_one (Err failure) g attrs = refl

property_by : (r : Result Val Failure) (g h : Val → Result Val Failure) (attrs : Attrs) → and_then (and_then (plainly r attrs) (λ v attrs. plainly (g v) attrs)) (λ v attrs. plainly (h v) attrs) ≡ plainly (operators.and_then r (λ v. operators.and_then (g v) h)) attrs
property_by (Ok v) g h attrs = one_by_one (g v) h attrs
property_by (Err failure) g h attrs = refl

pub test_is : (around : Around) (what : TTest) (vals : Frame) (attrs : Attrs) → trees.test around what vals attrs ≡ plainly (test_in around what attrs) attrs
test_is around (tests.Attribute a op n) vals attrs = one_by_one (attribute_of around a attrs) (λ v. compare_of op v (VInt n)) attrs
test_is around (tests.Property a p op n) vals attrs = property_by (attribute_of around a attrs) (property_of p) (λ v. compare_of op v (VInt n)) attrs
test_is around (tests.Pair x y op a) vals attrs = one_by_one (attribute_of around a attrs) (λ v. compare_of op (VPair (x, y)) v) attrs

yielded : (r : Result Bool Halt) (given : Result Bool Failure) (attrs : Attrs) → Gives (λ b. b) r given → Yields (λ b. b) r attrs (plainly given attrs)
yielded (Ok b) given attrs is = rw is refl
yielded (Err (halts.Fault fault)) given attrs is = rw is refl
yielded (Err halts.Memory) given attrs is = tt

pub answered : (r : Result Bool Halt) (around : Around) (what : TTest) (vals : Frame) (attrs : Attrs) → Gives (λ b. b) r (operators.and_then (test_in around what attrs) bool_in) → Yields (λ b. b) r attrs (and_then (trees.test around what vals attrs) (λ v attrs. plainly (bool_in v) attrs))
answered r around what vals attrs is =
    rw (test_is around what vals attrs, one_by_one (test_in around what attrs) bool_in attrs) (yielded r (operators.and_then (test_in around what attrs) bool_in) attrs is)

pub net_answered : (r : Result Bool Halt) (v w : Val) (attrs : Attrs) → Gives (λ b. b) r (operators.and_then (matches_of v w) bool_in) → Yields (λ b. b) r attrs (and_then (plainly (matches_of v w) attrs) (λ v attrs. plainly (bool_in v) attrs))
net_answered r v w attrs is = rw (one_by_one (matches_of v w) bool_in attrs) (yielded r (operators.and_then (matches_of v w) bool_in) attrs is)

pub applies : (around : Around) (what : TTest) (attrs : Attrs) → IsUnstuck (and_then (trees.test around what [] attrs) (λ v attrs. plainly (bool_in v) attrs)) → IsApplicable (operators.and_then (test_in around what attrs) bool_in)
applies around what attrs unstuck is =
    unstuck attrs (ap (λ (flow : Flow Val). and_then flow (λ v attrs. plainly (bool_in v) attrs)) (test_is around what [] attrs) ∙ one_by_one (test_in around what attrs) bool_in attrs ∙ ap (λ (r : Result Bool Failure). plainly r attrs) is)
