-- For the crate's callers: the conditions of its functions (`IsApplicable`, `IsUnstuck`) and what they
-- owe (`Gives`, `Yields`), where code is run (`around_in`), and what loops go over (`elements_of`).
use Rattle.std.specs.Prelude.{◌≡◌, map, Result, Ok, Err, ⊤}
use Rattle.attrs.specs.declared.attributes.Attrs.{Attrs}
use Rattle.filt_meaning.specs.declared.value.Failure.{Failure}
use Rattle.filt_meaning.specs.declared.value.Failure.TheVariants as failures
use Rattle.filt_meaning.specs.declared.value.ListFailure.{ListFailure}
use Rattle.filt_meaning.specs.declared.value.ListFailure.TheVariants as list_failures
use Rattle.filt_meaning.specs.Operators as operators
use Rattle.filt_meaning.specs.Values.{Val, VInt, VPair}
use Rattle.filt_meaning.specs.Attributes.{attribute_of}
use Rattle.filt_meaning.specs.Flow.{Flow, Done, Stopped, Faulted, Frame, Stuck}
use Rattle.filt_meaning.specs.Meaning.{compare_of, property_of}
use Rattle.filt_meaning.specs.Names.{Around}
use Rattle.filt_meaning.specs.declared.tree.TTest.{TTest}
use Rattle.filt_meaning.specs.declared.tree.TTest.TheVariants as tests
use Rattle.filt_route.specs.declared.elements.Elements.{Elements}
use Rattle.filt_route.specs.declared.elements.Elements.TheVariants as elements
use Rattle.filt_route.specs.declared.halt.Halt.{Halt}
use Rattle.filt_route.specs.declared.halt.Halt.TheVariants as halts
use Rattle.filt_route.specs.declared.surroundings.Surroundings.{Surroundings}

-- ---- conditions

-- The run isn't stuck.
abbrev pub IsUnstuck : {A : Type 0} → Flow A → Type 0
IsUnstuck flow = (attrs : Attrs) → flow ≡ Stopped Stuck attrs → ⊥

-- the operator takes values of these sorts
abbrev pub IsApplicable : {A : Type 0} → Result A Failure → Type 0
IsApplicable given = given ≡ Err failures.Stuck → ⊥

-- ---- answers

-- the run stops for the same reason
abbrev pub IsHalt : Halt → ListFailure → Type 0
IsHalt (halts.Fault fault) failure = failure ≡ list_failures.Failed (failures.Fault fault)
IsHalt halts.Memory failure = failure ≡ list_failures.Memory

-- The call gives what the definition gives, every fault included, or wants memory.
abbrev pub Gives : {X A : Type 0} → (X → A) → Result X Halt → Result A Failure → Type 0
Gives view (Ok x) given = given ≡ Ok (view x)
Gives view (Err (halts.Fault fault)) given = given ≡ Err (failures.Fault fault)
Gives view (Err halts.Memory) given = ⊤

-- the run has this fault, with the attributes as they are, or the call wants memory
abbrev pub Fails : {A : Type 0} → Halt → Attrs → Flow A → Type 0
Fails (halts.Fault fault) attrs flow = flow ≡ Stopped (Faulted fault) attrs
Fails halts.Memory attrs flow = ⊤

-- The call gives what the run gives, which leaves the attributes, or wants memory.
abbrev pub Yields : {X A : Type 0} → (X → A) → Result X Halt → Attrs → Flow A → Type 0
Yields view (Ok x) attrs flow = flow ≡ Done (view x) attrs
Yields view (Err halt) attrs flow = Fails halt attrs flow

-- ---- surroundings

abbrev pub around_in : Surroundings → Around
around_in s = record { net = s.net.now; number = s.number; protocols = s.names.now }

-- ---- tests

-- what a test comes to, as an operator on the values of attributes
abbrev pub test_in : Around → TTest → Attrs → Result Val Failure
test_in around (tests.Attribute a op n) attrs =
    operators.and_then (attribute_of around a attrs) (λ v. compare_of op v (VInt n))
test_in around (tests.Property a p op n) attrs =
    operators.and_then (attribute_of around a attrs)
    (λ v. operators.and_then (property_of p v) (λ w. compare_of op w (VInt n)))
test_in around (tests.Pair x y op a) attrs =
    operators.and_then (attribute_of around a attrs) (λ v. compare_of op (VPair (x, y)) v)

-- ---- loops

abbrev pub elements_of : Elements → Frame
elements_of (elements.Path path) = map VInt path
elements_of (elements.PathOf path) = map VInt path.now
elements_of (elements.Clist list) = map VPair list
elements_of (elements.ClistOf list) = map VPair list.now
