-- How the run of a filter goes on (`Flow`): done with something, or stopped for a reason, with the
-- attributes as they then are. That operands are evaluated from left to right, that the first fault
-- counts, and that `accept` ends a filter from within a function are all `and_then`: what stopped
-- stays stopped.
-- From: own.
-- Example: behind `1 / 0` no `accept` is reached.
use Rattle.std.specs.Prelude.{List, Result, Ok, Err}
use Rattle.attrs.specs.declared.attributes.Attrs.{Attrs}
use Rattle.attrs.specs.declared.judge.FilterFault.{FilterFault}
use Rattle.filt_meaning.specs.declared.value.Failure.{Failure}
use Rattle.filt_meaning.specs.declared.value.Failure.TheVariants as failures
use Rattle.filt_meaning.specs.Values.{Val}

-- Why a run goes no further.
pub data Why : Type 0 where
  -- `return;`
  AtEnd : Why
  -- `return` with a value
  Returned : Val → Why
  Accepted : Why
  Rejected : Why
  Faulted : FilterFault → Why
  -- What is refused for its types or its names isn't run: no checked filter comes here.
  Stuck : Why

-- A run is done and has given something, or it goes no further; with the attributes of the route as
-- they then are.
pub data Flow (A : Type 0) : Type 0 where
  Done : A → Attrs → Flow A
  Stopped : Why → Attrs → Flow A

-- The values of the variables, the ones of inner blocks behind those of outer ones.
abbrev pub Frame : Type 0
Frame = List Val

-- What is run over a frame and attributes. Expressions read the frame, and may change attributes
-- by the functions that they call; a statement leaves a frame, and is a `Run Frame`.
abbrev pub Run : Type 0 → Type 0
Run A = Frame → Attrs → Flow A

-- one thing after another
abbrev pub and_then : {A B : Type 0} → Flow A → (A → Attrs → Flow B) → Flow B
and_then (Done a attrs) next = next a attrs
and_then (Stopped why attrs) next = Stopped why attrs

abbrev pub why_of : Failure → Why
why_of (failures.Fault fault) = Faulted fault
why_of failures.Stuck = Stuck

-- what changes no attributes, as an operator on values
abbrev pub plainly : {A : Type 0} → Result A Failure → Attrs → Flow A
plainly (Ok a) attrs = Done a attrs
plainly (Err failure) attrs = Stopped (why_of failure) attrs
