-- What is known of a flow goes through what follows it.
use Rattle.std.proofs.Common.{◌≡◌, Option, Some, Result, Ok, Err}
use Rattle.std.specs.Bool.{⊤}
use Rattle.attrs.specs.declared.attributes.Attrs.{Attrs}
use Rattle.filt_meaning.specs.declared.value.Failure.{Failure}
use Rattle.filt_meaning.specs.declared.value.Failure.TheVariants as failures
use Rattle.filt_meaning.specs.declared.value.Sort.{Sort}
use Rattle.filt_meaning.specs.Operators as values
use Rattle.filt_meaning.specs.Sorts.{IsGiven}
use Rattle.filt_meaning.specs.Values.{Val, sort_of}
use Rattle.filt_meaning.specs.Flow.{Why, AtEnd, Returned, Accepted, Rejected, Faulted, Stuck, Flow, Done, Stopped, and_then, plainly}
use Rattle.filt_laws.specs.Sound.{EndsFilter, IsResult}

-- what is done is so, and what stopped stopped for such a reason
abbrev pub Meets : {A : Type 0} → (Why → Type 0) → (A → Type 0) → Flow A → Type 0
Meets W P (Done a attrs) = P a
Meets W P (Stopped why attrs) = W why

pub goes_on : {A B : Type 0} (V W : Why → Type 0) (P : A → Type 0) (Q : B → Type 0)
    → ((why : Why) → V why → W why) → (flow : Flow A) (next : A → Attrs → Flow B)
    → Meets V P flow → ((a : A) (attrs : Attrs) → P a → Meets W Q (next a attrs))
    → Meets W Q (and_then flow next)
goes_on V W P Q w (Done a attrs) next m n = n a attrs m
goes_on V W P Q w (Stopped why attrs) next m n = w why m

pub weaker : {A : Type 0} (V W : Why → Type 0) (P Q : A → Type 0)
    → ((why : Why) → V why → W why) → ((a : A) → P a → Q a) → (flow : Flow A)
    → Meets V P flow → Meets W Q flow
weaker V W P Q w q (Done a attrs) m = q a m
weaker V W P Q w q (Stopped why attrs) m = w why m

-- such a value, or a fault
abbrev pub IsGood : {A : Type 0} → (A → Type 0) → Result A Failure → Type 0
IsGood P (Ok a) = P a
IsGood P (Err (failures.Fault fault)) = ⊤
IsGood P (Err failures.Stuck) = ⊥

abbrev pub OfSort : Sort → Val → Type 0
OfSort k v = sort_of v ≡ k

abbrev pub Anything : {A : Type 0} → A → Type 0
Anything a = ⊤

pub plainly_meets : {A : Type 0} (P : A → Type 0) (r : Result A Failure) (attrs : Attrs)
    → IsGood P r → Meets EndsFilter P (plainly r attrs)
plainly_meets P (Ok a) attrs g = g
plainly_meets P (Err (failures.Fault fault)) attrs g = tt
plainly_meets P (Err failures.Stuck) attrs g = absurd g

pub given_good : (k : Sort) (r : Result Val Failure) → IsGiven k r → IsGood (OfSort k) r
given_good k (Ok v) g = g
given_good k (Err (failures.Fault fault)) g = tt
given_good k (Err failures.Stuck) g = absurd g

pub good_then : {A B : Type 0} (P : A → Type 0) (Q : B → Type 0) (r : Result A Failure)
    (next : A → Result B Failure) → IsGood P r → ((a : A) → P a → IsGood Q (next a))
    → IsGood Q (values.and_then r next)
good_then P Q (Ok a) next g n = n a g
good_then P Q (Err (failures.Fault fault)) next g n = tt
good_then P Q (Err failures.Stuck) next g n = absurd g

-- what the statements of a function may stop for, which is to give something or not
abbrev pub Allows : Option Sort → Why → Type 0
Allows gives AtEnd = ⊤
Allows gives (Returned v) = IsResult gives (Some v)
Allows gives Accepted = ⊤
Allows gives Rejected = ⊤
Allows gives (Faulted fault) = ⊤
Allows gives Stuck = ⊥

pub ends : (why : Why) → EndsFilter why → EndsFilter why
ends why e = e

pub allowed : (gives : Option Sort) (why : Why) → EndsFilter why → Allows gives why
allowed gives AtEnd e = tt
allowed gives (Returned v) e = absurd e
allowed gives Accepted e = tt
allowed gives Rejected e = tt
allowed gives (Faulted fault) e = tt
allowed gives Stuck e = absurd e

pub same_why : (gives : Option Sort) (why : Why) → Allows gives why → Allows gives why
same_why gives why e = e
