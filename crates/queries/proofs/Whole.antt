-- What is read of a text is what the text asks.
use Rattle.std.proofs.Common.{◌≡◌, sym, refl, subst, ℕ, List, Option, Some, None}
use Rattle.std.specs.Prelude.{MatchOption}
use Rattle.attrs.specs.declared.route.Select.{Select}
use Rattle.queries.specs.Question.{Asked, IsQuestion, Part, plain}
use Rattle.queries.specs.Inside.{put, BeginsWith, BeginsWithNone, GoesOn, Ends, IsOpen, Selects}
use Rattle.queries.proofs.Turns.{turn_on, turn_back, goes_ends, ends_go}

pub plain_open : (pick : Select) → IsOpen (plain pick)
plain_open pick = record { condition = refl; one_table = refl }

pub more_read : {X : Type 0} (view : X → Asked) (found : Option X) (old now : Asked) (text rest : List ℕ) (p : Part) → BeginsWith text p rest → put old p ≡ Some now
    → MatchOption found ((new : Asked) → GoesOn now rest new → ⊥) (λ x. GoesOn now rest (view x))
    → MatchOption found ((new : Asked) → GoesOn old text new → ⊥) (λ x. GoesOn old text (view x))
more_read view None old now text rest p begins set is = λ new goes. is new (turn_back old now text rest p begins set new goes)
more_read view (Some x) old now text rest p begins set is = turn_on old now text rest p begins set (view x) is

pub ended_read : {X : Type 0} (view : X → Asked) (found : Option X) (old : Asked) (text : List ℕ) → IsOpen old → BeginsWithNone text
    → MatchOption found ((new : Asked) → Ends old text new → ⊥) (λ x. Ends old text (view x))
    → MatchOption found ((new : Asked) → GoesOn old text new → ⊥) (λ x. GoesOn old text (view x))
ended_read view None old text is_open none is = λ new goes. is new (goes_ends old text is_open none new goes)
ended_read view (Some x) old text is_open none is = ends_go old text is_open (view x) is

pub read_none : (text rest : List ℕ) (pick : Select) (start : Asked) → start ≡ plain pick → Selects text pick rest → (IsOpen start → (new : Asked) → GoesOn start rest new → ⊥)
    → (asked : Asked) → IsQuestion text asked → ⊥
read_none text rest pick start same selects none asked is =
    let P : Asked → Type 0 = λ a. IsOpen a in
    let Q : Asked → Type 0 = λ a. GoesOn a rest asked in
    none (subst P (sym same) (plain_open pick)) asked (subst Q (sym same) ((selects asked).0 is))

pub read_some : (text rest : List ℕ) (pick : Select) (start new result : Asked) → start ≡ plain pick → result ≡ new → Selects text pick rest → (IsOpen start → GoesOn start rest new) → IsQuestion text result
read_some text rest pick start new result same result_is selects goes =
    let P : Asked → Type 0 = λ a. IsOpen a in
    let Q : Asked → Type 0 = λ a. GoesOn a rest new in
    let R : Asked → Type 0 = λ a. IsQuestion text a in
    subst R (sym result_is) ((selects new).1 (subst Q same (goes (subst P (sym same) (plain_open pick)))))
