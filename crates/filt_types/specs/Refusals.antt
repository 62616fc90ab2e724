-- The first refusal of all that there are (`first_in`): the one at the least place, at one place
-- the one with the least number (C4 to C8 and C14 of the kinds of refusals of a configuration).
-- From: own.
-- Example: of an unknown name and a name over 64 bytes at one place the first.
use Rattle.std.specs.Prelude.{ℕ, ◌==◌, Bool, true, false, ◌&&◌, ◌||◌, nat_lt, if◌then◌else◌, List}
use Rattle.std.specs.Prelude.{[], ◌∷◌, Option, Some, None}
use Rattle.filt_types.specs.declared.refusal.Cause.{Cause}
use Rattle.filt_types.specs.declared.refusal.Cause.TheVariants as causes
use Rattle.filt_types.specs.declared.refusal.Refusal.{Refusal}

abbrev pub number_of : Cause → ℕ
number_of causes.UnknownName = 4
number_of causes.DuplicateName = 5
number_of causes.Mismatch = 6
number_of causes.NotAssignable = 7
number_of causes.TooHeavy = 8
number_of causes.Limit = 14

abbrev pub precedes : Refusal → Refusal → Bool
precedes a b =
    nat_lt a.at b.at || ((a.at == b.at) && nat_lt (number_of a.cause) (number_of b.cause))

-- the earlier one, the one found before where neither is
abbrev pub first_of : Option Refusal → Refusal → Option Refusal
first_of None r = Some r
first_of (Some found) r = if precedes r found then Some r else Some found

-- the first of these and of one found before
abbrev pub first_in : Option Refusal → List Refusal → Option Refusal
first_in found [] = found
first_in found (r ∷ rs) = first_in (first_of found r) rs

-- a refusal of this place where something holds
abbrev pub refused_if : Bool → ℕ → Cause → List Refusal
refused_if true at cause = record { at = at; cause = cause } ∷ []
refused_if false at cause = []
