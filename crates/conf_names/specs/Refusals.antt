-- The first refusal of all that there are (`first_in`): the one at the least place, at one place
-- the one with the least number (`number_of`: C1 to C15, as the README has them); what a filter's
-- refusals are as kinds (`kind_of`).
-- From: own; the kinds are of BIRD User's Guide, "Configuration".
-- Example: `ipv4 table t; ipv4 table t;` is refused at 1:26 as C5; a name over 64 bytes that is
-- declared twice as C5.
use Rattle.std.specs.Prelude.{ℕ, ◌==◌, Bool, true, false, ◌&&◌, ◌||◌, nat_lt, if◌then◌else◌, List, [], ◌∷◌, map, Option, Some, None}
use Rattle.conf_ast.specs.declared.kind.ConfKind.{ConfKind}
use Rattle.conf_ast.specs.declared.kind.ConfKind.TheVariants as kinds
use Rattle.filt_types.specs.declared.refusal.Cause.{Cause}
use Rattle.filt_types.specs.declared.refusal.Cause.TheVariants as causes
use Rattle.filt_types.specs.declared.refusal.Refusal.{Refusal as FilterRefusal}
use Rattle.conf_names.specs.declared.refusal.Refusal.{Refusal}

abbrev pub number_of : ConfKind → ℕ
number_of kinds.Lex = 1
number_of kinds.Syntax = 2
number_of kinds.TooDeep = 3
number_of kinds.UnknownName = 4
number_of kinds.DuplicateName = 5
number_of kinds.TypeMismatch = 6
number_of kinds.NotAssignable = 7
number_of kinds.TooHeavy = 8
number_of kinds.Nettype = 9
number_of kinds.PolicyMissing = 10
number_of kinds.MedRule = 11
number_of kinds.PipeCycle = 12
number_of kinds.DuplicateStatic = 13
number_of kinds.Limit = 14
number_of kinds.Unsupported = 15

abbrev pub precedes : Refusal → Refusal → Bool
precedes a b =
    nat_lt a.at b.at || ((a.at == b.at) && nat_lt (number_of a.kind) (number_of b.kind))

-- the earlier one, the one found before where neither is
abbrev pub first_of : Option Refusal → Refusal → Option Refusal
first_of None r = Some r
first_of (Some found) r = if precedes r found then Some r else Some found

-- the first of these and of one found before
abbrev pub first_in : Option Refusal → List Refusal → Option Refusal
first_in found [] = found
first_in found (r ∷ rs) = first_in (first_of found r) rs

-- a refusal of this place where something holds
abbrev pub refused_if : Bool → ℕ → ConfKind → List Refusal
refused_if true at kind = record { at = at; kind = kind } ∷ []
refused_if false at kind = []

-- ---- what is refused in filters

abbrev pub kind_of : Cause → ConfKind
kind_of causes.UnknownName = kinds.UnknownName
kind_of causes.DuplicateName = kinds.DuplicateName
kind_of causes.Mismatch = kinds.TypeMismatch
kind_of causes.NotAssignable = kinds.NotAssignable
kind_of causes.TooHeavy = kinds.TooHeavy
kind_of causes.Limit = kinds.Limit

abbrev pub of_filter : FilterRefusal → Refusal
of_filter r = record { at = r.at; kind = kind_of r.cause }

abbrev pub of_filters : List FilterRefusal → List Refusal
of_filters rs = map of_filter rs
