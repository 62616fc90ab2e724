-- What is answered where filters and functions are checked: which refusal is the first (`IsFault`).
-- From: own.
-- Example: of two refusals the first by place.
use Rattle.std.specs.Prelude.{◌≡◌, ℕ, Option, Some, ⊤}
use Rattle.filt_types.specs.declared.refusal.Cause.TheVariants as causes
use Rattle.filt_types.specs.declared.refusal.Refusal.{Refusal}
use Rattle.filt_types.specs.Weight.{capped}
use Rattle.filt_check.specs.declared.fault.TypeFault.{TypeFault}
use Rattle.filt_check.specs.declared.fault.TypeFault.TheVariants as faults

-- The fault tells this first refusal, of what has that weight. Want of memory may come wherever
-- something is checked, and tells nothing.
abbrev pub IsFault : (weight : ℕ) → TypeFault → Option Refusal → Type 0
IsFault w (faults.UnknownName at) first =
    first ≡ Some (record { at = at; cause = causes.UnknownName })
IsFault w (faults.DuplicateName at) first =
    first ≡ Some (record { at = at; cause = causes.DuplicateName })
IsFault w (faults.Mismatch at) first =
    first ≡ Some (record { at = at; cause = causes.Mismatch })
IsFault w (faults.NotAssignable at) first =
    first ≡ Some (record { at = at; cause = causes.NotAssignable })
IsFault w (faults.TooHeavy at weight) first =
    (first ≡ Some (record { at = at; cause = causes.TooHeavy })) × (weight ≡ capped w)
IsFault w (faults.Limit at) first =
    first ≡ Some (record { at = at; cause = causes.Limit })
IsFault w faults.Memory first = ⊤
