-- Which fault tells which refusal.
use Rattle.std.proofs.Common.{◌≡◌, ℕ, ◌⊎◌, inl, inr, Option, Some, None, refl, sym, ap, ◌∙◌, subst}
use Rattle.std.specs.Option.{unwrap_or}
use Rattle.std.proofs.lemmas.Option.{none-some}
use Rattle.filt_types.specs.declared.refusal.Cause.{Cause}
use Rattle.filt_types.specs.declared.refusal.Cause.TheVariants as causes
use Rattle.filt_types.specs.declared.refusal.Refusal.{Refusal}
use Rattle.filt_types.specs.Weight.{capped}
use Rattle.filt_check.specs.Answers.{IsFault}
use Rattle.filt_check.specs.declared.fault.TypeFault.{TypeFault}
use Rattle.filt_check.specs.declared.fault.TypeFault.TheVariants as faults

same : {a b : Refusal} → Some a ≡ Some b → a ≡ b
same {a = a} e = ap (λ (o : Option Refusal). unwrap_or o a) e

abbrev of_cause : ℕ → ℕ → Cause → TypeFault
of_cause w at causes.UnknownName = faults.UnknownName at
of_cause w at causes.DuplicateName = faults.DuplicateName at
of_cause w at causes.Mismatch = faults.Mismatch at
of_cause w at causes.NotAssignable = faults.NotAssignable at
of_cause w at causes.TooHeavy = faults.TooHeavy at (capped w)
of_cause w at causes.Limit = faults.Limit at

abbrev told : ℕ → Refusal → TypeFault
told w r = of_cause w r.at r.cause

-- of a weight that is told
pub tells : (w weight at : ℕ) → weight ≡ capped w → IsFault w (faults.TooHeavy at weight) (Some (record { at = at; cause = causes.TooHeavy }))
tells w weight at is = (refl, is)

fault_by : (w at : ℕ) (c : Cause) → IsFault w (of_cause w at c) (Some (record { at = at; cause = c }))
fault_by w at causes.UnknownName = refl
fault_by w at causes.DuplicateName = refl
fault_by w at causes.Mismatch = refl
fault_by w at causes.NotAssignable = refl
fault_by w at causes.TooHeavy = (refl, refl)
fault_by w at causes.Limit = refl

pub some_fault : (w : ℕ) (r : Refusal) → (fault : TypeFault) × IsFault w fault (Some r)
some_fault w r = (told w r, fault_by w r.at r.cause)

is_told : (w : ℕ) (a : TypeFault) (r : Refusal) → IsFault w a (Some r) → (a ≡ faults.Memory) ⊎ (a ≡ told w r)
is_told w (faults.UnknownName at) r h = inr (ap (told w) (sym (same h)))
is_told w (faults.DuplicateName at) r h = inr (ap (told w) (sym (same h)))
is_told w (faults.Mismatch at) r h = inr (ap (told w) (sym (same h)))
is_told w (faults.NotAssignable at) r h = inr (ap (told w) (sym (same h)))
is_told w (faults.TooHeavy at weight) r h = inr (ap (λ (n : ℕ). faults.TooHeavy at n) h.1 ∙ ap (told w) (sym (same h.0)))
is_told w (faults.Limit at) r h = inr (ap (told w) (sym (same h)))
is_told w faults.Memory r h = inl refl

both : {a b c : TypeFault} → (a ≡ faults.Memory) ⊎ (a ≡ c) → (b ≡ faults.Memory) ⊎ (b ≡ c) → (a ≡ faults.Memory) ⊎ ((b ≡ faults.Memory) ⊎ (a ≡ b))
both (inl p) q = inl p
both (inr p) (inl q) = inr (inl q)
both (inr p) (inr q) = inr (inr (p ∙ sym q))

pub one_fault : (w : ℕ) (a b : TypeFault) (r : Refusal) → IsFault w a (Some r) → IsFault w b (Some r) → (a ≡ faults.Memory) ⊎ ((b ≡ faults.Memory) ⊎ (a ≡ b))
one_fault w a b r p q = both (is_told w a r p) (is_told w b r q)

pub no_fault : (w : ℕ) (a : TypeFault) → IsFault w a None → a ≡ faults.Memory
no_fault w (faults.UnknownName at) h = absurd (none-some _ h)
no_fault w (faults.DuplicateName at) h = absurd (none-some _ h)
no_fault w (faults.Mismatch at) h = absurd (none-some _ h)
no_fault w (faults.NotAssignable at) h = absurd (none-some _ h)
no_fault w (faults.TooHeavy at weight) h = absurd (none-some _ h.0)
no_fault w (faults.Limit at) h = absurd (none-some _ h)
no_fault w faults.Memory h = refl

-- what is told of a refusal is told of the first of all, where it is that
pub told_first : (w : ℕ) (fault : TypeFault) (r : Refusal) (first : Option Refusal) → Some r ≡ first → IsFault w fault (Some r) → IsFault w fault first
told_first w fault r first is h = subst (λ (o : Option Refusal). IsFault w fault o) is h
