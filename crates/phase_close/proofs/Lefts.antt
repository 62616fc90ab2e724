-- What is left of sessions, one after another.
use Rattle.std.proofs.Common.{◌≡◌, Some, None, refl, subst}
use Rattle.std.specs.Prelude.{IfSome, Option}

pub if_each : {A : Type 0} (o : Option A) (P : A → Type 0) → ((x : A) → o ≡ Some x → P x) → IfSome o P
if_each None P f = tt
if_each (Some x) P f = f x refl

pub if_one : {A : Type 0} (o : Option A) (P : A → Type 0) (x : A) → o ≡ Some x → IfSome o P → P x
if_one o P x e p = subst (λ z. IfSome z P) e p
