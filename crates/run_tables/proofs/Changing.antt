-- Lists of changes and of keys, as code goes through them.
use Rattle.std.proofs.Common.{◌≡◌, ℕ, ◌<◌, List, [], ◌∷◌, ◌++◌, length, get_or, refl, sym, ap, subst, ◌∙◌, arith}
use Rattle.std.specs.List.{All, AllByRecursion}
use Rattle.std.proofs.lemmas.List.{length-append}
use Rattle.std.proofs.lemmas.List.Elements.{All-cons, All-nil}
use Rattle.export_core.specs.declared.log.Key.{Key}
use Rattle.core_machine.specs.Enters.{withdrawal}
use Rattle.core_machine.specs.Machine.{State, added, flushed}
use Rattle.core_machine.specs.Rules.{Rules}

get_mid : {X : Type 0} (ys rest : List X) (c d : X) → get_or (ys ++ c ∷ rest) (length ys) d ≡ c
get_mid [] rest c d = refl
get_mid (y ∷ ys) rest c d = get_mid ys rest c d

-- what holds of each one of a list
pub one_of : {X : Type 0} (P : X → Type 0) (all ys rest : List X) (x : X) → All P all → ys ++ x ∷ rest ≡ all → P x
one_of P all ys rest x each e =
    let here : length ys < length all = omega (arith, ap length e, length-append ys (x ∷ rest)) in
    let at : get_or all (length ys) x ≡ x = ap (λ l. get_or l (length ys) x) (sym e) ∙ get_mid ys rest x x in
    subst P at (each (length ys) x here)

pub from_recursion : {X : Type 0} (P Q : X → Type 0) → ((x : X) → P x → Q x) → (xs : List X) → AllByRecursion P xs → All Q xs
from_recursion P Q f [] a = All-nil Q
from_recursion P Q f (x ∷ xs) a = All-cons Q x xs (f x a.0) (from_recursion P Q f xs a.1)

-- one key more
pub flushed_more : (rules : Rules) (table : ℕ) (keys : List Key) (k : Key) (s : State) → flushed rules table (keys ++ k ∷ []) s ≡ added rules table (withdrawal k) (flushed rules table keys s)
flushed_more rules table [] k s = refl
flushed_more rules table (x ∷ keys) k s = flushed_more rules table keys k (added rules table (withdrawal x) s)
