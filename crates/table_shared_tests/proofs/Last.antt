-- The last element of a list.
use Rattle.std.proofs.Common.{◌≡◌, ℕ, List, [], ◌∷◌, ◌++◌, length, Option, Some, None, slice_get, refl, ap, ◌∙◌}
use Rattle.std.specs.Prelude.{IfSome, option_to_list}

get_last : {X : Type 0} (xs : List X) (x : X) → slice_get (xs ++ x ∷ []) (length xs) ≡ Some x
get_last [] x = refl
get_last (y ∷ ys) x = get_last ys x

-- what holds of each element holds of the last one, where there is one
pub last_some : {X : Type 0} (P : X → Type 0) (xs ys : List X) (r : Option X) → xs ≡ ys ++ option_to_list r → ((k : ℕ) (x : X) → slice_get xs k ≡ Some x → P x) → IfSome r P
last_some P xs ys None is h = tt
last_some P xs ys (Some x) is h = h (length ys) x (ap (λ l. slice_get l (length ys)) is ∙ get_last ys x)
