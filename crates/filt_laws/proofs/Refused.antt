-- Where nothing is refused nothing is refused in a part.
use Rattle.std.proofs.Common.{◌≡◌, ℕ, Bool, true, false, not, ◌&&◌, List, [], ◌∷◌, ◌++◌, Option, Some, unwrap_or, refl, ap}
use Rattle.filt_meaning.specs.declared.value.Sort.{Sort}
use Rattle.filt_meaning.specs.declared.value.Sort.TheVariants as sorts
use Rattle.filt_types.specs.declared.refusal.Cause.{Cause}
use Rattle.filt_types.specs.declared.refusal.Refusal.{Refusal}
use Rattle.filt_types.specs.Refusals.{refused_if}
use Rattle.filt_meaning.specs.Rules.{same_sort}

pub left_nil : (xs ys : List Refusal) → xs ++ ys ≡ [] → xs ≡ []
left_nil [] ys e = refl
left_nil (x ∷ xs) ys e = absurd (cc)

pub right_nil : (xs ys : List Refusal) → xs ++ ys ≡ [] → ys ≡ []
right_nil [] ys e = e
right_nil (x ∷ xs) ys e = absurd (cc)

pub not_refused : (b : Bool) (at : ℕ) (cause : Cause) → refused_if b at cause ≡ [] → b ≡ false
not_refused true at cause e = absurd (cc)
not_refused false at cause e = refl

pub not_false : (b : Bool) → not b ≡ false → b ≡ true
not_false true e = refl
not_false false e = absurd (cc)

pub taken_both : (l r t : Bool) → not l ≡ false → not r ≡ false → (l && r && not t) ≡ false
    → t ≡ true
taken_both true true true p q e = refl
taken_both true true false p q e = absurd (cc)
taken_both true false t p q e = absurd (cc)
taken_both false r t p q e = absurd (cc)

pub some_is : {A : Type 0} (a b : A) → Some a ≡ Some b → a ≡ b
some_is a b e = ap (λ (o : Option _). unwrap_or o a) e

pub same_is : (a b : Sort) → same_sort a b ≡ true → a ≡ b
same_is sorts.Int sorts.Int e = refl
same_is sorts.Bool sorts.Bool e = refl
same_is sorts.Ip sorts.Ip e = refl
same_is sorts.Prefix sorts.Prefix e = refl
same_is sorts.Pair sorts.Pair e = refl
same_is sorts.String sorts.String e = refl
same_is sorts.Path sorts.Path e = refl
same_is sorts.Mask sorts.Mask e = refl
same_is sorts.Clist sorts.Clist e = refl
same_is sorts.IntSet sorts.IntSet e = refl
same_is sorts.PairSet sorts.PairSet e = refl
same_is sorts.PrefixSet sorts.PrefixSet e = refl
same_is sorts.Source sorts.Source e = refl
same_is sorts.Dest sorts.Dest e = refl
same_is sorts.Origin sorts.Origin e = refl
same_is _ _ e = absurd (cc)
