-- Lists that a loop takes from the front of one and puts at the end of another.
use Rattle.std.proofs.Common.{◌≡◌, ℕ, suc, List, [], ◌∷◌, ◌++◌, map, sym, ap, subst, ◌∙◌, arith, append_assoc}
use Rattle.std.specs.List.{All}
use Rattle.std.proofs.lemmas.List.{map-append}
use Rattle.std.proofs.lemmas.List.Elements.{All-append, All-cons, All-nil}

module _ {X : Type 0} (P : X → Type 0) where
  pub all_first : (x : X) (rest whole : List X) → whole ≡ x ∷ rest → All P whole → P x
  all_first x rest whole e all = subst (All P) e all 0 x (omega arith)

  pub all_rest : (x : X) (rest whole : List X) → whole ≡ x ∷ rest → All P whole → All P rest
  all_rest x rest whole e all k d less = subst (All P) e all (suc k) d (omega (arith, less))

  pub all_more : (xs more : List X) (x : X) → more ≡ xs ++ x ∷ [] → P x → All P xs → All P more
  all_more xs more x e p all = subst (All P) (sym e) (All-append P xs (x ∷ []) all (All-cons P x [] p (All-nil P)))

-- what is told of the done and of the rest stays the same
pub told_on : {X Y : Type 0} (f : X → ℕ) (h : Y → ℕ) (done more : List X) (x : X) (whole rest : List Y) (y : Y) (told : List ℕ) → more ≡ done ++ x ∷ [] → whole ≡ y ∷ rest → f x ≡ h y → map f done ++ map h whole ≡ told → map f more ++ map h rest ≡ told
told_on f h done more x whole rest y told e was same is =
    ap (λ z. map f z ++ map h rest) e
    ∙ ap (λ z. z ++ map h rest) (map-append f done (x ∷ []))
    ∙ ap (λ z. map f done ++ z ∷ [] ++ map h rest) same
    ∙ append_assoc (map f done) (h y ∷ []) (map h rest)
    ∙ ap (λ z. map f done ++ map h z) (sym was)
    ∙ is
