-- Folds, one item more.
use Rattle.std.proofs.Common.{◌≡◌, ◌≢◌, ℕ, ◌+◌, ◌<◌, ◌≤◌, All, List, [], ◌∷◌, ◌++◌, Option, None, length, map, take, get_or, fold, refl, sym, ap, ◌∙◌}
use Rattle.std.proofs.lemmas.List.{take_all, take_more}
use Rattle.std.proofs.lemmas.List.Elements.{All-head, All-tail}
use Rattle.conf_options.specs.Laws.{ChangePlaces, LastCounts, NoneIsNone}

-- ---- loops over what a list is mapped to

module _ {O S X : Type 0} (set : O → S → O) (of : X → S) where
  one_more : (o : O) (xs : List X) (x : X) → fold set o (map of (xs ++ x ∷ [])) ≡ set (fold set o (map of xs)) (of x)
  one_more o [] x = refl
  one_more o (y ∷ xs) x = one_more (set o (of y)) xs x

  pub turn : (start : O) (xs : List X) (i : ℕ) (x : X) (a b : O) → i < length xs → x ≡ get_or xs i x → a ≡ fold set start (map of (take i xs)) → b ≡ set a (of x) → b ≡ fold set start (map of (take (i + 1) xs))
  turn start xs i x a b lt is before new =
      new ∙ ap (λ (o : O). set o (of x)) before ∙ sym (one_more start (take i xs) x)
      ∙ ap (λ (ys : List X). fold set start (map of ys)) (ap (λ (y : X). take i xs ++ y ∷ []) is ∙ sym (take_more xs i x lt))

  pub ends : (start : O) (xs : List X) (i : ℕ) (a : O) → length xs ≤ i → a ≡ fold set start (map of (take i xs)) → a ≡ fold set start (map of xs)
  ends start xs i a le before = before ∙ ap (λ (ys : List X). fold set start (map of ys)) (take_all i xs le)

-- ---- the last of a kind

module _ {O S K : Type 0} (set : O → S → O) (kind : S → K) where
  -- Options of different kinds are set in either order.
  abbrev pub AreApart : Type 0
  AreApart = (o : O) (s t : S) → kind s ≢ kind t → set (set o s) t ≡ set (set o t) s

  joined : (o : O) (xs ys : List S) → fold set o (xs ++ ys) ≡ fold set (fold set o xs) ys
  joined o [] ys = refl
  joined o (x ∷ xs) ys = joined (set o x) xs ys

  moved : AreApart → (o : O) (s : S) (back : List S) → All (λ (t : S). kind t ≢ kind s) back → fold set (set o s) back ≡ set (fold set o back) s
  moved apart o s [] h = refl
  moved apart o s (t ∷ back) h =
      ap (λ (x : O). fold set x back) (sym (apart o t s (All-head (λ (t : S). kind t ≢ kind s) t back h)))
      ∙ moved apart (set o t) s back (All-tail (λ (t : S). kind t ≢ kind s) t back h)

  pub last_counts : AreApart → (start : O) → LastCounts set start kind
  last_counts apart start front back s h =
      joined start front (s ∷ back) ∙ moved apart (fold set start front) s back h
      ∙ ap (λ (o : O). set o s) (sym (joined start front back))

  pub change_places : AreApart → (start : O) → ChangePlaces set start kind
  change_places apart start front back s t differ =
      joined start front (s ∷ t ∷ back) ∙ ap (λ (o : O). fold set o back) (apart (fold set start front) s t differ)
      ∙ sym (joined start front (t ∷ s ∷ back))

  module _ {A : Type 0} (k : K) (field : O → Option A) where
    -- An option of another kind leaves the field.
    abbrev pub IsKept : Type 0
    IsKept = (o : O) (s : S) → kind s ≢ k → field (set o s) ≡ field o

    kept : IsKept → (o : O) (ss : List S) → All (λ (t : S). kind t ≢ k) ss → field (fold set o ss) ≡ field o
    kept keeps o [] h = refl
    kept keeps o (s ∷ ss) h =
        kept keeps (set o s) ss (All-tail (λ (t : S). kind t ≢ k) s ss h)
        ∙ keeps o s (All-head (λ (t : S). kind t ≢ k) s ss h)

    pub none_is_none : IsKept → (start : O) → field start ≡ None → NoneIsNone set start kind k field
    none_is_none keeps start none ss h = kept keeps start ss h ∙ none
