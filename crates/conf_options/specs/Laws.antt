-- What the laws say, for options of any sort: `set` is what one of them sets, `start` what none of
-- them comes to, `kind` the kind of an option.
use Rattle.std.specs.Prelude.{◌≡◌, ◌≢◌, All, List, ◌∷◌, ◌++◌, Option, None, fold}

-- An option behind which none of its kind comes counts, whatever stands before it: the options come
-- to what the others come to, with this one set.
abbrev pub LastCounts : {O S K : Type 0} → (set : O → S → O) → (start : O) → (kind : S → K) → Type 0
LastCounts {O} {S} {K} set start kind = (front back : List S) (s : S)
    → All (λ (t : S). kind t ≢ kind s) back
    → fold set start (front ++ s ∷ back) ≡ set (fold set start (front ++ back)) s

-- Two neighbours of different kinds may change places.
abbrev pub ChangePlaces : {O S K : Type 0} → (set : O → S → O) → (start : O) → (kind : S → K)
    → Type 0
ChangePlaces {O} {S} {K} set start kind = (front back : List S) (s t : S) → kind s ≢ kind t
    → fold set start (front ++ s ∷ t ∷ back) ≡ fold set start (front ++ t ∷ s ∷ back)

-- Where none is of a kind its field has nothing.
abbrev pub NoneIsNone : {O S K A : Type 0} → (set : O → S → O) → (start : O) → (kind : S → K)
    → K → (field : O → Option A) → Type 0
NoneIsNone {O} {S} {K} {A} set start kind k field = (ss : List S)
    → All (λ (t : S). kind t ≢ k) ss → field (fold set start ss) ≡ None
