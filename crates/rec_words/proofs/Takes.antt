-- What reading takes from the front of words.
use Rattle.std.proofs.Common.{◌≡◌, ℕ, suc, ◌+◌, ◌<◌, ◌^◌, Bool, true, false, cond, List, ◌∷◌, ◌++◌, get_or, take, drop, Option, Some, None, refl, sym, ap, ◌∙◌, append_assoc, arith, inl, inr}
use Rattle.std.proofs.lemmas.Bool.{cases_lt}
use Rattle.std.proofs.lemmas.List.{length-take, get_or-drop, get_or-take, get_or_past}
use Rattle.std.specs.Prelude.{option_map}
use Rattle.rec_words.specs.Reading.{◌>>=◌}

abbrev pub IsWords : List ℕ → Type 0
IsWords ws = (i : ℕ) → get_or ws i 0 < 2 ^ 64

pub IsWords-drop : (n : ℕ) (ws : List ℕ) → IsWords ws → IsWords (drop n ws)
IsWords-drop n ws h i = rw get_or-drop (h (n + i))

pub IsWords-take : (n : ℕ) (ws : List ℕ) → IsWords ws → IsWords (take n ws)
IsWords-take n ws h i =
    elim (cases_lt i n) [
      | inl lt ↦ rw (get_or-take n ws i 0 lt) (h i)
      | inr le ↦ rw (get_or_past (take n ws) i 0 (omega (arith, length-take n ws))) (omega arith)
    ]

pub IsWords-rest : (w : ℕ) (ws : List ℕ) → IsWords (w ∷ ws) → IsWords ws
IsWords-rest w ws h i = h (suc i)

-- the value of a step that gave one
pub bind_some : {A B : Type 0} (r : Option A) (f : A → Option B) (y : B) → (r >>= f) ≡ Some y → (x : A) × (r ≡ Some x) × (f x ≡ Some y)
bind_some (Some x) f y e = (x, refl, e)
bind_some None f y e = absurd cc

pub guard_some : {A : Type 0} (b : Bool) (r : Option A) (y : A) → cond b r None ≡ Some y → (b ≡ true) × (r ≡ Some y)
guard_some true r y e = (refl, e)
guard_some false r y e = absurd cc

pub unless_some : {A : Type 0} (b : Bool) (r : Option A) (y : A) → cond b None r ≡ Some y → (b ≡ false) × (r ≡ Some y)
unless_some true r y e = absurd cc
unless_some false r y e = (refl, e)

abbrev pub found : {A : Type 0} → A → Option A
found x = Some x

pub some_is : {A : Type 0} (x y : A) → found x ≡ found y → x ≡ y
some_is x y e = cc

pub map_some : {A B : Type 0} (r : Option A) (f : A → B) (y : B) → option_map f r ≡ Some y → (x : A) × (r ≡ Some x) × (f x ≡ y)
map_some (Some x) f y e = (x, refl, some_is (f x) y e)
map_some None f y e = absurd cc

-- what a reader took from the front
pub record Takes (ws front rest : List ℕ) : Type 0 where
  pub parts : ws ≡ front ++ rest
  pub rest_fits : IsWords rest

pub Takes-then : (a x b y c : List ℕ) → Takes a x b → Takes b y c → Takes a (x ++ y) c
Takes-then a x b y c p q = record { parts = p.parts ∙ ap (λ (t : List ℕ). x ++ t) q.parts ∙ sym (append_assoc x y c); rest_fits = q.rest_fits }
