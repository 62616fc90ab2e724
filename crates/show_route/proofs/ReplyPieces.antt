-- Pieces of a reply, appended one after another.
use Rattle.std.proofs.Common.{◌≡◌, ◌++◌, ◌∷◌, [], ℕ, List, codes, decimal, append_assoc, ap, sym, ◌∙◌, refl}
use Rattle.show_route.specs.Reply.{last_as_text}

pub last_as : (front : List ℕ) (n : ℕ) → last_as_text (front ++ n ∷ []) ≡ codes "AS" ++ decimal n
last_as [] n = refl
last_as (x ∷ []) n = refl
last_as (x ∷ y ∷ rest) n = last_as (y ∷ rest) n

pub last_written :
    (path front : List ℕ) (n : ℕ) (b b1 b2 : List ℕ)
    → path ≡ front ++ n ∷ [] → b1 ≡ b ++ codes "AS" → b2 ≡ b1 ++ decimal n → b2 ≡ b ++ last_as_text path
last_written path front n b b1 b2 is e1 e2 =
    e2 ∙ ap (λ (l : List ℕ). l ++ decimal n) e1
    ∙ append_assoc b (codes "AS") (decimal n)
    ∙ ap (λ (l : List ℕ). b ++ l) (sym (ap last_as_text is ∙ last_as front n))

-- the three groups of a route
pub route_joined :
    (net dest before name after star left pref right path end via b b1 b2 b3 : List ℕ)
    → b1 ≡ b ++ net ++ dest ++ before ++ name ++ after
    → b2 ≡ b1 ++ star ++ left ++ pref ++ right ++ path ++ end
    → b3 ≡ b2 ++ via
    → b3 ≡ b ++ (net ++ dest ++ before ++ name ++ after ++ star ++ left ++ pref ++ right ++ path ++ end ++ via)
route_joined net dest before name after star left pref right path end via b b1 b2 b3 e1 e2 e3 = rw (e3, e2, e1) (simp append_assoc)
