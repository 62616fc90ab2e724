-- The refusal of a configuration stands in one of its statements.
use Rattle.std.proofs.Common.{◌≡◌, ℕ, List, [], ◌∷◌, Contains, Option, Some, None, refl, ap}
use Rattle.conf_ast.specs.Configurations.{Declaration}
use Rattle.conf_names.specs.declared.refusal.Refusal.{Refusal}
use Rattle.conf_names.specs.Known.{Known}
use Rattle.conf_names.specs.Refusals.{first_in}
use Rattle.conf_rules.specs.Statements.{refusals}
use Rattle.conf_check.specs.Behind.{behind_one}
use Rattle.conf_check.specs.Refused.{or_later, refusal_of}
use Rattle.conf_places.specs.Configurations.{IsPlaceIn, places}
use Rattle.conf_places.proofs.Configurations.{declaration_stands, in_its_statement}
use Rattle.conf_places.proofs.Every.{Every, all_of, of_one_among}

none_some : (r : Refusal) → None ≡ Some r → ⊥
none_some r e = cc

one_of : (first later : Option Refusal) (r : Refusal) (A : Type 0) → (first ≡ Some r → A) → (later ≡ Some r → A) → or_later first later ≡ Some r → A
one_of None later r A f g found = g found
one_of (Some s) later r A f g found = f found

in_more : (d : Declaration) (ds : List Declaration) (at : ℕ) → IsPlaceIn ds at → IsPlaceIn (d ∷ ds) at
in_more d ds at h = (d ∷ h.0, h.1, h.2, ap (λ (es : List Declaration). d ∷ es) h.3, h.4)

module _ (among : (rs : List Refusal) (r : Refusal) → first_in None rs ≡ Some r → Contains rs r) where
  pub counted : (known : Known) (d : Declaration) (r : Refusal) → first_in None (refusals known d) ≡ Some r → Contains (places d) r.at
  counted known d r found = of_one_among (λ (s : Refusal). Contains (places d) s.at) (refusals known d) r (in_its_statement known d) (among (refusals known d) r found)

  pub stands_in_one : (known : Known) (ds : List Declaration) (r : Refusal) → refusal_of known ds ≡ Some r → IsPlaceIn ds r.at
  stands_in_one known [] r found = absurd (none_some r found)
  stands_in_one known (d ∷ ds) r found =
      one_of (first_in None (refusals known d)) (refusal_of (behind_one known d) ds) r (IsPlaceIn (d ∷ ds) r.at)
      (λ is. ([], ds, d, refl, counted known d r is)) (λ is. in_more d ds r.at (stands_in_one (behind_one known d) ds r is)) found

  -- what holds of each place of each statement holds of the refusal's
  pub holds_of_it : (P : ℕ → Type 0) (known : Known) (ds : List Declaration) (r : Refusal) → Every (λ d. Every P (places d)) ds → refusal_of known ds ≡ Some r → P r.at
  holds_of_it P known [] r h found = absurd (none_some r found)
  holds_of_it P known (d ∷ ds) r h found =
      one_of (first_in None (refusals known d)) (refusal_of (behind_one known d) ds) r (P r.at)
      (λ is. of_one_among (λ (s : Refusal). P s.at) (refusals known d) r (all_of (λ (s : Refusal). P s.at) (refusals known d) (declaration_stands P known d h.0)) (among (refusals known d) r is))
      (λ is. holds_of_it P (behind_one known d) ds r h.1 is) found
