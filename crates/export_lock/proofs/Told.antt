-- Histories that tell the best routes, and what their content is at their end.
use Rattle.std.proofs.Common.{◌≡◌, ◌⊎◌, inl, inr, ℕ, suc, List, [], ◌∷◌, ◌++◌, map, take, length, false, refl, sym, ap, ◌∙◌, subst, append-nil, append_assoc}
use Rattle.std.specs.Prelude.{⊤}
use Rattle.std.proofs.lemmas.List.{map-append}
use Rattle.attrs.specs.History.{Content, after, content_at, empty}
use Rattle.attrs.specs.Table.{IsBestOf, Shows}
use Rattle.attrs.specs.declared.journal.JEntry.{JEntry}
use Rattle.attrs.specs.declared.route.Row.{Row}
use Rattle.export_core.specs.Candidates.{best_in}
use Rattle.export_core.specs.Histories.{TellsBest, best_after, change_of, course_of}
use Rattle.export_core.specs.declared.log.Key.{Key}
use Rattle.export_core.specs.declared.passing.ExportSpec.{ExportSpec}
use Rattle.table_shared.proofs.Records.{after_both}

module _ {A : Type 0} where
  -- a place of a list that is one longer is the last, or one of the shorter's
  place_of_last : (xs : List A) (x : A) (front : List A) (e : A) (back : List A) → xs ++ x ∷ [] ≡ front ++ e ∷ back → ((front ≡ xs) × (e ≡ x)) ⊎ ((more : List A) × (xs ≡ front ++ e ∷ more))
  place_of_last [] x [] e back is = inl (refl, (let same : x ∷ [] ≡ e ∷ back = is in cc))
  place_of_last [] x (f ∷ front) e back is = absurd (no_front front e back (let rest : [] ≡ front ++ e ∷ back = (let same : x ∷ [] ≡ f ∷ (front ++ e ∷ back) = is in cc) in rest)) where
    no_front : (front : List A) (e : A) (back : List A) → [] ≡ front ++ e ∷ back → ⊥
    no_front [] e back is = cc
    no_front (f ∷ front) e back is = cc
  place_of_last (y ∷ xs) x [] e back is = inr (xs, (let first : y ≡ e = (let same : y ∷ (xs ++ x ∷ []) ≡ e ∷ back = is in cc) in ap (λ z. z ∷ xs) first))
  place_of_last (y ∷ xs) x (f ∷ front) e back is =
      let first : y ≡ f = (let same : y ∷ (xs ++ x ∷ []) ≡ f ∷ (front ++ e ∷ back) = is in cc) in
      let rest : xs ++ x ∷ [] ≡ front ++ e ∷ back = (let same : y ∷ (xs ++ x ∷ []) ≡ f ∷ (front ++ e ∷ back) = is in cc) in
      elim (place_of_last xs x front e back rest) [
        | inl w ↦ inl ((λ i. sym first i ∷ w.0 i), w.1)
        | inr w ↦ inr (w.0, (λ i. first i ∷ w.1 i))
      ]

-- with one entry more that tells the best
tells_more : (history : List JEntry) (s : JEntry) → TellsBest history → IsBestOf (after empty (map change_of (history ++ s ∷ []))) s.net s.best → TellsBest (history ++ s ∷ [])
tells_more history s tells best front e back is = elim (place_of_last history s front e back is) [
  | inl w ↦
      subst (λ (h : List JEntry). IsBestOf (after empty (map change_of (h ++ e ∷ []))) e.net e.best) (sym w.0)
      (subst (λ (x : JEntry). IsBestOf (after empty (map change_of (history ++ x ∷ []))) x.net x.best) (sym w.1) best)
  | inr w ↦ tells front e w.0 w.1
]

-- each tells the best behind it, where those before it leave this content
abbrev pub AllTell : Content → List JEntry → Type 0
AllTell content [] = ⊤
AllTell content (s ∷ said) = IsBestOf (after content (change_of s ∷ [])) s.net s.best × AllTell (after content (change_of s ∷ [])) said

content_next : (history : List JEntry) (said : List JEntry) → after empty (map change_of (history ++ said)) ≡ after (after empty (map change_of history)) (map change_of said)
content_next history said = ap (after empty) (map-append change_of history said) ∙ after_both empty (map change_of history) (map change_of said)

pub tells_on : (history said : List JEntry) (content : Content) → content ≡ after empty (map change_of history) → TellsBest history → AllTell content said → TellsBest (history ++ said)
tells_on history [] content is tells all = subst TellsBest (sym (append-nil history)) tells
tells_on history (s ∷ said) content is tells all =
    let next : after content (change_of s ∷ []) ≡ after empty (map change_of (history ++ s ∷ [])) =
    ap (λ (c : Content). after c (change_of s ∷ [])) is ∙ sym (content_next history (s ∷ [])) in
    subst TellsBest (append_assoc history (s ∷ []) said)
    (tells_on (history ++ s ∷ []) said (after content (change_of s ∷ [])) next
    (tells_more history s tells (subst (λ (c : Content). IsBestOf c s.net s.best) next all.0)) all.1)

take_front : {A : Type 0} (xs ys : List A) → take (length xs) (xs ++ ys) ≡ xs
take_front [] ys = refl
take_front (x ∷ xs) ys = ap (λ l. x ∷ l) (take_front xs ys)

take_whole : {A : Type 0} (xs : List A) → take (length xs) xs ≡ xs
take_whole [] = refl
take_whole (x ∷ xs) = ap (λ l. x ∷ l) (take_whole xs)

map_length : (f : List JEntry) → length (map change_of f) ≡ length f
map_length [] = refl
map_length (s ∷ f) = ap suc (map_length f)

-- rows that show what a history leaves tell what each longer one has of a key at its end
pub head_told : (rows_tell : (spec : ExportSpec) (history : List JEntry) (rows : List Row) (p : ℕ) (k : Key) → (spec.every ≡ false → TellsBest history) → Shows rows (content_at p (map change_of history)) → (course_of spec history).best k p ≡ best_in spec k rows)
    → (spec : ExportSpec) (before said more : List JEntry) (content : Content) (rows : List Row) (k : Key) → content ≡ after empty (map change_of before) → TellsBest before → AllTell content said → Shows rows (after content (map change_of said))
    → (course_of spec ((before ++ said) ++ more)).best k (length (before ++ said)) ≡ best_in spec k rows
head_told rows_tell spec before said more content rows k is tells all shows =
    let h = before ++ said in
    let here : after content (map change_of said) ≡ content_at (length h) (map change_of h) =
    ap (λ (c : Content). after c (map change_of said)) is
    ∙ sym (content_next before said)
    ∙ ap (after empty) (sym (take_whole (map change_of h)))
    ∙ ap (λ n. after empty (take n (map change_of h))) (map_length h) in
    ap (best_after spec k) (take_front h more ∙ sym (take_whole h))
    ∙ rows_tell spec h rows (length h) k (λ _. tells_on before said content is tells all) (subst (Shows rows) here shows)
