-- The course that entries tell an exporter is the history's, as its channel reads it.
use Rattle.std.proofs.Common.{◌≡◌, ℕ, inl, inr, true, false, List, [], ◌∷◌, ◌++◌, Option, reverse, map, refl, sym, ◌∙◌, ap}
use Rattle.std.specs.Prelude.{◌&&◌, drop, fold, take, if◌then◌else◌}
use Rattle.std.proofs.lemmas.List.{append-nil, append_assoc, length-map, length-reverse, map-append, reverse-append, reverse-reverse, take-append-drop, take-map}
use Rattle.attrs.specs.declared.journal.JEntry.{JEntry}
use Rattle.attrs.specs.declared.route.Route.{Route}
use Rattle.export_core.specs.declared.log.Key.{Key}
use Rattle.export_core.specs.declared.passing.ExportSpec.{ExportSpec}
use Rattle.export_core.specs.Candidates.{heeds, key_of_entry, told_of}
use Rattle.export_core.specs.Histories.{best_after, change_of, course_of as told_course}
use Rattle.export_core.specs.Keys.{same_key}
use Rattle.export_core.proofs.Keys.{key_tells}
use Rattle.core_machine.specs.Histories.{front}
use Rattle.core_machine.specs.Match.{IsSpecOf, TellChosen}
use Rattle.core_machine.specs.Pipes.{candidate, course_of}
use Rattle.core_machine.specs.Pipes as machine
use Rattle.core_machine.specs.Rules.{IsRules, Rules, best_of}
use Rattle.core_machine.proofs.Beginnings.{front_begins}
use Rattle.core_machine.proofs.Contents.{if_false, if_true}
use Rattle.core_machine.proofs.Matching.{heeds_same, key_same, told_behind}
use Rattle.core_machine.proofs.OneChannel.{candidate_stays}
use Rattle.core_machine.proofs.PhaseEnds.{no_route}

module _ (g : Rules) (ok : IsRules g) (c : ℕ) (spec : ExportSpec) (is : IsSpecOf g c spec) (k : Key) where
  abbrev tells : Option Route → JEntry → Option Route
  tells found e = if heeds spec e.num && same_key (key_of_entry spec e) k then told_of spec e else found

  abbrev after : List JEntry → Option Route
  after entries = candidate g c k (reverse (map change_of entries))

  pushed : (done : List JEntry) (r : JEntry) → reverse (map change_of (done ++ r ∷ [])) ≡ change_of r ∷ reverse (map change_of done)
  pushed done r = ap reverse (map-append change_of done (r ∷ [])) ∙ reverse-append (map change_of done) (change_of r ∷ [])

  step : (done : List JEntry) (r : JEntry) → r.best ≡ best_of g r.net (change_of r ∷ reverse (map change_of done)) → tells (after done) r ≡ after (done ++ r ∷ [])
  step done r best =
      let h = reverse (map change_of done) in
      let x = change_of r in
      let own = machine.key_of g c x in
      let eh = heeds_same g c spec is r.num in
      let ek = key_same g c spec is r in
      ap (λ b. if b && same_key (key_of_entry spec r) k then told_of spec r else after done) eh ∙ ap (λ q. if machine.heeds g c r.num && same_key q k then told_of spec r else after done) ek
      ∙ elim (machine.heeds g c r.num) as (λ b. machine.heeds g c r.num ≡ b → (if b && same_key own k then told_of spec r else after done) ≡ candidate g c k (x ∷ h)) [
        | true ↦ λ heed. elim (key_tells own k) [
          | inl w ↦ if_true (same_key own k) (told_of spec r) (after done) w.0 ∙ told_behind g c spec is h r best heed ∙ ap (λ q. candidate g c q (x ∷ h)) w.1
          | inr w ↦ if_false (same_key own k) (told_of spec r) (after done) w.0 ∙ sym (candidate_stays g ok c k x h (λ _ e. w.1 (sym e)))
        ]
        | false ↦ λ heed. sym (candidate_stays g ok c k x h (λ yes_heed. absurd (let bad : false ≡ true = sym heed ∙ yes_heed in cc)))
      ] refl
      ∙ ap (candidate g c k) (sym (pushed done r))

  goes : (entries : List JEntry) → TellChosen g entries → (done rest tail : List JEntry) → entries ≡ done ++ (rest ++ tail) → fold tells (after done) rest ≡ after (done ++ rest)
  goes entries tell done [] tail e = ap after (sym (append-nil done))
  goes entries tell done (r ∷ rest) tail e =
      ap (λ x. fold tells x rest) (step done r (tell done r (rest ++ tail) e))
      ∙ goes entries tell (done ++ r ∷ []) rest tail (e ∙ sym (append_assoc done (r ∷ []) (rest ++ tail)))
      ∙ ap after (append_assoc done (r ∷ []) rest)

  told_at : (entries : List JEntry) → TellChosen g entries → (p : ℕ) → best_after spec k (take p entries) ≡ candidate g c k (front p (reverse (map change_of entries)))
  told_at entries tell p =
      let h = reverse (map change_of entries) in
      let here : front p h ≡ reverse (map change_of (take p entries)) = sym (reverse-reverse (front p h)) ∙ ap reverse (front_begins p h ∙ ap (take p) (reverse-reverse (map change_of entries)) ∙ take-map change_of p entries) in
      ap (λ x. fold tells x (take p entries)) (sym (no_route g ok c k)) ∙ goes entries tell [] (take p entries) (drop p entries) (sym (take-append-drop p entries)) ∙ ap (candidate g c k) (sym here)

pub agree : (g : Rules) (c : ℕ) (spec : ExportSpec) (entries : List JEntry) → IsRules g → IsSpecOf g c spec → TellChosen g entries
    → ((told_course spec entries).len ≡ (course_of g c (reverse (map change_of entries))).len) × ((k : Key) (p : ℕ) → (told_course spec entries).best k p ≡ (course_of g c (reverse (map change_of entries))).best k p)
agree g c spec entries ok is tell = (
  sym (length-reverse (map change_of entries) ∙ length-map entries change_of),
  λ k p. told_at g ok c spec is k entries tell p,
)
