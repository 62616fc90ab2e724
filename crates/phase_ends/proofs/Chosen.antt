-- A history that tells the best route of each net tells the one that the rules choose, since the
-- routes of a net can be listed.
use Rattle.std.proofs.Common.{◌≡◌, ◌≢◌, ℕ, ◌≤◌, inl, inr, true, false, List, [], ◌∷◌, ◌++◌, map, reverse, Option, Some, None, refl, sym, ap, subst, ◌∙◌}
use Rattle.std.specs.Prelude.{◌==◌, ◌&&◌, IfSome, if◌then◌else◌}
use Rattle.std.proofs.lemmas.Bool.Decides.{eqb_tells}
use Rattle.std.proofs.lemmas.List.{append_assoc, reverse-append, reverse-reverse, map-append}
use Rattle.bits_ip.specs.Prefix.{Net, same_net}
use Rattle.attrs.specs.History.{after, empty}
use Rattle.attrs.specs.Selection.{IsBest}
use Rattle.attrs.specs.Table.{AreRoutesOf, HasNone, IsOfSources, route_of}
use Rattle.attrs.specs.declared.journal.JEntry.{JEntry}
use Rattle.attrs.specs.declared.route.Change.{Change}
use Rattle.attrs.specs.declared.route.Route.{Route}
use Rattle.attrs.proofs.Rows.{IsBest-one, first_found, none_found}
use Rattle.export_core.specs.Histories.{TellsBest, change_of}
use Rattle.export_core.proofs.Nets.{net_tells}
use Rattle.core_machine.specs.Histories.{content_of}
use Rattle.core_machine.specs.Match.{TellChosen}
use Rattle.core_machine.specs.Rules.{IsRules, Rules, best_of}
use Rattle.core_machine.proofs.Contents.{content_more, content_past_net, eqb_no, if_false, if_true}
use Rattle.phase_ends.specs.Ends.{AreSourced}

-- ---- the routes without those of one source

abbrev without : ℕ → List Route → List Route
without num [] = []
without num (r ∷ rest) = if r.src.num == num then without num rest else r ∷ without num rest

has_none : (num : ℕ) (routes : List Route) → HasNone num (without num routes)
has_none num [] = tt
has_none num (r ∷ rest) = elim (eqb_tells r.src.num num) [
  | inl w ↦ subst (HasNone num) (sym (if_true (r.src.num == num) (without num rest) (r ∷ without num rest) w.0)) (has_none num rest)
  | inr w ↦ subst (HasNone num) (sym (if_false (r.src.num == num) (without num rest) (r ∷ without num rest) w.0)) (w.1, has_none num rest)
]

keeps_none : (n num : ℕ) (routes : List Route) → HasNone n routes → HasNone n (without num routes)
keeps_none n num [] none = tt
keeps_none n num (r ∷ rest) none = elim (r.src.num == num) as (λ b. HasNone n (if b then without num rest else r ∷ without num rest)) [
  | true ↦ keeps_none n num rest none.1
  | false ↦ (none.0, keeps_none n num rest none.1)
]

keeps_sources : (num : ℕ) (routes : List Route) → IsOfSources routes → IsOfSources (without num routes)
keeps_sources num [] are = tt
keeps_sources num (r ∷ rest) are = elim (r.src.num == num) as (λ b. IsOfSources (if b then without num rest else r ∷ without num rest)) [
  | true ↦ keeps_sources num rest are.1
  | false ↦ (keeps_none r.src.num num rest are.0, keeps_sources num rest are.1)
]

past : (r : Route) (rest : List Route) (n : ℕ) → r.src.num ≢ n → route_of n (r ∷ rest) ≡ route_of n rest
past r rest n other = if_false (r.src.num == n) (Some r) (route_of n rest) (eqb_no r.src.num n other)

finds_others : (n num : ℕ) (routes : List Route) → n ≢ num → route_of n (without num routes) ≡ route_of n routes
finds_others n num [] other = refl
finds_others n num (r ∷ rest) other = elim (eqb_tells r.src.num num) [
  | inl w ↦ ap (route_of n) (if_true (r.src.num == num) (without num rest) (r ∷ without num rest) w.0) ∙ finds_others n num rest other ∙ sym (past r rest n (λ same. other (sym same ∙ w.1)))
  | inr w ↦ ap (route_of n) (if_false (r.src.num == num) (without num rest) (r ∷ without num rest) w.0)
      ∙ elim (r.src.num == n) as (λ b. (if b then Some r else route_of n (without num rest)) ≡ (if b then Some r else route_of n rest)) [ true ↦ refl | false ↦ finds_others n num rest other ]
]

-- ---- a net's routes behind a history

content_here : (x : Change) (h : List Change) (net : Net) (num : ℕ) → same_net net x.net ≡ true → content_of (x ∷ h) net num ≡ (if num == x.num then x.new else content_of h net num)
content_here x h net num e = content_more x h net num ∙ ap (λ b. if b && (num == x.num) then x.new else content_of h net num) e

with_new : (x : Change) (h : List Change) (net : Net) (new : Option Route) → same_net net x.net ≡ true → x.new ≡ new → IfSome new (λ route. route.src.num ≡ x.num) → (routes : List Route) → AreRoutesOf (content_of h) net routes
    → (all : List Route) × AreRoutesOf (content_of (x ∷ h)) net all
with_new x h net None e is sourced routes are = (
  without x.num routes,
  record {
    sources = keeps_sources x.num routes are.sources;
    are = λ num. elim (eqb_tells num x.num) [
      | inl w ↦ subst (λ n. route_of n (without x.num routes) ≡ None) (sym w.1) (none_found x.num (without x.num routes) (has_none x.num routes))
          ∙ sym is ∙ sym (content_here x h net num e ∙ if_true (num == x.num) x.new (content_of h net num) w.0)
      | inr w ↦ finds_others num x.num routes w.1 ∙ are.are num ∙ sym (content_here x h net num e ∙ if_false (num == x.num) x.new (content_of h net num) w.0)
    ];
  },
)
with_new x h net (Some r) e is sourced routes are = (
  r ∷ without x.num routes,
  record {
    sources = (subst (λ n. HasNone n (without x.num routes)) (sym sourced) (has_none x.num routes), keeps_sources x.num routes are.sources);
    are = λ num. elim (eqb_tells num x.num) [
      | inl w ↦ subst (λ n. route_of n (r ∷ without x.num routes) ≡ Some r) (sourced ∙ sym w.1) (first_found r (without x.num routes))
          ∙ sym is ∙ sym (content_here x h net num e ∙ if_true (num == x.num) x.new (content_of h net num) w.0)
      | inr w ↦ past r (without x.num routes) num (λ same. w.1 (sym same ∙ sourced)) ∙ finds_others num x.num routes w.1 ∙ are.are num
          ∙ sym (content_here x h net num e ∙ if_false (num == x.num) x.new (content_of h net num) w.0)
    ];
  },
)

listed : (h : List Change) (net : Net) → AreSourced h → (routes : List Route) × AreRoutesOf (content_of h) net routes
listed [] net sourced = ([], record { sources = tt; are = λ num. refl })
listed (x ∷ h) net sourced =
    let rest = listed h net sourced.1 in
    elim (net_tells net x.net) [
      | inl w ↦ with_new x h net x.new w.0 refl sourced.0 rest.0 rest.1
      | inr w ↦ (rest.0, record { sources = rest.1.sources; are = λ num. rest.1.are num ∙ sym (content_past_net x h net num (λ same. w.1 (sym same))) })
    ]

-- ---- what is best is what is chosen

sourced_front : (later earlier : List Change) → AreSourced (later ++ earlier) → AreSourced earlier
sourced_front [] earlier sourced = sourced
sourced_front (x ∷ later) earlier sourced = sourced_front later earlier sourced.1

history_of : (entries : List JEntry) → after empty (map change_of entries) ≡ content_of (reverse (map change_of entries))
history_of entries = ap (after empty) (sym (reverse-reverse (map change_of entries)))

backwards : (earlier : List JEntry) (read : JEntry) → reverse (map change_of (earlier ++ read ∷ [])) ≡ change_of read ∷ reverse (map change_of earlier)
backwards earlier read = ap reverse (map-append change_of earlier (read ∷ [])) ∙ reverse-append (map change_of earlier) (change_of read ∷ [])

pub tells_chosen : (g : Rules) (entries : List JEntry) → IsRules g → TellsBest entries → AreSourced (reverse (map change_of entries))
    → ((front back : List JEntry) → entries ≡ front ++ back → (net : Net) (num : ℕ) → g.protocols ≤ num → content_of (reverse (map change_of front)) net num ≡ None) → TellChosen g entries
tells_chosen g entries ok tells sourced few earlier read later e =
    let h = change_of read ∷ reverse (map change_of earlier) in
    let whole = earlier ++ read ∷ [] in
    let split : entries ≡ whole ++ later = e ∙ sym (append_assoc earlier (read ∷ []) later) in
    let part : AreSourced (reverse (map change_of whole)) = sourced_front (reverse (map change_of later)) (reverse (map change_of whole))
    (subst AreSourced (ap (λ l. reverse (map change_of l)) split ∙ ap reverse (map-append change_of whole later) ∙ reverse-append (map change_of whole) (map change_of later)) sourced) in
    let routes = listed (reverse (map change_of whole)) read.net part in
    let told : IsBest routes.0 read.best = tells earlier read later e routes.0 (subst (λ c. AreRoutesOf c read.net routes.0) (sym (history_of whole)) routes.1) in
    let chosen : IsBest routes.0 (g.choose (content_of (reverse (map change_of whole)) read.net)) = ok.best (content_of (reverse (map change_of whole))) read.net routes.0 (λ num w. few whole later split read.net num w) routes.1 in
    IsBest-one routes.0 read.best (g.choose (content_of (reverse (map change_of whole)) read.net)) told chosen ∙ ap (λ l. best_of g read.net l) (backwards earlier read)
