-- What a history's course tells of a table's content, and what rows that show it tell.
use Rattle.std.proofs.Common.{◌≡◌, ◌≢◌, ◌⊎◌, ℕ, zero, suc, inl, inr, Bool, true, false, not, List, [], ◌∷◌, ◌++◌, Option, Some, None, refl, sym, ◌∙◌, ap, subst, arith, take, map, cond}
use Rattle.std.specs.Prelude.{◌&&◌, ◌||◌, ◌==◌, if◌then◌else◌, unwrap_or, slice_get}
use Rattle.std.proofs.lemmas.List.{map-append, append_assoc}
use Rattle.std.proofs.lemmas.Bool.Decides.{eqb_tells}
use Rattle.bits_ip.specs.Prefix.{Net, same_net}
use Rattle.attrs.specs.declared.journal.JEntry.{JEntry}
use Rattle.attrs.specs.declared.route.Route.{Route}
use Rattle.attrs.specs.declared.route.Row.{Row}
use Rattle.attrs.specs.History.{Content, after, empty, content_at, last_of}
use Rattle.attrs.specs.Selection.{IsBest}
use Rattle.attrs.specs.Table.{AreRows, IsInOrder, IsOfSources, Shows, route_of, routes_of}
use Rattle.attrs.proofs.Histories.{last_of-push}
use Rattle.attrs.proofs.Rows.{IsBest-one}
use Rattle.attrs.proofs.Shown.{routes_below}
use Rattle.export_core.specs.declared.log.Key.{Key}
use Rattle.export_core.specs.declared.passing.ExportSpec.{ExportSpec}
use Rattle.export_core.specs.Candidates.{among, best_in, candidate_of, first_of, has_num, heeds, key_of_entry}
use Rattle.export_core.specs.Histories.{IsBestOf, TellsBest, best_after, change_of, course_of}
use Rattle.export_core.specs.Keys.{key_of, same_key}
use Rattle.export_core.proofs.Courses.{best_next}
use Rattle.export_core.proofs.Keys.{key_tells, same_key_flip, skip_if, take_if}
use Rattle.export_core.proofs.Nets.{net_tells, same_net_flip}

false_true : false ≡ true → ⊥
false_true e = cc

append_none : {X : Type 0} (xs : List X) → xs ++ [] ≡ xs
append_none [] = refl
append_none (x ∷ xs) = ap (λ l. x ∷ l) (append_none xs)

take_map : (p : ℕ) (entries : List JEntry) → take p (map change_of entries) ≡ map change_of (take p entries)
take_map zero entries = refl
take_map (suc p) [] = refl
take_map (suc p) (e ∷ entries) = ap (λ l. change_of e ∷ l) (take_map p entries)

-- what holds of no entry, and then of one more of the history's, holds of its front
module _ (history : List JEntry) (P : List JEntry → Type 0) (next : (front : List JEntry) (e : JEntry) (back : List JEntry) → history ≡ front ++ e ∷ back → P front → P (front ++ e ∷ [])) where
  by_front : (front back : List JEntry) → history ≡ front ++ back → P front → (p : ℕ) → P (front ++ take p back)
  by_front front back e told zero = subst P (sym (append_none front)) told
  by_front front [] e told (suc p) = subst P (sym (append_none front)) told
  by_front front (x ∷ back) e told (suc p) =
      subst P (append_assoc front (x ∷ []) (take p back))
      (by_front (front ++ x ∷ []) back (e ∙ sym (append_assoc front (x ∷ []) back)) (next front x back e told) p)

-- one more change
one_more : (net : Net) (num : ℕ) (front : List JEntry) (e : JEntry) → after empty (map change_of (front ++ e ∷ [])) net num ≡ unwrap_or (cond (same_net net e.net && (num == e.num)) (Some e.new) (last_of net num (map change_of front))) None
one_more net num front e =
    ap (λ cs. after empty cs net num) (map-append change_of front (e ∷ []))
    ∙ ap (λ o. unwrap_or o None) (last_of-push net num (map change_of front) (change_of e))

-- ---- the routes of each source

module _ (spec : ExportSpec) (every : spec.every ≡ true) (k : Key) (has : has_num spec k.num ≡ true) where
  passes : among k.num spec.sources ≡ true
  passes = sym (ap (λ b. if b then among k.num spec.sources else k.num == 0) every) ∙ has

  abbrev entry_key : JEntry → Key
  entry_key e = record { net = e.net; num = e.num }

  every_next : (front : List JEntry) (e : JEntry) → best_after spec k (front ++ e ∷ []) ≡ (if among e.num spec.sources && same_key (entry_key e) k then e.new else best_after spec k front)
  every_next front e =
      best_next spec k front e
      ∙ ap (λ b. if (not b || among e.num spec.sources) && same_key (record { net = e.net; num = (if b then e.num else 0) }) k then (if b then e.new else e.best) else best_after spec k front) every

  route_next : (front : List JEntry) (e : JEntry) → best_after spec k front ≡ after empty (map change_of front) k.net k.num → best_after spec k (front ++ e ∷ []) ≡ after empty (map change_of (front ++ e ∷ [])) k.net k.num
  route_next front e told = elim (key_tells (entry_key e) k) [
    | inl w ↦
        let passed : among e.num spec.sources ≡ true = subst (λ (q : Key). among q.num spec.sources ≡ true) (sym w.1) passes in
        every_next front e ∙ both (among e.num spec.sources) (same_key (entry_key e) k) passed w.0 e.new (best_after spec k front)
        ∙ sym (one_more k.net k.num front e ∙ ap (λ b. unwrap_or (cond b (Some e.new) (last_of k.net k.num (map change_of front))) None) (same_key_flip k (entry_key e) ∙ w.0))
    | inr w ↦
        every_next front e ∙ other (among e.num spec.sources) (same_key (entry_key e) k) w.0 e.new (best_after spec k front) ∙ told
        ∙ sym (one_more k.net k.num front e ∙ ap (λ b. unwrap_or (cond b (Some e.new) (last_of k.net k.num (map change_of front))) None) (same_key_flip k (entry_key e) ∙ w.0))
  ] where
    both : (a b : Bool) → a ≡ true → b ≡ true → (x y : Option Route) → (if a && b then x else y) ≡ x
    both a b f g x y = rw (f, g) refl

    other : (a b : Bool) → b ≡ false → (x y : Option Route) → (if a && b then x else y) ≡ y
    other true b g x y = rw g refl
    other false b g x y = refl

  -- the course tells of each source that is passed the route in the content
  course_route : (history : List JEntry) (p : ℕ) → (course_of spec history).best k p ≡ content_at p (map change_of history) k.net k.num
  course_route history p =
      by_front history (λ entries. best_after spec k entries ≡ after empty (map change_of entries) k.net k.num) (λ front e back is told. route_next front e told) [] history refl refl p
      ∙ ap (λ cs. after empty cs k.net k.num) (sym (take_map p history))

pub course_routes : (spec : ExportSpec) (history : List JEntry) (k : Key) (p : ℕ) → spec.every ≡ true → has_num spec k.num ≡ true → (course_of spec history).best k p ≡ content_at p (map change_of history) k.net k.num
course_routes spec history k p every has = course_route spec every k has history p

-- ---- the best routes

-- the routes of a net in the empty content
none_there : (routes : List Route) → ((num : ℕ) → route_of num routes ≡ None) → routes ≡ []
none_there [] none = refl
none_there (r ∷ routes) none = absurd (here (r.src.num == r.src.num) (itself r.src.num) (none r.src.num)) where
  itself : (n : ℕ) → (n == n) ≡ true
  itself n = grind arith

  here : (b : Bool) → b ≡ true → cond b (Some r) (route_of r.src.num routes) ≡ None → ⊥
  here true e f = cc
  here false e f = cc

best_empty : (net : Net) → IsBestOf empty net None
best_empty net routes are = none_there routes are.are

-- the best stays where the net's routes do
best_same : (content content' : Content) (net : Net) (best : Option Route) → ((num : ℕ) → content' net num ≡ content net num) → IsBestOf content net best → IsBestOf content' net best
best_same content content' net best same is routes are = is routes (record { sources = are.sources; are = λ num. are.are num ∙ same num })

other_entry : (net : Net) (num : ℕ) (front : List JEntry) (e : JEntry) → same_net net e.net ≡ false → after empty (map change_of (front ++ e ∷ [])) net num ≡ after empty (map change_of front) net num
other_entry net num front e apart = one_more net num front e ∙ ap (λ b. unwrap_or (cond (b && (num == e.num)) (Some e.new) (last_of net num (map change_of front))) None) apart

module _ (spec : ExportSpec) (every : spec.every ≡ false) (net : Net) where
  only_next : (front : List JEntry) (e : JEntry) → best_after spec (key_of net) (front ++ e ∷ []) ≡ (if same_net e.net net then e.best else best_after spec (key_of net) front)
  only_next front e =
      best_next spec (key_of net) front e
      ∙ ap (λ b. if (not b || among e.num spec.sources) && same_key (record { net = e.net; num = (if b then e.num else 0) }) (key_of net) then (if b then e.new else e.best) else best_after spec (key_of net) front) every
      ∙ ap (λ b. if b then e.best else best_after spec (key_of net) front) (and_yes (same_net e.net net)) where
        and_yes : (b : Bool) → (b && true) ≡ b
        and_yes true = refl
        and_yes false = refl

  abbrev IsTold : List JEntry → Type 0
  IsTold entries = IsBestOf (after empty (map change_of entries)) net (best_after spec (key_of net) entries)

  -- with one more entry
  told_next : (front : List JEntry) (e : JEntry) → IsBestOf (after empty (map change_of (front ++ e ∷ []))) e.net e.best → IsTold front → IsTold (front ++ e ∷ [])
  told_next front e tells told = elim (net_tells e.net net) [
    | inl w ↦ subst (IsBestOf (after empty (map change_of (front ++ e ∷ []))) net) (sym (take_if _ (only_next front e) w.0)) (subst (λ n. IsBestOf (after empty (map change_of (front ++ e ∷ []))) n e.best) w.1 tells)
    | inr w ↦ subst (IsBestOf (after empty (map change_of (front ++ e ∷ []))) net) (sym (skip_if _ (only_next front e) w.0))
        (best_same (after empty (map change_of front)) (after empty (map change_of (front ++ e ∷ []))) net (best_after spec (key_of net) front) (λ num. other_entry net num front e (same_net_flip net e.net ∙ w.0)) told)
  ]

  course_only : (history : List JEntry) (p : ℕ) → TellsBest history → IsBestOf (content_at p (map change_of history)) net ((course_of spec history).best (key_of net) p)
  course_only history p tells =
      subst (λ cs. IsBestOf (after empty cs) net (best_after spec (key_of net) (take p history))) (sym (take_map p history))
      (by_front history IsTold (λ front e back is told. told_next front e (tells front e back is) told) [] history refl (best_empty net) p)

-- the course tells the best of each net at each position
pub course_best : (spec : ExportSpec) (history : List JEntry) (net : Net) (p : ℕ) → spec.every ≡ false → TellsBest history → IsBestOf (content_at p (map change_of history)) net ((course_of spec history).best (key_of net) p)
course_best spec history net p every tells = course_only spec every net history p tells

-- ---- rows

rows_in_order : (rows : List Row) → AreRows rows → (net : Net) → IsInOrder (routes_of net rows) × IsOfSources (routes_of net rows)
rows_in_order [] are net = (tt, tt)
rows_in_order (row ∷ rows) are net = by_test (same_net net row.net) (rows_in_order rows are.2 net) where
  by_test : (b : Bool) → IsInOrder (routes_of net rows) × IsOfSources (routes_of net rows) → IsInOrder (if b then row.routes else routes_of net rows) × IsOfSources (if b then row.routes else routes_of net rows)
  by_test true rest = (are.0.order, are.0.sources)
  by_test false rest = rest

first_best : (routes : List Route) → IsInOrder routes → IsBest routes (slice_get routes 0)
first_best [] order = refl
first_best (r ∷ rest) order = order.0

module _ (spec : ExportSpec) (k : Key) where
  no_candidate : candidate_of spec k.num [] ≡ None
  no_candidate = by_test (has_num spec k.num) spec.every where
    by_test : (h e : Bool) → (if h then (if e then route_of k.num [] else slice_get [] 0) else None) ≡ None
    by_test true true = refl
    by_test true false = refl
    by_test false e = refl

  first_alone : (o p : Option Route) → p ≡ None → first_of o p ≡ o
  first_alone None p e = e
  first_alone (Some r) p e = refl

  -- rows in order tell the candidate among the net's routes
  told_in : (rows : List Row) → AreRows rows → best_in spec k rows ≡ candidate_of spec k.num (routes_of k.net rows)
  told_in [] are = sym no_candidate
  told_in (row ∷ rows) are = elim (net_tells k.net row.net) [
    | inl w ↦
        let none : routes_of k.net rows ≡ [] = subst (λ n. routes_of n rows ≡ []) (sym w.1) (routes_below row.net rows are.2 are.1) in
        let rest : best_in spec k rows ≡ None = told_in rows are.2 ∙ ap (candidate_of spec k.num) none ∙ no_candidate in
        ap (λ b. if b then first_of (candidate_of spec k.num row.routes) (best_in spec k rows) else best_in spec k rows) w.0
        ∙ first_alone (candidate_of spec k.num row.routes) (best_in spec k rows) rest
        ∙ sym (ap (λ b. candidate_of spec k.num (if b then row.routes else routes_of k.net rows)) w.0)
    | inr w ↦
        ap (λ b. if b then first_of (candidate_of spec k.num row.routes) (best_in spec k rows) else best_in spec k rows) w.0
        ∙ told_in rows are.2
        ∙ sym (ap (λ b. candidate_of spec k.num (if b then row.routes else routes_of k.net rows)) w.0)
  ]

  -- of a number that the channel hasn't nothing is told
  none_next : has_num spec k.num ≡ false → (front : List JEntry) (e : JEntry) → best_after spec k front ≡ None → best_after spec k (front ++ e ∷ []) ≡ None
  none_next none front e told = skip_if _ (best_next spec k front e) (by_key (key_tells (key_of_entry spec e) k)) ∙ told where
    unheeded : (b : Bool) (num : ℕ) → (if b then among (if b then num else 0) spec.sources else (if b then num else 0) == 0) ≡ false → (not b || among num spec.sources) ≡ false
    unheeded true num f = f
    unheeded false num f = absurd (false_true (sym f))

    no_and : (a b : Bool) → a ≡ false → (a && b) ≡ false
    no_and a b f = rw f refl

    and_no : (a b : Bool) → b ≡ false → (a && b) ≡ false
    and_no true b f = f
    and_no false b f = refl

    by_key : ((same_key (key_of_entry spec e) k ≡ true) × (key_of_entry spec e ≡ k)) ⊎ ((same_key (key_of_entry spec e) k ≡ false) × (key_of_entry spec e ≢ k)) → (heeds spec e.num && same_key (key_of_entry spec e) k) ≡ false
    by_key (inl w) = no_and (heeds spec e.num) (same_key (key_of_entry spec e) k) (unheeded spec.every e.num (subst (λ (q : Key). has_num spec q.num ≡ false) (sym w.1) none))
    by_key (inr w) = and_no (heeds spec e.num) (same_key (key_of_entry spec e) k) w.0

  none_told : has_num spec k.num ≡ false → (history : List JEntry) (p : ℕ) → (course_of spec history).best k p ≡ None
  none_told none history p = by_front history (λ entries. best_after spec k entries ≡ None) (λ front e back is told. none_next none front e told) [] history refl refl p

  module _ (history : List JEntry) (rows : List Row) (p : ℕ) (tells : spec.every ≡ false → TellsBest history) (shows : Shows rows (content_at p (map change_of history))) where
    of_none : has_num spec k.num ≡ false → (course_of spec history).best k p ≡ best_in spec k rows
    of_none none =
        none_told none history p
        ∙ sym (told_in rows shows.rows_are ∙ ap (λ b. if b then (if spec.every then route_of k.num (routes_of k.net rows) else slice_get (routes_of k.net rows) 0) else None) none)

    of_each : has_num spec k.num ≡ true → spec.every ≡ true → (course_of spec history).best k p ≡ best_in spec k rows
    of_each has every =
        course_routes spec history k p every has ∙ sym (shows.routes_are k.net k.num)
        ∙ sym (told_in rows shows.rows_are
        ∙ ap (λ b. if b then (if spec.every then route_of k.num (routes_of k.net rows) else slice_get (routes_of k.net rows) 0) else None) has
        ∙ ap (λ b. if b then route_of k.num (routes_of k.net rows) else slice_get (routes_of k.net rows) 0) every)

    of_best : has_num spec k.num ≡ true → spec.every ≡ false → (course_of spec history).best k p ≡ best_in spec k rows
    of_best has every =
        let zero_num : k.num ≡ 0 = first_number (sym (ap (λ b. if b then among k.num spec.sources else k.num == 0) every) ∙ has) in
        let same : key_of k.net ≡ k = λ i. record { net = k.net; num = sym zero_num i } in
        let routes = routes_of k.net rows in
        let are = rows_in_order rows shows.rows_are k.net in
        ap (λ q. (course_of spec history).best q p) (sym same)
        ∙ IsBest-one routes _ _ (course_best spec history k.net p every (tells every) routes (record { sources = are.1; are = shows.routes_are k.net })) (first_best routes are.0)
        ∙ sym (told_in rows shows.rows_are
        ∙ ap (λ b. if b then (if spec.every then route_of k.num routes else slice_get routes 0) else None) has
        ∙ ap (λ b. if b then route_of k.num routes else slice_get routes 0) every) where
          first_number : (k.num == 0) ≡ true → k.num ≡ 0
          first_number t = elim (eqb_tells k.num 0) [ inl z ↦ z.1 | inr z ↦ absurd (false_true (sym z.0 ∙ t)) ]

-- rows that show the content tell what the course tells
pub rows_told : (spec : ExportSpec) (history : List JEntry) (rows : List Row) (p : ℕ) (k : Key) → (spec.every ≡ false → TellsBest history) → Shows rows (content_at p (map change_of history)) → (course_of spec history).best k p ≡ best_in spec k rows
rows_told spec history rows p k tells shows = by_kind (has_num spec k.num) spec.every refl refl where
  by_kind : (h e : Bool) → has_num spec k.num ≡ h → spec.every ≡ e → (course_of spec history).best k p ≡ best_in spec k rows
  by_kind false e none every = of_none spec k history rows p tells shows none
  by_kind true true has every = of_each spec k history rows p tells shows has every
  by_kind true false has every = of_best spec k history rows p tells shows has every
