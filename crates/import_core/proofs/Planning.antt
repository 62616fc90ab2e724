-- A plan is what a rebuild comes to.
use Rattle.std.proofs.Common.{◌≡◌, ◌≢◌, ℕ, ◌+◌, inl, inr, Bool, true, false, cond, not, List, [], ◌∷◌, ◌++◌, length, Option, Some, None, refl, sym, ◌∙◌, ap, subst, Less, append_assoc, length-append}
use Rattle.std.specs.Prelude.{fold, is_some, ◌||◌, ◌&&◌, nat_le, if◌then◌else◌}
use Rattle.std.specs.List.{AllByRecursion}
use Rattle.std.specs.Map.{keys_of}
use Rattle.bits_ip.specs.Prefix.{Net, net_cmp}
use Rattle.attrs.specs.declared.route.Change.{Change}
use Rattle.attrs.specs.declared.route.Route.{Route}
use Rattle.import_core.specs.declared.held.Accepted.{Accepted}
use Rattle.import_core.specs.declared.held.Accepted.TheVariants.{Nothing, AsReceived, With}
use Rattle.import_core.specs.declared.held.Decision.{Decision}
use Rattle.import_core.specs.declared.held.Decision.TheVariants as decision
use Rattle.import_core.specs.declared.held.Held.{Held}
use Rattle.import_core.specs.declared.import_spec.Action.{Action}
use Rattle.import_core.specs.declared.import_spec.Action.TheVariants.{Warn, Block, Disable}
use Rattle.import_core.specs.declared.import_spec.ImportSpec.{ImportSpec}
use Rattle.import_core.specs.declared.import_spec.Limit.{Limit}
use Rattle.import_core.specs.declared.mode.Mode.TheVariants as mode
use Rattle.import_core.specs.declared.nets.Plan.{Plan}
use Rattle.import_core.specs.declared.step.Mark.TheVariants as mark
use Rattle.import_core.specs.Changes.{pairs_of, new_at, IsDifference}
use Rattle.import_core.specs.Decisions.{Filter, Outcome, left_of, only, accepting, at_limit, beyond, decided, decided_next, mark_of, switched_off, taken}
use Rattle.import_core.specs.Held.{accepted_route, accepted_of, received_in, accepted_in, placed, change_to, decided_as, decided_by, excessive, limited_by, settled, tally, IsNoted, IsRebuild, IsStored}
use Rattle.import_core.specs.Imports.{Routes, Imports, has_net, is_up, route_at}
use Rattle.import_core.proofs.Differences.{nets_of, keys_of_pairs, no_difference}
use Rattle.import_core.proofs.Keeping.{above-accepted, accepted-push, decided-push, keys-decided, keys-push, received-append, with_first, with_last}
use Rattle.import_core.proofs.Routes.{at, at_tells, Sorted, sorted_push, Above, above_push, either, found, found-above, found-append, dropped-absent, put-above}

either_none : {A : Type 0} (o : Option A) → either o None ≡ o
either_none None = refl
either_none (Some x) = refl

-- what is found with one more route behind the others
last_is : (q k : Net) (o : Option Route) (routes : Routes) → Above (keys_of routes) k → route_at q (with_last routes k o) ≡ cond (at q k) o (route_at q routes)
last_is q k o routes above = found-append q routes (with_first k o []) ∙ elim (at_tells q k) [
  | inl w ↦ ap (λ p. either p (route_at q (with_first k o []))) (subst (λ n. route_at n routes ≡ None) (sym w.1) (found-above routes k above))
      ∙ here o w.0 ∙ sym (ap (λ t. cond t o (route_at q routes)) w.0)
  | inr w ↦ ap (λ p. either (route_at q routes) p) (other o w.0) ∙ either_none (route_at q routes) ∙ sym (ap (λ t. cond t o (route_at q routes)) w.0)
] where
  here : (o : Option Route) → at q k ≡ true → route_at q (with_first k o []) ≡ o
  here None e = refl
  here (Some r) e = ap (λ t. cond t (Some r) None) e

  other : (o : Option Route) → at q k ≡ false → route_at q (with_first k o []) ≡ None
  other None e = refl
  other (Some r) e = ap (λ t. cond t (Some r) None) e

pairs-push : (cs : List Change) (c : Change) → pairs_of (cs ++ c ∷ []) ≡ pairs_of cs ++ (c.net, c.new) ∷ []
pairs-push [] c = refl
pairs-push (d ∷ cs) c = ap (λ ps. (d.net, d.new) ∷ ps) (pairs-push cs c)

nets-push : (cs : List Change) (c : Change) → nets_of (cs ++ c ∷ []) ≡ nets_of cs ++ c.net ∷ []
nets-push [] c = refl
nets-push (d ∷ cs) c = ap (λ ns. d.net ∷ ns) (nets-push cs c)

new-above : (cs : List Change) (k : Net) → Above (nets_of cs) k → new_at k cs ≡ None
new-above cs k above = found-above (pairs_of cs) k (subst (λ ns. Above ns k) (sym (keys_of_pairs cs)) above)

new-push : (q : Net) (cs : List Change) (c : Change) → Above (nets_of cs) c.net → new_at q (cs ++ c ∷ []) ≡ cond (at q c.net) (Some c.new) (new_at q cs)
new-push q cs c above = ap (λ ps. found q ps) (pairs-push cs c) ∙ found-append q (pairs_of cs) ((c.net, c.new) ∷ []) ∙ elim (at_tells q c.net) [
  | inl w ↦ ap (λ p. either p (cond (at q c.net) (Some c.new) None)) (subst (λ n. new_at n cs ≡ None) (sym w.1) (new-above cs c.net above))
      ∙ ap (λ t. cond t (Some c.new) None) w.0 ∙ sym (ap (λ t. cond t (Some c.new) (new_at q cs)) w.0)
  | inr w ↦ ap (λ t. either (new_at q cs) (cond t (Some c.new) None)) w.0 ∙ either_none (new_at q cs) ∙ sym (ap (λ t. cond t (Some c.new) (new_at q cs)) w.0)
]

all_push : (num : ℕ) (cs : List Change) (c : Change) → AllByRecursion (λ c. c.num ≡ num) cs → c.num ≡ num → AllByRecursion (λ c. c.num ≡ num) (cs ++ c ∷ [])
all_push num [] c all e = (e, tt)
all_push num (d ∷ cs) c all e = (all.0, all_push num cs c all.1 e)

module _ (num : ℕ) (before later : Routes) (k : Net) (a b : Option Route) (old : List Change) where
  -- one more net behind the others
  difference_push : (new : List Change) → IsDifference num before later old → Above (keys_of before) k → Above (keys_of later) k → Above (nets_of old) k
      → IsNoted num k a b old new → IsDifference num (with_last before k a) (with_last later k b) new
  difference_push new is above_before above_later above noted = elim noted [
    | inl w ↦ subst (λ cs. IsDifference num (with_last before k a) (with_last later k b) cs) (sym w.1) (record {
      order = is.order;
      source = is.source;
      differing = λ q ne. same_differs q w.0 ne;
      same = λ q e. same_same q e;
    })
    | inr w ↦ subst (λ cs. IsDifference num (with_last before k a) (with_last later k b) cs) (sym w.1) (record {
      order = subst (λ ns. Sorted ns) (sym (nets-push old (change_to num k b))) (sorted_push (nets_of old) k is.order above);
      source = all_push num old (change_to num k b) is.source refl;
      differing = λ q ne. new-push q old (change_to num k b) above ∙ other_differs q ne;
      same = λ q e. new-push q old (change_to num k b) above ∙ other_same q w.0 e;
    })
  ] where
    eb : (q : Net) → route_at q (with_last before k a) ≡ cond (at q k) a (route_at q before)
    eb q = last_is q k a before above_before

    el : (q : Net) → route_at q (with_last later k b) ≡ cond (at q k) b (route_at q later)
    el q = last_is q k b later above_later

    same_differs : (q : Net) → a ≡ b → (route_at q (with_last before k a) ≢ route_at q (with_last later k b)) → new_at q old ≡ Some (route_at q (with_last later k b))
    same_differs q e ne = elim (at_tells q k) [
      | inl w ↦ absurd (ne (eb q ∙ ap (λ t. cond t a (route_at q before)) w.0 ∙ e ∙ sym (el q ∙ ap (λ t. cond t b (route_at q later)) w.0)))
      | inr w ↦ let x = eb q ∙ ap (λ t. cond t a (route_at q before)) w.0 in let y = el q ∙ ap (λ t. cond t b (route_at q later)) w.0 in
          is.differing q (λ f. ne (x ∙ f ∙ sym y)) ∙ ap (λ o. Some o) (sym y)
    ]

    same_same : (q : Net) → route_at q (with_last before k a) ≡ route_at q (with_last later k b) → new_at q old ≡ None
    same_same q e = elim (at_tells q k) [
      | inl w ↦ subst (λ n. new_at n old ≡ None) (sym w.1) (new-above old k above)
      | inr w ↦ is.same q (sym (eb q ∙ ap (λ t. cond t a (route_at q before)) w.0) ∙ e ∙ (el q ∙ ap (λ t. cond t b (route_at q later)) w.0))
    ]

    other_differs : (q : Net) → (route_at q (with_last before k a) ≢ route_at q (with_last later k b)) → cond (at q k) (Some b) (new_at q old) ≡ Some (route_at q (with_last later k b))
    other_differs q ne = elim (at_tells q k) [
      | inl w ↦ ap (λ t. cond t (Some b) (new_at q old)) w.0 ∙ ap (λ o. Some o) (sym (el q ∙ ap (λ t. cond t b (route_at q later)) w.0))
      | inr w ↦ let x = eb q ∙ ap (λ t. cond t a (route_at q before)) w.0 in let y = el q ∙ ap (λ t. cond t b (route_at q later)) w.0 in
          ap (λ t. cond t (Some b) (new_at q old)) w.0 ∙ is.differing q (λ f. ne (x ∙ f ∙ sym y)) ∙ ap (λ o. Some o) (sym y)
    ]

    other_same : (q : Net) → a ≢ b → route_at q (with_last before k a) ≡ route_at q (with_last later k b) → cond (at q k) (Some b) (new_at q old) ≡ None
    other_same q ne e = elim (at_tells q k) [
      | inl w ↦ absurd (ne (sym (eb q ∙ ap (λ t. cond t a (route_at q before)) w.0) ∙ e ∙ (el q ∙ ap (λ t. cond t b (route_at q later)) w.0)))
      | inr w ↦ ap (λ t. cond t (Some b) (new_at q old)) w.0 ∙ is.same q (sym (eb q ∙ ap (λ t. cond t a (route_at q before)) w.0) ∙ e ∙ (el q ∙ ap (λ t. cond t b (route_at q later)) w.0))
    ]

-- the changes of the entries so far
pub record Course (num : ℕ) (es : List (Net × Held)) (before later : Routes) (changes : List Change) : Type 0 where
  pub difference : IsDifference num before later changes
  pub above : (k : Net) → Above (keys_of es) k → Above (nets_of changes) k

pub course_nil : (num : ℕ) → Course num [] [] [] []
course_nil num = record { difference = no_difference num []; above = λ k b. tt }

above_split : (ks : List Net) (a k : Net) → Above (ks ++ a ∷ []) k → Above ks k × (net_cmp a k ≡ Less)
above_split [] a k b = (tt, b.0)
above_split (x ∷ ks) a k b = let r = above_split ks a k b.1 in ((b.0, r.0), r.1)

pub course_push : (num : ℕ) (es : List (Net × Held)) (before later : Routes) (k : Net) (h : Held) (a b : Option Route) (old new : List Change)
    → Course num es before later old → Above (keys_of es) k → Above (keys_of before) k → Above (keys_of later) k → IsNoted num k a b old new
    → Course num (es ++ (k, h) ∷ []) (with_last before k a) (with_last later k b) new
course_push num es before later k h a b old new c above above_before above_later noted = record {
  difference = difference_push num before later k a b old new c.difference above_before above_later (c.above k above) noted;
  above = λ n high.
      let parts = above_split (keys_of es) k n (subst (λ ks. Above ks n) (keys-push es k h) high) in
      elim noted [
        | inl w ↦ subst (λ cs. Above (nets_of cs) n) (sym w.1) (c.above n parts.0)
        | inr w ↦ subst (λ cs. Above (nets_of cs) n) (sym w.1) (subst (λ ns. Above ns n) (sym (nets-push old (change_to num k b))) (above_push (nets_of old) k n (c.above n parts.0) parts.1))
      ];
}

-- a route placed behind all others
append_nil : {A : Type 0} (xs : List A) → xs ++ [] ≡ xs
append_nil [] = refl
append_nil (x ∷ xs) = ap (λ ys. x ∷ ys) (append_nil xs)

placed-above : (k : Net) (o : Option Route) (routes : Routes) → Above (keys_of routes) k → placed k o routes ≡ with_last routes k o
placed-above k None routes above = dropped-absent k routes (found-above routes k above) ∙ sym (append_nil routes)
placed-above k (Some r) routes above = put-above routes k r above

length-with_last : (routes : Routes) (k : Net) (o : Option Route) → length (with_last routes k o) ≡ length routes + tally o
length-with_last routes k o = length-append routes (with_first k o []) ∙ ap (λ n. length routes + n) (one o) where
  one : (o : Option Route) → length (with_first k o []) ≡ tally o
  one None = refl
  one (Some r) = refl

-- a decision is what deciding comes to
module _ (spec : ImportSpec) (net : Net) (route : Route) (i : Imports) where
  stored_is : (x : Accepted) (r : Route) (over : Bool) → accepted_route route x ≡ Some r
      → decided_by spec net route (decision.Stored x over) i ≡ record { imports = accepting net r i; over = over; mark = mark.Stay }
  stored_is x r over e = ap (λ (o : Option Route). record { imports = record i { accepted = placed net o i.accepted }; over = over; mark = mark.Stay }) e

  limited_is : (x : Accepted) (r : Route) → accepted_route route x ≡ Some r
      → decided_by spec net route (limited_by spec.limit x (has_net net i.accepted) (length i.accepted)) i ≡ at_limit spec spec.limit net r i
  limited_is x r e = by spec.limit where
    by_test : (t : Bool) (a : Action)
        → decided_by spec net route (if t then excessive a x else decision.Stored x false) i
        ≡ (if t then beyond spec a net r i else only (accepting net r i))
    by_test true Warn = stored_is x r true e
    by_test true Block = refl
    by_test true Disable = refl
    by_test false a = stored_is x r false e

    by : (o : Option Limit) → decided_by spec net route (limited_by o x (has_net net i.accepted) (length i.accepted)) i ≡ at_limit spec o net r i
    by None = stored_is x r false e
    by (Some limit) = by_test (not (has_net net i.accepted) && nat_le limit.count (length i.accepted)) limit.action

  pub settled_is : (x : Accepted) → decided_by spec net route (settled spec.limit x (has_net net i.accepted) (length i.accepted)) i ≡ taken spec net (accepted_route route x) i
  settled_is Nothing = refl
  settled_is AsReceived = limited_is AsReceived route refl
  settled_is (With attrs) = limited_is (With attrs) (record { src = route.src; attrs = attrs }) refl

fold-append : {A B : Type 0} (f : B → A → B) (z : B) (xs ys : List A) → fold f z (xs ++ ys) ≡ fold f (fold f z xs) ys
fold-append f z [] ys = refl
fold-append f z (x ∷ xs) ys = fold-append f (f z x) xs ys

fold_stays : {A B : Type 0} (f : B → A → B) (z : B) → ((x : A) → f z x ≡ z) → (xs : List A) → fold f z xs ≡ z
fold_stays f z stays [] = refl
fold_stays f z stays (x ∷ xs) = ap (λ z. fold f z xs) (stays x) ∙ fold_stays f z stays xs

or_true : (b : Bool) → (b || true) ≡ true
or_true true = refl
or_true false = refl

module _ (spec : ImportSpec) (verdict : Filter) where
  -- how far a rebuild has come
  abbrev pub so_far : Imports → Plan → List (Net × Held) → Outcome
  so_far i p es = record { imports = record i { accepted = accepted_in (decided_as p.decisions.items es) }; over = p.over; mark = mark.Stay }

  pub record PlanSoFar (es : List (Net × Held)) (p : Plan) : Type 0 where
    pub nets : keys_of p.decisions.items ≡ keys_of es
    pub course : Course spec.src.num es (accepted_in es) (accepted_in (decided_as p.decisions.items es)) p.changes
    pub count : p.count ≡ length (accepted_in (decided_as p.decisions.items es))
    pub outcome :
        (i : Imports) → is_up i.mode ≡ true
        → fold (decided_next spec verdict) (only (record i { accepted = [] })) (received_in es) ≡ so_far i p es

  accepted_above : (es : List (Net × Held)) (p : Plan) (k : Net) → PlanSoFar es p → Above (keys_of es) k → Above (keys_of (accepted_in (decided_as p.decisions.items es))) k
  accepted_above es p k s above = above-accepted (decided_as p.decisions.items es) k (subst (λ ks. Above ks k) (sym (keys-decided p.decisions.items es s.nets)) above)

  -- the next net, from where the rebuild has come
  next_is : (es : List (Net × Held)) (p : Plan) (k : Net) (h : Held) (x : Accepted) → PlanSoFar es p → Above (keys_of es) k
      → accepted_route h.route x ≡ left_of verdict k h.route → (i : Imports)
      → decided spec verdict k h.route (so_far i p es).imports ≡ decided_by spec k h.route (settled spec.limit x false p.count) (so_far i p es).imports
  next_is es p k h x s above is i =
      let now = (so_far i p es).imports in
      let absent : has_net k now.accepted ≡ false = ap is_some (found-above now.accepted k (accepted_above es p k s above)) in
      ap (λ o. taken spec k o now) (sym is)
      ∙ sym (settled_is spec k h.route now x)
      ∙ ap (λ t. decided_by spec k h.route (settled spec.limit x t (length now.accepted)) now) absent
      ∙ ap (λ n. decided_by spec k h.route (settled spec.limit x false n) now) (sym s.count)

  up_next : (o : Outcome) (e : Net × Route) → is_up o.imports.mode ≡ true
      → decided_next spec verdict o e ≡ record { imports = (decided spec verdict e.0 e.1 o.imports).imports; over = o.over || (decided spec verdict e.0 e.1 o.imports).over; mark = (decided spec verdict e.0 e.1 o.imports).mark }
  up_next o e up = ap (λ t. if t then record { imports = (decided spec verdict e.0 e.1 o.imports).imports; over = o.over || (decided spec verdict e.0 e.1 o.imports).over; mark = (decided spec verdict e.0 e.1 o.imports).mark } else o) up

  fold_next : (es : List (Net × Held)) (p : Plan) (k : Net) (h : Held) (x : Accepted) (d : Decision) → PlanSoFar es p → Above (keys_of es) k
      → accepted_route h.route x ≡ left_of verdict k h.route → settled spec.limit x false p.count ≡ d → (i : Imports) → is_up i.mode ≡ true
      → fold (decided_next spec verdict) (only (record i { accepted = [] })) (received_in (es ++ (k, h) ∷ []))
      ≡ record {
        imports = (decided_by spec k h.route d (so_far i p es).imports).imports;
        over = p.over || (decided_by spec k h.route d (so_far i p es).imports).over;
        mark = (decided_by spec k h.route d (so_far i p es).imports).mark;
      }
  fold_next es p k h x d s above is e i up =
      ap (λ rs. fold (decided_next spec verdict) (only (record i { accepted = [] })) rs) (received-append es ((k, h) ∷ []))
      ∙ fold-append (decided_next spec verdict) (only (record i { accepted = [] })) (received_in es) ((k, h.route) ∷ [])
      ∙ ap (λ o. decided_next spec verdict o (k, h.route)) (s.outcome i up)
      ∙ up_next (so_far i p es) (k, h.route) up
      ∙ ap (λ (o : Outcome). record { imports = o.imports; over = p.over || o.over; mark = o.mark }) (next_is es p k h x s above is i ∙ ap (λ d. decided_by spec k h.route d (so_far i p es).imports) e)

  pub plan_nil : (p : Plan) → p.decisions.items ≡ [] → p.changes ≡ [] → p.count ≡ 0 → p.over ≡ false → PlanSoFar [] p
  plan_nil p decisions changes count over = record {
    nets = ap (λ (ds : List (Net × Accepted)). keys_of ds) decisions;
    course = subst (λ ds. Course spec.src.num [] [] (accepted_in (decided_as ds [])) p.changes) (sym decisions)
        (subst (λ cs. Course spec.src.num [] [] [] cs) (sym changes) (course_nil spec.src.num));
    count = count ∙ sym (ap (λ ds. length (accepted_in (decided_as ds []))) decisions);
    outcome = λ i up. λ t. record { imports = record i { accepted = accepted_in (decided_as (sym decisions t) []) }; over = sym over t; mark = mark.Stay };
  }

  pub plan_push : (es : List (Net × Held)) (p p' : Plan) (k : Net) (h : Held) (x a : Accepted) (over : Bool) → PlanSoFar es p → Above (keys_of es) k
      → accepted_route h.route x ≡ left_of verdict k h.route → settled spec.limit x false p.count ≡ decision.Stored a over
      → IsStored spec.src.num k h a over p p' → PlanSoFar (es ++ (k, h) ∷ []) p'
  plan_push es p p' k h x a over s above is e stored = record {
    nets = ap (λ (ds : List (Net × Accepted)). keys_of ds) stored.decisions ∙ keys-push p.decisions.items k a ∙ ap (λ ks. ks ++ k ∷ []) s.nets ∙ sym (keys-push es k h);
    course = subst (λ r. Course spec.src.num (es ++ (k, h) ∷ []) r (accepted_in (decided_as p'.decisions.items (es ++ (k, h) ∷ []))) p'.changes) (sym (accepted-push es k h))
        (subst (λ r. Course spec.src.num (es ++ (k, h) ∷ []) (with_last (accepted_in es) k (accepted_of h)) r p'.changes) (sym now)
        (course_push spec.src.num es (accepted_in es) (accepted_in (decided_as p.decisions.items es)) k h (accepted_of h) (accepted_route h.route a) p.changes p'.changes
        s.course above (above-accepted es k above) (accepted_above es p k s above) stored.changes));
    count = stored.count ∙ ap (λ n. n + tally (accepted_route h.route a)) s.count ∙ sym (ap length now ∙ length-with_last (accepted_in (decided_as p.decisions.items es)) k (accepted_route h.route a));
    outcome = λ i up.
        fold_next es p k h x (decision.Stored a over) s above is e i up
        ∙ (λ t. record {
          imports = record i { accepted = (placed-above k (accepted_route h.route a) (accepted_in (decided_as p.decisions.items es)) (accepted_above es p k s above) ∙ sym now) t };
          over = sym stored.over_limit t;
          mark = mark.Stay;
        });
  } where
    now : accepted_in (decided_as p'.decisions.items (es ++ (k, h) ∷ [])) ≡ with_last (accepted_in (decided_as p.decisions.items es)) k (accepted_route h.route a)
    now = ap (λ ds. accepted_in (decided_as ds (es ++ (k, h) ∷ []))) stored.decisions
        ∙ ap accepted_in (decided-push p.decisions.items es k a h s.nets)
        ∙ accepted-push (decided_as p.decisions.items es) k (record { route = h.route; accepted = a })

  -- all nets are decided
  pub plan_whole : (all : List (Net × Held)) (p : Plan) → PlanSoFar all p → (i : Imports) → i.received ≡ received_in all → is_up i.mode ≡ true → IsRebuild spec verdict all i (Some p)
  plan_whole all p s i received up = (
    ap (λ rs. fold (decided_next spec verdict) (only (record i { accepted = [] })) rs) received ∙ s.outcome i up,
    record { nets = s.nets; changes = s.course.difference; count = s.count },
  )

  -- the rebuild ends at the limit
  pub plan_ends : (all es rest : List (Net × Held)) (p : Plan) (k : Net) (h : Held) (x : Accepted) → PlanSoFar es p → Above (keys_of es) k
      → accepted_route h.route x ≡ left_of verdict k h.route → settled spec.limit x false p.count ≡ decision.Limited
      → all ≡ es ++ (k, h) ∷ rest → (i : Imports) → i.received ≡ received_in all → is_up i.mode ≡ true → IsRebuild spec verdict all i None
  plan_ends all es rest p k h x s above is e whole i received up =
      let z : Outcome = record { imports = switched_off spec mode.Limited i; over = p.over || true; mark = mark_of spec.kind mark.Down } in
      ap (λ rs. fold (decided_next spec verdict) (only (record i { accepted = [] })) rs) (received ∙ ap received_in (whole ∙ sym (append_assoc es ((k, h) ∷ []) rest)) ∙ received-append (es ++ (k, h) ∷ []) rest)
      ∙ fold-append (decided_next spec verdict) (only (record i { accepted = [] })) (received_in (es ++ (k, h) ∷ [])) (received_in rest)
      ∙ ap (λ o. fold (decided_next spec verdict) o (received_in rest)) (fold_next es p k h x decision.Limited s above is e i up)
      ∙ fold_stays (decided_next spec verdict) z (λ e. refl) (received_in rest)
      ∙ (λ t. record { imports = switched_off spec mode.Limited i; over = or_true p.over t; mark = mark_of spec.kind mark.Down })
