-- What deciding nets keeps.
use Rattle.std.proofs.Common.{◌≡◌, ◌≢◌, ◌⊎◌, ℕ, ◌<◌, ◌≤◌, inl, inr, Bool, true, false, cond, not, [], ◌∷◌, length, Option, Some, None, refl, sym, ◌∙◌, ap, subst, arith}
use Rattle.std.specs.Prelude.{fold, is_some, IsSome, option_and_then, ◌&&◌, ◌||◌, nat_le, if◌then◌else◌}
use Rattle.std.specs.Map.{keys_of}
use Rattle.std.proofs.lemmas.Bool.Decides.{nat_tests}
use Rattle.bits_ip.specs.Prefix.{Net}
use Rattle.attrs.specs.declared.attributes.Kind.{Kind}
use Rattle.attrs.specs.declared.attributes.Kind.TheVariants.{Bgp, Static}
use Rattle.attrs.specs.declared.route.Route.{Route}
use Rattle.import_core.specs.declared.import_spec.Action.{Action}
use Rattle.import_core.specs.declared.import_spec.Action.TheVariants.{Warn, Block, Disable}
use Rattle.import_core.specs.declared.import_spec.ImportSpec.{ImportSpec}
use Rattle.import_core.specs.declared.import_spec.Limit.{Limit}
use Rattle.import_core.specs.declared.mode.Mode.{Mode}
use Rattle.import_core.specs.declared.mode.Mode.TheVariants as mode
use Rattle.import_core.specs.declared.step.Mark.TheVariants as mark
use Rattle.import_core.specs.Imports.{Routes, Imports, route_at, with_route, is_up}
use Rattle.import_core.specs.Decisions.{Filter, Outcome, left_of, left_at, left_received, only, switched_off, is_over, accepting, rejecting, beyond, at_limit, taken, decided, decided_next, rebuilt, mark_of}
use Rattle.import_core.proofs.Routes.{some_same, at, at_tells, at_itself, at_flip, Sorted, sorted_nil, tail_sorted, below_head, found-put, found-dropped, found-below, sorted-put, sorted-filter, length-put, length-put-there, length-filter}

-- The route may be stored: there is no limit, the net isn't over it, or only a warning is due.
abbrev pub Fits : ImportSpec → Net → Imports → Type 0
Fits spec net i =
    (limit : Limit) → spec.limit ≡ Some limit → (is_over (Some limit) net i.accepted ≡ false) ⊎ (limit.action ≡ Warn)

-- the ways in which a net is decided
pub taken_cases : (P : Outcome → Type 0) (spec : ImportSpec) (net : Net) (left : Option Route) (i : Imports)
    → ((b : Bool) → (left ≡ None) ⊎ IsSome spec.limit → P (record { imports = rejecting net i; over = b; mark = mark.Stay }))
    → ((route : Route) (b : Bool) → left ≡ Some route → Fits spec net i → P (record { imports = accepting net route i; over = b; mark = mark.Stay }))
    → (IsSome spec.limit → P (record { imports = switched_off spec mode.Limited i; over = true; mark = mark_of spec.kind mark.Down }))
    → P (taken spec net left i)
taken_cases P spec net None i rejected accepted stopped = rejected false (inl refl)
taken_cases P spec net (Some route) i rejected accepted stopped = by spec.limit refl where
  by_action : (limit : Limit) → spec.limit ≡ Some limit → (t : Bool) → is_over (Some limit) net i.accepted ≡ t → (a : Action) → limit.action ≡ a
      → P (if t then beyond spec a net route i else only (accepting net route i))
  by_action limit e true over Warn a = accepted route true refl (λ other f. inr (ap (λ (l : Limit). l.action) (some_same (sym f ∙ e)) ∙ a))
  by_action limit e true over Block a = rejected true (inr (ap is_some e))
  by_action limit e true over Disable a = stopped (ap is_some e)
  by_action limit e false over a f = accepted route false refl (λ other g. inl (subst (λ (l : Limit). is_over (Some l) net i.accepted ≡ false) (some_same (sym e ∙ g)) over))

  by : (o : Option Limit) → spec.limit ≡ o → P (at_limit spec o net route i)
  by None e = accepted route false refl (λ limit f. absurd (let h : None ≡ Some limit = sym e ∙ f in cc))
  by (Some limit) e = by_action limit e (is_over (Some limit) net i.accepted) refl limit.action refl

-- what holds of a protocol's imports
pub record Sound (spec : ImportSpec) (verdict : Filter) (i : Imports) : Type 0 where
  pub received : Sorted (keys_of i.received)
  pub accepted : Sorted (keys_of i.accepted)
  pub filtered : (q : Net) (r : Route) → route_at q i.accepted ≡ Some r → left_at verdict q i.received ≡ Some r
  pub off : is_up i.mode ≡ false → i.accepted ≡ []
  pub gone : spec.kind ≡ Bgp → is_up i.mode ≡ false → i.received ≡ []
  pub idle : i.mode ≡ mode.Idle → i.received ≡ []
  pub whole : spec.limit ≡ None → is_up i.mode ≡ true → (q : Net) → route_at q i.accepted ≡ left_at verdict q i.received
  pub within : (limit : Limit) → spec.limit ≡ Some limit → (limit.action ≢ Warn) → length i.accepted ≤ limit.count

-- what holds while the received nets are decided
pub record Rising (spec : ImportSpec) (verdict : Filter) (received : Routes) (i : Imports) : Type 0 where
  pub either : (is_up i.mode ≡ true) ⊎ (i.mode ≡ mode.Limited)
  pub same : is_up i.mode ≡ true → i.received ≡ received
  pub gone : i.mode ≡ mode.Limited → i.received ≡ left_received spec.kind received
  pub accepted : Sorted (keys_of i.accepted)
  pub filtered : (q : Net) (r : Route) → route_at q i.accepted ≡ Some r → left_at verdict q received ≡ Some r
  pub off : i.mode ≡ mode.Limited → i.accepted ≡ []
  pub within : (limit : Limit) → spec.limit ≡ Some limit → (limit.action ≢ Warn) → length i.accepted ≤ limit.count

pub left_sorted : (k : Kind) (received : Routes) → Sorted (keys_of received) → Sorted (keys_of (left_received k received))
left_sorted Static received s = s
left_sorted Bgp received s = sorted_nil

pub gone_bgp : (k : Kind) (received : Routes) → k ≡ Bgp → left_received k received ≡ []
gone_bgp Bgp received e = refl
gone_bgp Static received e = cc

none_there : {A : Type 0} (q : Net) (routes : Routes) (r : Route) → routes ≡ [] → route_at q routes ≡ Some r → A
none_there q routes r e f = let h : None ≡ Some r = sym (ap (route_at q) e) ∙ f in cc

up_or_not : (m : Mode) → is_up m ≡ true → is_up m ≡ false → ⊥
up_or_not m e f = let h : true ≡ false = sym e ∙ f in cc

pub up_is : (m : Mode) → is_up m ≡ true → m ≡ mode.Up
up_is mode.Up e = refl
up_is mode.Idle e = cc
up_is mode.Disabled e = cc
up_is mode.Limited e = cc

up_limited : (m : Mode) → is_up m ≡ true → m ≡ mode.Limited → ⊥
up_limited m e f = up_or_not m e (ap is_up f)

empty_within : (routes : Routes) (n : ℕ) → routes ≡ [] → length routes ≤ n
empty_within routes n e = let h = ap length e in omega (arith, h)

fits_within : (spec : ImportSpec) (net : Net) (route : Route) (i : Imports) → Fits spec net i → Sorted (keys_of i.accepted)
    → (limit : Limit) → spec.limit ≡ Some limit → (limit.action ≢ Warn) → length i.accepted ≤ limit.count → length (with_route net route i.accepted) ≤ limit.count
fits_within spec net route i fits s limit e hard low = elim (fits limit e) [
  | inr w ↦ absurd (hard w)
  | inl over ↦ by (route_at net i.accepted) refl over
] where
  room : (n m : ℕ) → (true && nat_le n m) ≡ false → m < n
  room n m e = grind (arith, nat_tests)

  by : (o : Option Route) → route_at net i.accepted ≡ o → (not (is_some o) && nat_le limit.count (length i.accepted)) ≡ false → length (with_route net route i.accepted) ≤ limit.count
  by (Some old) there over = let h = length-put-there net route old i.accepted s there in omega (arith, h, low)
  by None there over = let h = room limit.count (length i.accepted) over in let k = length-put net route i.accepted in omega (arith, h, k)

-- one net is decided
pub decided_rises : (spec : ImportSpec) (verdict : Filter) (received : Routes) (net : Net) (route : Route) (i : Imports)
    → is_up i.mode ≡ true → route_at net received ≡ Some route → i.received ≡ received → Sorted (keys_of i.accepted)
    → ((q : Net) (r : Route) → (at net q ≡ false) → route_at q i.accepted ≡ Some r → left_at verdict q received ≡ Some r)
    → ((limit : Limit) → spec.limit ≡ Some limit → (limit.action ≢ Warn) → length i.accepted ≤ limit.count)
    → Rising spec verdict received (decided spec verdict net route i).imports
decided_rises spec verdict received net route i up there same sorted others within =
    taken_cases (λ o. Rising spec verdict received o.imports) spec net (left_of verdict net route) i
    (λ b why. record {
      either = inl up;
      same = λ _. same;
      gone = λ e. absurd (up_limited i.mode up e);
      accepted = sorted-filter _ i.accepted sorted;
      filtered = λ q r e. rejected q r (sym (found-dropped q net i.accepted) ∙ e);
      off = λ e. absurd (up_limited i.mode up e);
      within = λ limit e hard. let h = length-filter (λ e. not (at net e.0)) i.accepted in let k = within limit e hard in omega (arith, h, k);
    })
    (λ left b is fits. record {
      either = inl up;
      same = λ _. same;
      gone = λ e. absurd (up_limited i.mode up e);
      accepted = sorted-put net left i.accepted sorted;
      filtered = λ q r e. accepting_too left is q r (sym (found-put q net left i.accepted) ∙ e);
      off = λ e. absurd (up_limited i.mode up e);
      within = λ limit e hard. fits_within spec net left i fits sorted limit e hard (within limit e hard);
    })
    (λ why. record {
      either = inr refl;
      same = λ e. absurd (let h : false ≡ true = e in cc);
      gone = λ _. ap (left_received spec.kind) same;
      accepted = sorted_nil;
      filtered = λ q r e. let h : None ≡ Some r = e in cc;
      off = λ _. refl;
      within = λ limit e hard. empty_within [] limit.count refl;
    }) where
      rejected : (q : Net) (r : Route) → cond (at net q) None (route_at q i.accepted) ≡ Some r → left_at verdict q received ≡ Some r
      rejected q r e = by (at net q) refl e where
        by : (t : Bool) → at net q ≡ t → cond t None (route_at q i.accepted) ≡ Some r → left_at verdict q received ≡ Some r
        by true p f = let h : None ≡ Some r = f in cc
        by false p f = others q r p f

      accepting_too : (left : Route) → left_of verdict net route ≡ Some left → (q : Net) (r : Route) → cond (at q net) (Some left) (route_at q i.accepted) ≡ Some r → left_at verdict q received ≡ Some r
      accepting_too left is q r e = elim (at_tells q net) [
        | inl w ↦ subst (λ n. left_at verdict n received ≡ Some r) (sym w.1)
            (ap (option_and_then (left_of verdict net)) there ∙ is ∙ sym (ap (λ t. cond t (Some left) (route_at q i.accepted)) w.0) ∙ e)
        | inr w ↦ others q r (at_apart q net w.0) (sym (ap (λ t. cond t (Some left) (route_at q i.accepted)) w.0) ∙ e)
      ] where
        at_apart : (a b : Net) → at a b ≡ false → at b a ≡ false
        at_apart a b e = at_flip b a ∙ e

module _ (spec : ImportSpec) (verdict : Filter) where
  -- a state that rose is sound, but for what is said of no limit
  pub risen_sound : (received : Routes) (i : Imports) → Sorted (keys_of received) → Rising spec verdict received i
      → (spec.limit ≡ None → is_up i.mode ≡ true → (q : Net) → route_at q i.accepted ≡ left_at verdict q i.received)
      → Sound spec verdict i
  risen_sound received i sorted rises whole = record {
    received = elim rises.either [
      | inl up ↦ subst (λ (l : Routes). Sorted (keys_of l)) (sym (rises.same up)) sorted
      | inr off ↦ subst (λ (l : Routes). Sorted (keys_of l)) (sym (rises.gone off)) (left_sorted spec.kind received sorted)
    ];
    accepted = rises.accepted;
    filtered = λ q r e. elim rises.either [
      | inl up ↦ ap (left_at verdict q) (rises.same up) ∙ rises.filtered q r e
      | inr off ↦ none_there q i.accepted r (rises.off off) e
    ];
    off = λ e. elim rises.either [ inl up ↦ absurd (up_or_not i.mode up e) | inr off ↦ rises.off off ];
    gone = λ k e. elim rises.either [ inl up ↦ absurd (up_or_not i.mode up e) | inr off ↦ rises.gone off ∙ gone_bgp spec.kind received k ];
    idle = λ e. elim rises.either [ inl up ↦ absurd (up_or_not i.mode up (ap is_up e)) | inr off ↦ absurd (let h : mode.Idle ≡ mode.Limited = sym e ∙ off in cc) ];
    whole = whole;
    within = rises.within;
  }

  -- each of these routes is the received one of its net
  abbrev AreOf : Routes → Routes → Type 0
  AreOf received [] = Unit {0}
  AreOf received (e ∷ es) = (route_at e.0 received ≡ Some e.1) × AreOf received es

  rise_more : (received : Routes) (es : Routes) (o : Outcome) → AreOf received es → Rising spec verdict received o.imports
      → Rising spec verdict received (fold (decided_next spec verdict) o es).imports
  rise_more received [] o are rises = rises
  rise_more received (e ∷ es) o are rises = rise_more received es (decided_next spec verdict o e) are.1 (by (is_up o.imports.mode) refl) where
    next : Outcome
    next = decided spec verdict e.0 e.1 o.imports

    by : (t : Bool) → is_up o.imports.mode ≡ t
        → Rising spec verdict received (if t then record { imports = next.imports; over = o.over || next.over; mark = next.mark } else o).imports
    by true up = decided_rises spec verdict received e.0 e.1 o.imports up are.0 (rises.same up) rises.accepted (λ q r apart f. rises.filtered q r f) rises.within
    by false off = rises

  -- where there is no limit, each net that is decided has what the filter leaves of its route
  pub unlimited : (net : Net) (left : Option Route) (i : Imports) (q : Net) → spec.limit ≡ None
      → ((taken spec net left i).imports.mode ≡ i.mode) × ((taken spec net left i).imports.received ≡ i.received)
      × (route_at q (taken spec net left i).imports.accepted ≡ cond (at net q) left (route_at q i.accepted))
  unlimited net None i q e = (refl, refl, found-dropped q net i.accepted)
  unlimited net (Some route) i q e = by spec.limit e where
    by : (o : Option Limit) → o ≡ None → ((at_limit spec o net route i).imports.mode ≡ i.mode) × ((at_limit spec o net route i).imports.received ≡ i.received)
        × (route_at q (at_limit spec o net route i).imports.accepted ≡ cond (at net q) (Some route) (route_at q i.accepted))
    by None f = (refl, refl, found-put q net route i.accepted ∙ ap (λ t. cond t (Some route) (route_at q i.accepted)) (at_flip q net))
    by (Some limit) f = cc

  abbrev left_or : Net → Option Route → Option Route → Option Route
  left_or q None before = before
  left_or q (Some route) before = left_of verdict q route

  all_left : (es : Routes) (o : Outcome) → spec.limit ≡ None → is_up o.imports.mode ≡ true → Sorted (keys_of es) → (q : Net)
      → route_at q (fold (decided_next spec verdict) o es).imports.accepted ≡ left_or q (route_at q es) (route_at q o.imports.accepted)
  all_left [] o limit up sorted q = refl
  all_left (e ∷ es) o limit up sorted q =
      let u = unlimited e.0 (left_of verdict e.0 e.1) o.imports q limit in
      let now : Outcome = decided_next spec verdict o e in
      let is : now ≡ record { imports = (decided spec verdict e.0 e.1 o.imports).imports; over = o.over || (decided spec verdict e.0 e.1 o.imports).over; mark = (decided spec verdict e.0 e.1 o.imports).mark } =
      ap (λ t. if t then record { imports = (decided spec verdict e.0 e.1 o.imports).imports; over = o.over || (decided spec verdict e.0 e.1 o.imports).over; mark = (decided spec verdict e.0 e.1 o.imports).mark } else o) up in
      let still_up : is_up now.imports.mode ≡ true = ap (λ (x : Outcome). is_up x.imports.mode) is ∙ ap is_up u.0 ∙ up in
      let there : route_at q now.imports.accepted ≡ cond (at e.0 q) (left_of verdict e.0 e.1) (route_at q o.imports.accepted) = ap (λ (x : Outcome). route_at q x.imports.accepted) is ∙ u.2 in
      all_left es now limit still_up (tail_sorted e.0 (keys_of es) sorted) q ∙ ap (left_or q (route_at q es)) there ∙ joined
    where
      joined : left_or q (route_at q es) (cond (at e.0 q) (left_of verdict e.0 e.1) (route_at q o.imports.accepted)) ≡ left_or q (route_at q (e ∷ es)) (route_at q o.imports.accepted)
      joined = elim (at_tells q e.0) [
        | inl w ↦ let none : route_at q es ≡ None = subst (λ n. route_at n es ≡ None) (sym w.1) (found-below e.0 es (below_head e.0 (keys_of es) sorted)) in
            ap (λ x. left_or q x (cond (at e.0 q) (left_of verdict e.0 e.1) (route_at q o.imports.accepted))) none
            ∙ ap (λ t. cond t (left_of verdict e.0 e.1) (route_at q o.imports.accepted)) (at_flip e.0 q ∙ w.0)
            ∙ ap (λ n. left_of verdict n e.1) (sym w.1)
            ∙ sym (ap (λ t. left_or q (cond t (Some e.1) (route_at q es)) (route_at q o.imports.accepted)) w.0)
        | inr w ↦ ap (λ t. left_or q (route_at q es) (cond t (left_of verdict e.0 e.1) (route_at q o.imports.accepted))) (at_flip e.0 q ∙ w.0)
            ∙ sym (ap (λ t. left_or q (cond t (Some e.1) (route_at q es)) (route_at q o.imports.accepted)) w.0)
      ]

  some_behind : (e : Net × Route) (es : Routes) → Sorted (keys_of (e ∷ es)) → (q : Net) (route : Route) → route_at q es ≡ Some route → route_at q (e ∷ es) ≡ Some route
  some_behind e es sorted q route there = elim (at_tells q e.0) [
    | inl w ↦ let none : route_at q es ≡ None = subst (λ n. route_at n es ≡ None) (sym w.1) (found-below e.0 es (below_head e.0 (keys_of es) sorted)) in
        let h : Some route ≡ None = sym there ∙ none in cc
    | inr w ↦ ap (λ t. cond t (Some e.1) (route_at q es)) w.0 ∙ there
  ]

  are_of : (received es : Routes) → Sorted (keys_of es) → ((q : Net) (route : Route) → route_at q es ≡ Some route → route_at q received ≡ Some route) → AreOf received es
  are_of received [] sorted all = tt
  are_of received (e ∷ es) sorted all = (
    all e.0 e.1 (ap (λ t. cond t (Some e.1) (route_at e.0 es)) (at_itself e.0)),
    are_of received es (tail_sorted e.0 (keys_of es) sorted) (λ q route there. all q route (some_behind e es sorted q route there)),
  )

  left_or_none : (q : Net) (o : Option Route) → left_or q o None ≡ option_and_then (left_of verdict q) o
  left_or_none q None = refl
  left_or_none q (Some route) = refl

  pub rebuilt_rises : (i : Imports) → is_up i.mode ≡ true → Sorted (keys_of i.received) → Rising spec verdict i.received (rebuilt spec verdict i).imports
  rebuilt_rises i up sorted =
      rise_more i.received i.received (only (record i { accepted = [] })) (are_of i.received i.received sorted (λ q route there. there))
      (record {
        either = inl up;
        same = λ _. refl;
        gone = λ e. absurd (up_limited i.mode up e);
        accepted = sorted_nil;
        filtered = λ q r e. let h : None ≡ Some r = e in cc;
        off = λ e. absurd (up_limited i.mode up e);
        within = λ limit e hard. empty_within [] limit.count refl;
      })

  pub rebuilt_sound : (i : Imports) → is_up i.mode ≡ true → Sorted (keys_of i.received) → Sound spec verdict (rebuilt spec verdict i).imports
  rebuilt_sound i up sorted =
      let rises = rebuilt_rises i up sorted in
      risen_sound i.received (rebuilt spec verdict i).imports sorted rises
      (λ limit still q. all_left i.received (only (record i { accepted = [] })) limit up sorted q ∙ left_or_none q (route_at q i.received) ∙ sym (ap (left_at verdict q) (rises.same still)))
