-- The differences of two states of routes are the changes between them.
use Rattle.std.proofs.Common.{◌≡◌, ◌≢◌, ℕ, inl, inr, Bool, true, false, cond, List, [], ◌∷◌, ◌++◌, Some, None, refl, sym, ◌∙◌, ap, Ordering, Less, Equal, Greater}
use Rattle.std.specs.Prelude.{◌||◌, if◌then◌else◌}
use Rattle.std.specs.List.{AllByRecursion, flat_map}
use Rattle.std.specs.Map.{keys_of}
use Rattle.std.specs.Ordering.{is_eq, is_lt}
use Rattle.std.proofs.lemmas.Bool.{cases_Bool, false≢true}
use Rattle.bits_ip.specs.Prefix.{Net, net_cmp, precedes, same_net}
use Rattle.attrs.specs.declared.route.Change.{Change}
use Rattle.attrs.proofs.Same.{route_option_decides}
use Rattle.import_core.specs.Changes.{IsDifference, new_at}
use Rattle.import_core.specs.Imports.{Routes, route_at}
use Rattle.import_core.proofs.Differences.{at_is_same, nets_of as change_nets}
use Rattle.import_core.proofs.Routes.{Below, Sorted, at, at_tells, below_chain, below_head, greater_flip, sorted_cons, sorted_nil, tail_sorted}
use Rattle.core_setup.specs.Differences.{difference_at, differences, nets_of, same_route, with_net, with_nets}

less_is : (o : Ordering) → is_lt o ≡ true → o ≡ Less
less_is Less e = refl
less_is Equal e = cc
less_is Greater e = cc

-- a net that is neither another one nor before it is behind it
behind_is : (a b : Net) (o : Ordering) → net_cmp a b ≡ o → same_net a b ≡ false → precedes a b ≡ false → net_cmp b a ≡ Less
behind_is a b Less e same before = absurd (false≢true (sym before ∙ ap is_lt e))
behind_is a b Equal e same before = absurd (false≢true (sym same ∙ sym (at_is_same a b) ∙ ap is_eq e))
behind_is a b Greater e same before = greater_flip a b e

-- ---- nets in their order, with more of them

below_with : (a net : Net) (ns : List Net) → net_cmp a net ≡ Less → Below a ns → Below a (with_net net ns)
below_with a net [] h b = (h, tt)
below_with a net (n ∷ ns) h b = by (same_net net n) (precedes net n) (below_with a net ns h b.1) where
  by : (t p : Bool) → Below a (with_net net ns) → Below a (if t then n ∷ ns else (if p then net ∷ n ∷ ns else n ∷ with_net net ns))
  by true p later = b
  by false true later = (h, b)
  by false false later = (b.0, later)

sorted_with : (net : Net) (ns : List Net) → Sorted ns → Sorted (with_net net ns)
sorted_with net [] s = sorted_cons net [] tt sorted_nil
sorted_with net (n ∷ ns) s = by (same_net net n) (precedes net n) refl refl (sorted_with net ns (tail_sorted n ns s)) where
  by : (t p : Bool) → same_net net n ≡ t → precedes net n ≡ p → Sorted (with_net net ns) → Sorted (if t then n ∷ ns else (if p then net ∷ n ∷ ns else n ∷ with_net net ns))
  by true p e f later = s
  by false true e f later = let less = less_is (net_cmp net n) f in sorted_cons net (n ∷ ns) (less, below_chain net n ns less (below_head n ns s)) s
  by false false e f later = sorted_cons n (with_net net ns) (below_with n net ns (behind_is net n (net_cmp net n) refl e f) (below_head n ns s)) later

sorted_all : (ks ns : List Net) → Sorted ns → Sorted (with_nets ks ns)
sorted_all [] ns s = s
sorted_all (k ∷ ks) ns s = sorted_with k (with_nets ks ns) (sorted_all ks ns s)

pub nets_sorted : (before later : Routes) → Sorted (nets_of before later)
nets_sorted before later = sorted_all (keys_of before) (with_nets (keys_of later) []) (sorted_all (keys_of later) [] sorted_nil)

-- ---- which nets are listed

abbrev pub among : Net → List Net → Bool
among q [] = false
among q (n ∷ ns) = at q n || among q ns

neither : (a b : Bool) → (a || b) ≡ false → (a ≡ false) × (b ≡ false)
neither true b e = absurd (false≢true (sym e))
neither false b e = (refl, e)

both_none : (a b : Bool) → a ≡ false → b ≡ false → (a || b) ≡ false
both_none a b e f = ap (λ t. t || b) e ∙ f

not_with : (q net : Net) (ns : List Net) → among q (with_net net ns) ≡ false → (at q net ≡ false) × (among q ns ≡ false)
not_with q net [] e = neither (at q net) false e
not_with q net (n ∷ ns) e = by (same_net net n) (precedes net n) refl e (λ h. not_with q net ns h) where
  by : (t p : Bool) → same_net net n ≡ t → among q (if t then n ∷ ns else (if p then net ∷ n ∷ ns else n ∷ with_net net ns)) ≡ false
      → (among q (with_net net ns) ≡ false → (at q net ≡ false) × (among q ns ≡ false)) → (at q net ≡ false) × (among q (n ∷ ns) ≡ false)
  by true p f h later = elim (at_tells net n) [
    | inl w ↦ (ap (λ k. at q k) w.1 ∙ (neither (at q n) (among q ns) h).0, h)
    | inr w ↦ absurd (false≢true (sym w.0 ∙ at_is_same net n ∙ f))
  ]
  by false true f h later = neither (at q net) (among q (n ∷ ns)) h
  by false false f h later =
      let parts = neither (at q n) (among q (with_net net ns)) h in
      let rest = later parts.1 in
      (rest.0, both_none (at q n) (among q ns) parts.0 rest.1)

not_listed : (q : Net) (ks ns : List Net) → among q (with_nets ks ns) ≡ false → (among q ks ≡ false) × (among q ns ≡ false)
not_listed q [] ns e = (refl, e)
not_listed q (k ∷ ks) ns e =
    let first = not_with q k (with_nets ks ns) e in
    let rest = not_listed q ks ns first.1 in
    (both_none (at q k) (among q ks) first.0 rest.0, rest.1)

no_route : (q : Net) (routes : Routes) → among q (keys_of routes) ≡ false → route_at q routes ≡ None
no_route q [] e = refl
no_route q (r ∷ routes) e =
    let parts = neither (at q r.0) (among q (keys_of routes)) e in
    ap (λ t. cond t (Some r.1) (route_at q routes)) parts.0 ∙ no_route q routes parts.1

-- ---- the differences

module _ (num : ℕ) (before later : Routes) where
  abbrev change : Net → Change
  change net = record { net = net; num = num; new = route_at net later }

  abbrev alike : Net → Bool
  alike net = same_route (route_at net before) (route_at net later)

  abbrev changed : List Net → List Change
  changed ns = flat_map (difference_at num before later) ns

  -- with a net more
  abbrev with_one : Bool → Net → List Net → List Change
  with_one t n ns = (if t then [] else change n ∷ []) ++ changed ns

  changed_below : (a : Net) (ns : List Net) → Below a ns → Below a (change_nets (changed ns))
  changed_below a [] b = tt
  changed_below a (n ∷ ns) b = by (alike n) (changed_below a ns b.1) where
    by : (t : Bool) → Below a (change_nets (changed ns)) → Below a (change_nets (with_one t n ns))
    by true rest = rest
    by false rest = (b.0, rest)

  changed_sorted : (ns : List Net) → Sorted ns → Sorted (change_nets (changed ns))
  changed_sorted [] s = sorted_nil
  changed_sorted (n ∷ ns) s = by (alike n) (changed_sorted ns (tail_sorted n ns s)) where
    by : (t : Bool) → Sorted (change_nets (changed ns)) → Sorted (change_nets (with_one t n ns))
    by true rest = rest
    by false rest = sorted_cons n (change_nets (changed ns)) (changed_below n ns (below_head n ns s)) rest

  changed_from : (ns : List Net) → AllByRecursion (λ (c : Change). c.num ≡ num) (changed ns)
  changed_from [] = tt
  changed_from (n ∷ ns) = by (alike n) (changed_from ns) where
    by : (t : Bool) → AllByRecursion (λ (c : Change). c.num ≡ num) (changed ns) → AllByRecursion (λ (c : Change). c.num ≡ num) (with_one t n ns)
    by true rest = rest
    by false rest = (refl, rest)

  unchanged : (q : Net) (ns : List Net) → alike q ≡ true → new_at q (changed ns) ≡ None
  unchanged q [] e = refl
  unchanged q (n ∷ ns) e = by (alike n) refl (unchanged q ns e) where
    by : (t : Bool) → alike n ≡ t → new_at q (changed ns) ≡ None → new_at q (with_one t n ns) ≡ None
    by true f rest = rest
    by false f rest = elim (at_tells q n) [
      | inl w ↦ absurd (false≢true (sym f ∙ ap alike (sym w.1) ∙ e))
      | inr w ↦ ap (λ t. cond t (Some (route_at n later)) (new_at q (changed ns))) w.0 ∙ rest
    ]

  found_changed : (q : Net) (ns : List Net) → alike q ≡ false → among q ns ≡ true → new_at q (changed ns) ≡ Some (route_at q later)
  found_changed q [] e there = absurd (false≢true there)
  found_changed q (n ∷ ns) e there = elim (at_tells q n) [
    | inl w ↦ ap (λ t. new_at q (with_one t n ns)) (ap alike (sym w.1) ∙ e)
        ∙ ap (λ t. cond t (Some (route_at n later)) (new_at q (changed ns))) w.0
        ∙ ap (λ k. Some (route_at k later)) (sym w.1)
    | inr w ↦ by w.0 (alike n) (found_changed q ns e (sym (ap (λ t. t || among q ns) w.0) ∙ there))
  ] where
    by : at q n ≡ false → (t : Bool) → new_at q (changed ns) ≡ Some (route_at q later) → new_at q (with_one t n ns) ≡ Some (route_at q later)
    by other true rest = rest
    by other false rest = ap (λ t. cond t (Some (route_at n later)) (new_at q (changed ns))) other ∙ rest

  not_alike : (q : Net) → route_at q before ≢ route_at q later → alike q ≡ false
  not_alike q differ = elim (cases_Bool (alike q)) [
    | inl t ↦ absurd (differ ((route_option_decides (route_at q before) (route_at q later)).0 t))
    | inr f ↦ f
  ]

  listed : (q : Net) → route_at q before ≢ route_at q later → among q (nets_of before later) ≡ true
  listed q differ = elim (cases_Bool (among q (nets_of before later))) [
    | inl t ↦ t
    | inr f ↦ let parts = not_listed q (keys_of before) (with_nets (keys_of later) []) f in
        absurd (differ (no_route q before parts.0 ∙ sym (no_route q later (not_listed q (keys_of later) [] parts.1).0)))
  ]

  pub differences_are : IsDifference num before later (differences num before later)
  differences_are = record {
    order = changed_sorted (nets_of before later) (nets_sorted before later);
    source = changed_from (nets_of before later);
    differing = λ net differ. found_changed net (nets_of before later) (not_alike net differ) (listed net differ);
    same = λ net e. unchanged net (nets_of before later) ((route_option_decides (route_at net before) (route_at net later)).1 e);
  }
