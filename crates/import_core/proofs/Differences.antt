-- Differences of routes, and what they leave of a table.
use Rattle.std.proofs.Common.{◌≡◌, ◌≢◌, ◌⊎◌, ℕ, inl, inr, Bool, true, false, cond, List, [], ◌∷◌, ◌++◌, map, Option, Some, None, refl, sym, ◌∙◌, ap, subst, arith, Less}
use Rattle.std.specs.Prelude.{◌==◌, ◌&&◌, unwrap_or, if◌then◌else◌}
use Rattle.std.specs.BTreeMap.{is_at}
use Rattle.std.specs.List.{AllByRecursion}
use Rattle.std.specs.Map.{keys_of}
use Rattle.std.specs.Option.{option_eq}
use Rattle.std.specs.Bool.{Decides}
use Rattle.std.proofs.lemmas.Bool.Decides.{nat_tests}
use Rattle.std.proofs.lemmas.Bool.{false≢true}
use Rattle.bits_ip.specs.declared.address.Addr.{Addr}
use Rattle.bits_ip.specs.declared.address.Addr.TheVariants.{V4, V6}
use Rattle.bits_ip.specs.Prefix.{Net, net_cmp, same_net}
use Rattle.attrs.specs.declared.route.Change.{Change}
use Rattle.attrs.specs.declared.route.Route.{Route}
use Rattle.attrs.specs.contracts.route.RoutePartialEq.TheImpl as route
use Rattle.attrs.specs.History.{Content, empty, is_of, or_else, last_of, after, IsReal}
use Rattle.attrs.proofs.Histories.{after-append}
use Rattle.attrs.proofs.Same.{route_option_decides}
use Rattle.import_core.specs.declared.import_spec.ImportSpec.{ImportSpec}
use Rattle.import_core.specs.declared.operation.Op.{Op}
use Rattle.import_core.specs.Imports.{Routes, Imports, nothing_yet, route_at}
use Rattle.import_core.specs.Decisions.{Filter}
use Rattle.import_core.specs.Operations.{done, after_from}
use Rattle.import_core.specs.Changes.{pairs_of, new_at, IsDifference, AreChanges, routes_from}
use Rattle.import_core.proofs.Routes.{some_same, at, at_is, at_tells, at_itself, Below, Sorted, sorted_nil, less_other, below_head, tail_sorted, found-below, same_entries}

from_test : {P : Type 0} → (t : Bool) → Decides t P → P ⊎ (P → ⊥)
from_test true d = inl (d.0 refl)
from_test false d = inr (λ h. absurd (false≢true (d.1 h)))

-- two routes of a net are one or not
pub option_tells : (a b : Option Route) → (a ≡ b) ⊎ (a ≢ b)
option_tells a b = from_test (option_eq (route.ghosts).eq a b) (route_option_decides a b)

abbrev net_of : Addr → ℕ → Net
net_of addr len = record { addr = addr; len = len }

at_parts : (x y : Addr) (m n : ℕ) → is_at (net_cmp (net_of x m)) (net_of y n) ≡ same_net (net_of x m) (net_of y n)
at_parts (V4 x) (V4 y) m n = grind (arith, nat_tests)
at_parts (V6 x) (V6 y) m n = grind (arith, nat_tests)
at_parts (V4 x) (V6 y) m n = refl
at_parts (V6 x) (V4 y) m n = refl

-- the test of maps is the test of nets
pub at_is_same : (k q : Net) → at k q ≡ same_net k q
at_is_same k q = at_parts k.addr q.addr k.len q.len

abbrev pub nets_of : List Change → List Net
nets_of changes = map (λ c. c.net) changes

pub keys_of_pairs : (changes : List Change) → keys_of (pairs_of changes) ≡ nets_of changes
keys_of_pairs [] = refl
keys_of_pairs (c ∷ cs) = ap (λ ks. c.net ∷ ks) (keys_of_pairs cs)

pub pairs_sorted : (changes : List Change) → Sorted (nets_of changes) → Sorted (keys_of (pairs_of changes))
pairs_sorted changes s = subst (λ ks. Sorted ks) (sym (keys_of_pairs changes)) s

pub new_below : (q : Net) (changes : List Change) → Below q (nets_of changes) → new_at q changes ≡ None
new_below q changes b = found-below q (pairs_of changes) (subst (λ ks. Below q ks) (sym (keys_of_pairs changes)) b)

same_cond : {A : Type 0} (t : Bool) (x : A) → x ≡ cond t x x
same_cond true x = refl
same_cond false x = refl

-- one source's last change of a net is its only one
last_is : (source : ℕ) (net : Net) (num : ℕ) (changes : List Change) → Sorted (nets_of changes) → AllByRecursion (λ c. c.num ≡ source) changes
    → last_of net num changes ≡ (if num == source then new_at net changes else None)
last_is source net num [] sorted from = same_cond (num == source) None
last_is source net num (c ∷ cs) sorted from =
    ap (λ o. or_else o (if is_of net num c then Some c.new else None)) (last_is source net num cs (tail_sorted c.net (nets_of cs) sorted) from.1)
    ∙ ap (λ t. or_else (if num == source then new_at net cs else None) (if t then Some c.new else None)) (test (same_net net c.net) (at net c.net) (sym (at_is_same net c.net)))
    ∙ by (num == source) (at net c.net) refl
  where
    test : (s t : Bool) → s ≡ t → (s && (num == c.num)) ≡ (t && (num == source))
    test s t e = rw (e, from.0) refl

    by : (t u : Bool) → at net c.net ≡ u → or_else (cond t (new_at net cs) None) (cond (u && t) (Some c.new) None) ≡ cond t (cond u (Some c.new) (new_at net cs)) None
    by true true e =
        let none : new_at net cs ≡ None = subst (λ n. new_at n cs ≡ None) (sym (at_is net c.net e)) (new_below c.net cs (below_head c.net (nets_of cs) sorted)) in
        ap (λ o. or_else o (Some c.new)) none
    by true false e = or_none (new_at net cs) where
      or_none : (o : Option (Option Route)) → or_else o None ≡ o
      or_none None = refl
      or_none (Some x) = refl
    by false true e = refl
    by false false e = refl

module _ (source : ℕ) where
  -- the changes leave the routes after, of the routes before
  pub difference_leaves : (before later : Routes) (changes : List Change) → IsDifference source before later changes
      → (net : Net) (num : ℕ) → after (routes_from source before) changes net num ≡ routes_from source later net num
  difference_leaves before later changes is net num =
      ap (λ o. unwrap_or o (routes_from source before net num)) (last_is source net num changes is.order is.source) ∙ by (num == source)
    where
      at_source : (o : Option (Option Route)) → (route_at net before ≢ route_at net later → o ≡ Some (route_at net later)) → (route_at net before ≡ route_at net later → o ≡ None)
          → unwrap_or o (route_at net before) ≡ route_at net later
      at_source o differing same = elim (option_tells (route_at net before) (route_at net later)) [
        | inl w ↦ ap (λ o. unwrap_or o (route_at net before)) (same w) ∙ w
        | inr w ↦ ap (λ o. unwrap_or o (route_at net before)) (differing w)
      ]

      by : (t : Bool) → unwrap_or (cond t (new_at net changes) None) (cond t (route_at net before) None) ≡ cond t (route_at net later) None
      by true = at_source (new_at net changes) (is.differing net) (is.same net)
      by false = refl

  differs : (before later : Routes) (changes : List Change) → IsDifference source before later changes → (net : Net) (new : Option Route) → new_at net changes ≡ Some new → route_at net before ≢ new
  differs before later changes is net new e same = elim (option_tells (route_at net before) (route_at net later)) [
    | inl w ↦ let h : None ≡ Some new = sym (is.same net w) ∙ e in cc
    | inr w ↦ w (same ∙ some_same (sym e ∙ is.differing net w))
  ]

  -- each change differs from what stands for its key
  abbrev AllDiffer : Content → List Change → Type 0
  AllDiffer start changes = AllByRecursion (λ c. start c.net c.num ≢ c.new) changes

  all_differ : (before : Routes) (changes rest : List Change) → AllByRecursion (λ c. c.num ≡ source) rest → Sorted (nets_of rest)
      → ((net : Net) (new : Option Route) → new_at net changes ≡ Some new → route_at net before ≢ new)
      → ((net : Net) (new : Option Route) → new_at net rest ≡ Some new → new_at net changes ≡ Some new)
      → AllDiffer (routes_from source before) rest
  all_differ before changes [] from sorted differ among = tt
  all_differ before changes (c ∷ cs) from sorted differ among = (
    λ e. differ c.net c.new (among c.net c.new (ap (λ t. cond t (Some c.new) (new_at c.net cs)) (at_itself c.net))) (sym (of_source (c.num == source) (equal c.num source from.0)) ∙ e),
    all_differ before changes cs from.1 (tail_sorted c.net (nets_of cs) sorted) differ (λ net new e. among net new (behind net new e)),
  ) where
    equal : (m n : ℕ) → m ≡ n → (m == n) ≡ true
    equal m n e = grind (arith, nat_tests)

    of_source : (t : Bool) → t ≡ true → cond t (route_at c.net before) None ≡ route_at c.net before
    of_source t e = ap (λ t. cond t (route_at c.net before) None) e

    behind : (net : Net) (new : Option Route) → new_at net cs ≡ Some new → new_at net (c ∷ cs) ≡ Some new
    behind net new e = elim (at_tells net c.net) [
      | inl w ↦ let none : new_at net cs ≡ None = subst (λ n. new_at n cs ≡ None) (sym w.1) (new_below c.net cs (below_head c.net (nets_of cs) sorted)) in
          let h : Some new ≡ None = sym e ∙ none in cc
      | inr w ↦ ap (λ t. cond t (Some c.new) (new_at net cs)) w.0 ∙ e
    ]

  one_other : (start : Content) (c d : Change) → net_cmp c.net d.net ≡ Less → after start (c ∷ []) d.net d.num ≡ start d.net d.num
  one_other start c d less = by (same_net d.net c.net) (sym (at_is_same d.net c.net) ∙ apart) where
    apart : at d.net c.net ≡ false
    apart = elim (at_tells d.net c.net) [
      | inl w ↦ let h : at c.net c.net ≡ false = subst (λ n. at c.net n ≡ false) w.1 (less_other c.net d.net less) in
          absurd (false≢true (sym h ∙ at_itself c.net))
      | inr w ↦ w.0
    ]

    by : (t : Bool) → t ≡ false → unwrap_or (cond (t && (d.num == c.num)) (Some c.new) None) (start d.net d.num) ≡ start d.net d.num
    by t e = rw e refl

  still_differ : (start : Content) (c : Change) (cs : List Change) → Below c.net (nets_of cs) → AllDiffer start cs → AllDiffer (after start (c ∷ [])) cs
  still_differ start c [] below differ = tt
  still_differ start c (d ∷ ds) below differ =
      (λ e. differ.0 (sym (one_other start c d below.0) ∙ e), still_differ start c ds below.1 differ.1)

  real_differ : (start : Content) (cs : List Change) → Sorted (nets_of cs) → AllDiffer start cs → IsReal start cs
  real_differ start [] sorted differ = tt
  real_differ start (c ∷ cs) sorted differ =
      (differ.0, real_differ (after start (c ∷ [])) cs (tail_sorted c.net (nets_of cs) sorted) (still_differ start c cs (below_head c.net (nets_of cs) sorted) differ.1))

  pub difference_real : (before later : Routes) (changes : List Change) → IsDifference source before later changes → IsReal (routes_from source before) changes
  difference_real before later changes is =
      real_differ (routes_from source before) changes is.order
      (all_differ before changes changes is.source is.order (differs before later changes is) (λ net new e. e))

  one_of : (num : ℕ) → num ≡ source → (c d : Change) → c.num ≡ source → d.num ≡ source → c.net ≡ d.net → c.new ≡ d.new → c ≡ d
  one_of num n c d e f net new = let both : c.num ≡ d.num = e ∙ sym f in λ i. record { net = net i; num = both i; new = new i }

  changes_same : (cs ds : List Change) → AllByRecursion (λ c. c.num ≡ source) cs → AllByRecursion (λ c. c.num ≡ source) ds → pairs_of cs ≡ pairs_of ds → cs ≡ ds
  changes_same [] [] f g e = refl
  changes_same [] (d ∷ ds) f g e = cc
  changes_same (c ∷ cs) [] f g e = cc
  changes_same (c ∷ cs) (d ∷ ds) f g e =
      let first : (c.net, c.new) ≡ (d.net, d.new) = head_same e in
      let rest : cs ≡ ds = changes_same cs ds f.1 g.1 (tail_same e) in
      let one : c ≡ d = one_of source refl c d f.0 g.0 (ap (λ p. p.0) first) (ap (λ p. p.1) first) in
      λ i. one i ∷ rest i
    where
      head_same : {A : Type 0} {x y : A} {xs ys : List A} → x ∷ xs ≡ y ∷ ys → x ≡ y
      head_same e = cc

      tail_same : {A : Type 0} {x y : A} {xs ys : List A} → x ∷ xs ≡ y ∷ ys → xs ≡ ys
      tail_same e = cc

  -- two states have one difference
  pub difference_one : (before later : Routes) (cs ds : List Change) → IsDifference source before later cs → IsDifference source before later ds → cs ≡ ds
  difference_one before later cs ds is also =
      changes_same cs ds is.source also.source
      (same_entries (pairs_of cs) (pairs_of ds) (pairs_sorted cs is.order) (pairs_sorted ds also.order)
      (λ q. elim (option_tells (route_at q before) (route_at q later)) [
        | inl w ↦ is.same q w ∙ sym (also.same q w)
        | inr w ↦ is.differing q w ∙ sym (also.differing q w)
      ]))

real_same : (start other : Content) (cs : List Change) → ((net : Net) (num : ℕ) → start net num ≡ other net num) → IsReal start cs → IsReal other cs
real_same start other [] same real = tt
real_same start other (c ∷ cs) same real =
    (λ e. real.0 (same c.net c.num ∙ e), real_same (after start (c ∷ [])) (after other (c ∷ [])) cs (λ net num. ap (unwrap_or (last_of net num (c ∷ []))) (same net num)) real.1)

real_append : (start mid : Content) (xs ys : List Change) → IsReal start xs → ((net : Net) (num : ℕ) → after start xs net num ≡ mid net num) → IsReal mid ys → IsReal start (xs ++ ys)
real_append start mid [] ys real same later = real_same mid start ys (λ net num. sym (same net num)) later
real_append start mid (x ∷ xs) ys real same later =
    (real.0, real_append (after start (x ∷ [])) mid xs ys real.1 (λ net num. sym (after-append start (x ∷ []) xs net num) ∙ same net num) later)

module _ (spec : ImportSpec) (verdict : Filter) where
  pub all_leave : (ops : List Op) (i : Imports) (changes : List Change) → AreChanges spec verdict i ops changes
      → (net : Net) (num : ℕ) → after (routes_from spec.src.num i.accepted) changes net num ≡ routes_from spec.src.num (after_from spec verdict i ops).accepted net num
  all_leave [] i changes are net num = ap (λ cs. after (routes_from spec.src.num i.accepted) cs net num) are
  all_leave (op ∷ ops) i changes are net num =
      let next = (done spec verdict op i).imports in
      ap (λ cs. after (routes_from spec.src.num i.accepted) cs net num) are.2
      ∙ after-append (routes_from spec.src.num i.accepted) are.0 are.1 net num
      ∙ ap (unwrap_or (last_of net num are.1)) (difference_leaves spec.src.num i.accepted next.accepted are.0 are.3 net num)
      ∙ all_leave ops next are.1 are.4 net num

  pub all_real : (ops : List Op) (i : Imports) (changes : List Change) → AreChanges spec verdict i ops changes → IsReal (routes_from spec.src.num i.accepted) changes
  all_real [] i changes are = subst (λ cs. IsReal (routes_from spec.src.num i.accepted) cs) (sym are) tt
  all_real (op ∷ ops) i changes are =
      let next = (done spec verdict op i).imports in
      subst (λ cs. IsReal (routes_from spec.src.num i.accepted) cs) (sym are.2)
      (real_append (routes_from spec.src.num i.accepted) (routes_from spec.src.num next.accepted) are.0 are.1
      (difference_real spec.src.num i.accepted next.accepted are.0 are.3)
      (difference_leaves spec.src.num i.accepted next.accepted are.0 are.3)
      (all_real ops next are.1 are.4))

  from_nothing : (source : ℕ) (net : Net) (num : ℕ) → routes_from source [] net num ≡ empty net num
  from_nothing source net num = sym (same_cond (num == source) None)

  pub leave_from_nothing : (ops : List Op) (changes : List Change) → AreChanges spec verdict nothing_yet ops changes
      → (net : Net) (num : ℕ) → after empty changes net num ≡ routes_from spec.src.num (after_from spec verdict nothing_yet ops).accepted net num
  leave_from_nothing ops changes are net num =
      ap (unwrap_or (last_of net num changes)) (sym (from_nothing spec.src.num net num)) ∙ all_leave ops nothing_yet changes are net num

  pub real_from_nothing : (ops : List Op) (changes : List Change) → AreChanges spec verdict nothing_yet ops changes → IsReal empty changes
  real_from_nothing ops changes are =
      real_same (routes_from spec.src.num []) empty changes (from_nothing spec.src.num) (all_real ops nothing_yet changes are)

-- what does not change has no changes
pub no_difference : (source : ℕ) (routes : Routes) → IsDifference source routes routes []
no_difference source routes = record {
  order = sorted_nil;
  source = tt;
  differing = λ net differs. absurd (differs refl);
  same = λ net _. refl;
}

pub nothing_changed : (source : ℕ) (before later : Routes) (changes : List Change) → later ≡ before → IsDifference source before later changes → changes ≡ []
nothing_changed source before later changes e is =
    difference_one source before before changes [] (subst (λ (r : Routes). IsDifference source before r changes) e is) (no_difference source before)
