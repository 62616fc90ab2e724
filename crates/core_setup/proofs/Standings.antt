-- Entries by key, in the order of keys: those of which the same is found are the same.
use Rattle.std.proofs.Common.{◌≡◌, ◌⊎◌, ℕ, inl, inr, Bool, true, false, cond, List, [], ◌∷◌, Option, Some, None, refl, sym, ◌∙◌, ap, subst, arith, Ordering, Less, Equal, Greater}
use Rattle.std.specs.BTreeMap.{is_at}
use Rattle.std.specs.List.{AllByRecursion}
use Rattle.std.specs.List.Sorted.{IsStrictlySortedBy}
use Rattle.std.specs.Map.{keys_of, lookup}
use Rattle.std.specs.Ordering.{is_eq, nat_cmp, ordering_reverse, ordering_then}
use Rattle.std.specs.Cmp.{IsTotalOrder}
use Rattle.std.proofs.lemmas.Bool.Decides.{nat_tests}
use Rattle.std.proofs.lemmas.Cmp.{nat_cmp_total, on_total, then_total, tied_itself}
use Rattle.std.proofs.lemmas.Map.Keys.{sorted_head, sorted_tail}
use Rattle.bits_ip.proofs.Nets.{net_cmp_equal, net_cmp_total}
use Rattle.export_core.specs.Keys.{key_cmp}
use Rattle.export_core.specs.declared.log.Key.{Key}
use Rattle.core_setup.proofs.Numbered.{some_same}

key_total : IsTotalOrder key_cmp
key_total = then_total (on_total (λ (k : Key). k.net) net_cmp_total) (on_total (λ (k : Key). k.num) nat_cmp_total)

both_equal : (o p : Ordering) → ordering_then o p ≡ Equal → (o ≡ Equal) × (p ≡ Equal)
both_equal Less p e = cc
both_equal Equal p e = (refl, e)
both_equal Greater p e = cc

nat_equal : (m n : ℕ) → nat_cmp m n ≡ Equal → m ≡ n
nat_equal m n e = grind (arith, nat_tests)

key_equal : (a b : Key) → key_cmp a b ≡ Equal → a ≡ b
key_equal a b e =
    let parts = both_equal _ (nat_cmp a.num b.num) e in
    let net : a.net ≡ b.net = net_cmp_equal a.net b.net parts.0 in
    let num : a.num ≡ b.num = nat_equal a.num b.num parts.1 in
    λ j. record { net = net j; num = num j }

abbrev at : Key → Key → Bool
at a b = is_at (key_cmp a) b

eq_is : (o : Ordering) → is_eq o ≡ true → o ≡ Equal
eq_is Less e = cc
eq_is Equal e = refl
eq_is Greater e = cc

at_itself : (a : Key) → at a a ≡ true
at_itself a = ap is_eq (tied_itself key_total a)

at_tells : (a b : Key) → ((at a b ≡ true) × (a ≡ b)) ⊎ (at a b ≡ false)
at_tells a b = by (at a b) refl where
  by : (t : Bool) → at a b ≡ t → ((at a b ≡ true) × (a ≡ b)) ⊎ (at a b ≡ false)
  by true e = inl (e, key_equal a b (eq_is (key_cmp a b) e))
  by false e = inr e

-- the key is before each of these
abbrev Below : Key → List Key → Type 0
Below k ks = AllByRecursion (λ y. key_cmp k y ≡ Less) ks

abbrev Sorted : List Key → Type 0
Sorted ks = IsStrictlySortedBy key_cmp ks

below_chain : (a b : Key) (ks : List Key) → key_cmp a b ≡ Less → Below b ks → Below a ks
below_chain a b [] h below = tt
below_chain a b (k ∷ ks) h below = (key_total.trans a b k h below.0, below_chain a b ks h below.1)

greater_flip : (a b : Key) → key_cmp a b ≡ Greater → key_cmp b a ≡ Less
greater_flip a b e = key_total.antisymm b a ∙ ap ordering_reverse e

module _ {X : Type 0} where
  abbrev found : Key → List (Key × X) → Option X
  found q es = lookup (is_at (key_cmp q)) es

  found_below : (q : Key) (es : List (Key × X)) → Below q (keys_of es) → found q es ≡ None
  found_below q [] b = refl
  found_below q (e ∷ es) b = ap (λ t. cond t (Some e.1) (found q es)) (ap is_eq b.0) ∙ found_below q es b.1

  found_here : (e : Key × X) (es : List (Key × X)) → found e.0 (e ∷ es) ≡ Some e.1
  found_here e es = ap (λ t. cond t (Some e.1) (found e.0 es)) (at_itself e.0)

  found_behind : (e : Key × X) (es : List (Key × X)) (q : Key) → Sorted (keys_of (e ∷ es)) → found q es ≡ cond (at q e.0) None (found q (e ∷ es))
  found_behind e es q s = elim (at_tells q e.0) [
    | inl w ↦ subst (λ n. found n es ≡ None) (sym w.1) (found_below e.0 es (sorted_head key_cmp e.0 (keys_of es) s))
        ∙ sym (ap (λ t. cond t None (found q (e ∷ es))) w.0)
    | inr w ↦ sym (ap (λ t. cond t (Some e.1) (found q es)) w) ∙ sym (ap (λ t. cond t None (found q (e ∷ es))) w)
  ]

  lower : (d e : Key × X) (ds es : List (Key × X)) → Sorted (keys_of (e ∷ es)) → key_cmp d.0 e.0 ≡ Less → ((q : Key) → found q (d ∷ ds) ≡ found q (e ∷ es)) → ⊥
  lower d e ds es t p same =
      let none : found d.0 (e ∷ es) ≡ None = found_below d.0 (e ∷ es) (p, below_chain d.0 e.0 (keys_of es) p (sorted_head key_cmp e.0 (keys_of es) t)) in
      let h : Some d.1 ≡ None = sym (found_here d ds) ∙ same d.0 ∙ none in cc

  first_same : (d e : Key × X) (ds es : List (Key × X)) → Sorted (keys_of (d ∷ ds)) → Sorted (keys_of (e ∷ es)) → ((q : Key) → found q (d ∷ ds) ≡ found q (e ∷ es)) → d.0 ≡ e.0
  first_same d e ds es s t same = by (key_cmp d.0 e.0) refl where
    by : (r : Ordering) → key_cmp d.0 e.0 ≡ r → d.0 ≡ e.0
    by Less p = absurd (lower d e ds es t p same)
    by Equal p = key_equal d.0 e.0 p
    by Greater p = absurd (lower e d es ds s (greater_flip d.0 e.0 p) (λ q. sym (same q)))

  pub same_entries : (ds es : List (Key × X)) → Sorted (keys_of ds) → Sorted (keys_of es) → ((q : Key) → found q ds ≡ found q es) → ds ≡ es
  same_entries [] [] s t same = refl
  same_entries [] (e ∷ es) s t same = let h : None ≡ Some e.1 = same e.0 ∙ found_here e es in cc
  same_entries (d ∷ ds) [] s t same = let h : None ≡ Some d.1 = sym (same d.0) ∙ found_here d ds in cc
  same_entries (d ∷ ds) (e ∷ es) s t same =
      let key : d.0 ≡ e.0 = first_same d e ds es s t same in
      let value : d.1 ≡ e.1 = some_same (sym (found_here d ds) ∙ same d.0 ∙ ap (λ n. found n (e ∷ es)) key ∙ found_here e es) in
      let rest : ds ≡ es = same_entries ds es (sorted_tail key_cmp d.0 (keys_of ds) s) (sorted_tail key_cmp e.0 (keys_of es) t)
      (λ q. found_behind d ds q s ∙ ap (λ n. cond (at q n) None (found q (d ∷ ds))) key ∙ ap (λ o. cond (at q e.0) None o) (same q) ∙ sym (found_behind e es q t)) in
      λ i. (key i, value i) ∷ rest i
