-- Finite maps by net, as lists of their entries in the order of nets.
use Rattle.std.proofs.Common.{◌≡◌, ◌≢◌, ◌⊎◌, ◌+◌, ◌≤◌, inl, inr, Bool, true, false, cond, not, List, [], ◌∷◌, ◌++◌, length, Option, Some, None, refl, sym, ◌∙◌, ap, subst, arith, Ordering, Less, Equal, Greater}
use Rattle.std.specs.Prelude.{filter}
use Rattle.std.specs.BTreeMap.{insert_entry, is_at}
use Rattle.std.specs.List.{AllByRecursion}
use Rattle.std.specs.List.Sorted.{IsStrictlySortedBy}
use Rattle.std.specs.Map.{keys_of, lookup}
use Rattle.std.specs.Ordering.{is_eq, match_ordering, ordering_reverse}
use Rattle.std.proofs.lemmas.Cmp.{tied_itself}
use Rattle.std.proofs.lemmas.Map.Keys.{sorted_head, sorted_tail}
use Rattle.std.proofs.lemmas.Map.Entries.{lookup-filter-keys}
use Rattle.bits_ip.specs.Prefix.{Net, net_cmp}
use Rattle.bits_ip.proofs.Nets.{net_cmp_total, net_cmp_equal}

-- whether two nets are one, as maps test it
abbrev pub at : Net → Net → Bool
at a b = is_at (net_cmp a) b

eq_is : (o : Ordering) → is_eq o ≡ true → o ≡ Equal
eq_is Less e = cc
eq_is Equal e = refl
eq_is Greater e = cc

pub at_is : (a b : Net) → at a b ≡ true → a ≡ b
at_is a b e = net_cmp_equal a b (eq_is (net_cmp a b) e)

pub at_itself : (a : Net) → at a a ≡ true
at_itself a = ap is_eq (tied_itself net_cmp_total a)

by_test : (a b : Net) (t : Bool) → at a b ≡ t → ((at a b ≡ true) × (a ≡ b)) ⊎ ((at a b ≡ false) × (a ≢ b))
by_test a b true e = inl (e, at_is a b e)
by_test a b false e =
    inr (e, λ same. let w : at a b ≡ true = subst (λ q. at a q ≡ true) same (at_itself a) in let bad : false ≡ true = sym e ∙ w in cc)

-- two nets are one, or the test says that they aren't
pub at_tells : (a b : Net) → ((at a b ≡ true) × (a ≡ b)) ⊎ ((at a b ≡ false) × (a ≢ b))
at_tells a b = by_test a b (at a b) refl

pub at_flip : (a b : Net) → at a b ≡ at b a
at_flip a b = elim (at_tells a b) [
  | inl w ↦ w.0 ∙ sym (subst (λ n. at n a ≡ true) w.1 (at_itself a))
  | inr w ↦ elim (at_tells b a) [ inl v ↦ absurd (w.1 (sym v.1)) | inr v ↦ w.0 ∙ sym v.0 ]
]

-- the net is before each of these
abbrev pub Below : Net → List Net → Type 0
Below k ks = AllByRecursion (λ y. net_cmp k y ≡ Less) ks

abbrev pub Sorted : List Net → Type 0
Sorted ks = IsStrictlySortedBy net_cmp ks

pub sorted_nil : Sorted []
unfolding IsStrictlySortedBy
sorted_nil = tt

pub sorted_cons : (k : Net) (ks : List Net) → Below k ks → Sorted ks → Sorted (k ∷ ks)
unfolding IsStrictlySortedBy
sorted_cons k ks b s = (b, s)

pub below_head : (k : Net) (ks : List Net) → Sorted (k ∷ ks) → Below k ks
below_head k ks s = sorted_head net_cmp k ks s

pub tail_sorted : (k : Net) (ks : List Net) → Sorted (k ∷ ks) → Sorted ks
tail_sorted k ks s = sorted_tail net_cmp k ks s

pub below_chain : (a b : Net) (ks : List Net) → net_cmp a b ≡ Less → Below b ks → Below a ks
below_chain a b [] h below = tt
below_chain a b (k ∷ ks) h below = (net_cmp_total.trans a b k h below.0, below_chain a b ks h below.1)

pub greater_flip : (a b : Net) → net_cmp a b ≡ Greater → net_cmp b a ≡ Less
greater_flip a b e = net_cmp_total.antisymm b a ∙ ap ordering_reverse e

less_at : (o : Ordering) → o ≡ Less → is_eq o ≡ false
less_at o e = ap is_eq e

pub less_other : (a b : Net) → net_cmp a b ≡ Less → at a b ≡ false
less_other a b e = less_at (net_cmp a b) e

other_not : (k q x : Net) → at q x ≡ true → not (at k x) ≡ not (at k q)
other_not k q x e = ap (λ n. not (at k n)) (sym (at_is q x e))

pub some_same : {A : Type 0} {x y : A} → Some x ≡ Some y → x ≡ y
some_same e = cc

module _ {X : Type 0} where
  abbrev pub found : Net → List (Net × X) → Option X
  found q es = lookup (is_at (net_cmp q)) es

  abbrev pub put : Net → X → List (Net × X) → List (Net × X)
  put k v es = insert_entry net_cmp es k v

  abbrev pub dropped : Net → List (Net × X) → List (Net × X)
  dropped k es = filter (λ e. not (is_at (net_cmp k) e.0)) es

  -- what is found with one more entry
  pub found-put : (q k : Net) (v : X) (es : List (Net × X)) → found q (put k v es) ≡ cond (at q k) (Some v) (found q es)
  found-put q k v [] = refl
  found-put q k v (e ∷ es) = by (net_cmp k e.0) refl (found-put q k v es) where
    over : (t : Bool) (x y z : Option X) → cond t x z ≡ cond t x (cond t y z)
    over true x y z = refl
    over false x y z = refl

    past : (s t : Bool) (x y z : Option X) → (s ≡ true → t ≡ false) → cond s y (cond t x z) ≡ cond t x (cond s y z)
    past true true x y z apart = let h = apart refl in cc
    past true false x y z apart = refl
    past false t x y z apart = refl

    by : (r : Ordering) → net_cmp k e.0 ≡ r → found q (put k v es) ≡ cond (at q k) (Some v) (found q es)
        → found q (match_ordering r ((k, v) ∷ e ∷ es) ((e.0, v) ∷ es) (e ∷ put k v es)) ≡ cond (at q k) (Some v) (found q (e ∷ es))
    by Less p later = refl
    by Equal p later =
        subst (λ n. cond (at q e.0) (Some v) (found q es) ≡ cond (at q n) (Some v) (cond (at q e.0) (Some e.1) (found q es)))
        (sym (net_cmp_equal k e.0 p))
        (over (at q e.0) (Some v) (Some e.1) (found q es))
    by Greater p later =
        ap (λ o. cond (at q e.0) (Some e.1) o) later
        ∙ past (at q e.0) (at q k) (Some v) (Some e.1) (found q es)
        (λ here. elim (at_tells q k) [
          | inl w ↦ let one : k ≡ e.0 = sym w.1 ∙ at_is q e.0 here in
              let gt : is_eq (net_cmp k e.0) ≡ false = ap is_eq p in
              let eq : is_eq (net_cmp k e.0) ≡ true = subst (λ n. at k n ≡ true) one (at_itself k) in
              absurd (let bad : false ≡ true = sym gt ∙ eq in cc)
          | inr w ↦ w.0
        ])

  not_cond : (t : Bool) (a b : Option X) → cond (not t) a b ≡ cond t b a
  not_cond true a b = refl
  not_cond false a b = refl

  -- and without an entry
  pub found-dropped : (q k : Net) (es : List (Net × X)) → found q (dropped k es) ≡ cond (at k q) None (found q es)
  found-dropped q k es =
      lookup-filter-keys (is_at (net_cmp q)) (λ x. not (is_at (net_cmp k) x)) (not (at k q)) (other_not k q) es
      ∙ not_cond (at k q) (found q es) None

  below-put : (a k : Net) (v : X) (es : List (Net × X)) → net_cmp a k ≡ Less → Below a (keys_of es) → Below a (keys_of (put k v es))
  below-put a k v [] h b = (h, tt)
  below-put a k v (e ∷ es) h b = by (net_cmp k e.0) (below-put a k v es h b.1) where
    by : (r : Ordering) → Below a (keys_of (put k v es)) → Below a (keys_of (match_ordering r ((k, v) ∷ e ∷ es) ((e.0, v) ∷ es) (e ∷ put k v es)))
    by Less later = (h, b)
    by Equal later = b
    by Greater later = (b.0, later)

  pub sorted-put : (k : Net) (v : X) (es : List (Net × X)) → Sorted (keys_of es) → Sorted (keys_of (put k v es))
  sorted-put k v [] s = sorted_cons k [] tt sorted_nil
  sorted-put k v (e ∷ es) s = by (net_cmp k e.0) refl (sorted-put k v es (tail_sorted e.0 (keys_of es) s)) where
    by : (r : Ordering) → net_cmp k e.0 ≡ r → Sorted (keys_of (put k v es)) → Sorted (keys_of (match_ordering r ((k, v) ∷ e ∷ es) ((e.0, v) ∷ es) (e ∷ put k v es)))
    by Less p later = sorted_cons k (e.0 ∷ keys_of es) (p, below_chain k e.0 (keys_of es) p (below_head e.0 (keys_of es) s)) s
    by Equal p later = s
    by Greater p later = sorted_cons e.0 (keys_of (put k v es)) (below-put e.0 k v es (greater_flip k e.0 p) (below_head e.0 (keys_of es) s)) later

  below-filter : (test : Net × X → Bool) (a : Net) (es : List (Net × X)) → Below a (keys_of es) → Below a (keys_of (filter test es))
  below-filter test a [] b = tt
  below-filter test a (e ∷ es) b = by (test e) (below-filter test a es b.1) where
    by : (t : Bool) → Below a (keys_of (filter test es)) → Below a (keys_of (cond t (e ∷ filter test es) (filter test es)))
    by true later = (b.0, later)
    by false later = later

  pub sorted-filter : (test : Net × X → Bool) (es : List (Net × X)) → Sorted (keys_of es) → Sorted (keys_of (filter test es))
  sorted-filter test [] s = s
  sorted-filter test (e ∷ es) s = by (test e) (sorted-filter test es (tail_sorted e.0 (keys_of es) s)) where
    by : (t : Bool) → Sorted (keys_of (filter test es)) → Sorted (keys_of (cond t (e ∷ filter test es) (filter test es)))
    by true later = sorted_cons e.0 (keys_of (filter test es)) (below-filter test e.0 es (below_head e.0 (keys_of es) s)) later
    by false later = later

  -- a net before all isn't among them
  pub found-below : (q : Net) (es : List (Net × X)) → Below q (keys_of es) → found q es ≡ None
  found-below q [] b = refl
  found-below q (e ∷ es) b = ap (λ t. cond t (Some e.1) (found q es)) (less_other q e.0 b.0) ∙ found-below q es b.1

  found_here : (e : Net × X) (es : List (Net × X)) → found e.0 (e ∷ es) ≡ Some e.1
  found_here e es = ap (λ t. cond t (Some e.1) (found e.0 es)) (at_itself e.0)

  found_behind : (e : Net × X) (es : List (Net × X)) (q : Net) → Sorted (keys_of (e ∷ es)) → found q es ≡ cond (at q e.0) None (found q (e ∷ es))
  found_behind e es q s = elim (at_tells q e.0) [
    | inl w ↦ subst (λ n. found n es ≡ None) (sym w.1) (found-below e.0 es (below_head e.0 (keys_of es) s))
        ∙ sym (ap (λ t. cond t None (found q (e ∷ es))) w.0)
    | inr w ↦ sym (ap (λ t. cond t (Some e.1) (found q es)) w.0) ∙ sym (ap (λ t. cond t None (found q (e ∷ es))) w.0)
  ]

  lower : (d e : Net × X) (ds es : List (Net × X)) → Sorted (keys_of (e ∷ es)) → net_cmp d.0 e.0 ≡ Less → ((q : Net) → found q (d ∷ ds) ≡ found q (e ∷ es)) → ⊥
  lower d e ds es t p same =
      let none : found d.0 (e ∷ es) ≡ None = found-below d.0 (e ∷ es) (p, below_chain d.0 e.0 (keys_of es) p (below_head e.0 (keys_of es) t)) in
      let h : Some d.1 ≡ None = sym (found_here d ds) ∙ same d.0 ∙ none in cc

  first_same : (d e : Net × X) (ds es : List (Net × X)) → Sorted (keys_of (d ∷ ds)) → Sorted (keys_of (e ∷ es)) → ((q : Net) → found q (d ∷ ds) ≡ found q (e ∷ es)) → d.0 ≡ e.0
  first_same d e ds es s t same = by (net_cmp d.0 e.0) refl where
    by : (r : Ordering) → net_cmp d.0 e.0 ≡ r → d.0 ≡ e.0
    by Less p = absurd (lower d e ds es t p same)
    by Equal p = net_cmp_equal d.0 e.0 p
    by Greater p = absurd (lower e d es ds s (greater_flip d.0 e.0 p) (λ q. sym (same q)))

  -- entries in order of which the same is found are the same
  pub same_entries : (ds es : List (Net × X)) → Sorted (keys_of ds) → Sorted (keys_of es) → ((q : Net) → found q ds ≡ found q es) → ds ≡ es
  same_entries [] [] s t same = refl
  same_entries [] (e ∷ es) s t same = let h : None ≡ Some e.1 = same e.0 ∙ found_here e es in cc
  same_entries (d ∷ ds) [] s t same = let h : None ≡ Some d.1 = sym (same d.0) ∙ found_here d ds in cc
  same_entries (d ∷ ds) (e ∷ es) s t same =
      let key : d.0 ≡ e.0 = first_same d e ds es s t same in
      let value : d.1 ≡ e.1 = some_same (sym (found_here d ds) ∙ same d.0 ∙ ap (λ n. found n (e ∷ es)) key ∙ found_here e es) in
      let rest : ds ≡ es = same_entries ds es (tail_sorted d.0 (keys_of ds) s) (tail_sorted e.0 (keys_of es) t)
      (λ q. found_behind d ds q s ∙ ap (λ n. cond (at q n) None (found q (d ∷ ds))) key ∙ ap (λ o. cond (at q e.0) None o) (same q) ∙ sym (found_behind e es q t)) in
      λ i. (key i, value i) ∷ rest i

  -- how many entries there are with one more
  pub length-put-there : (k : Net) (v w : X) (es : List (Net × X)) → Sorted (keys_of es) → found k es ≡ Some w → length (put k v es) ≡ length es
  length-put-there k v w [] s e = cc
  length-put-there k v w (e ∷ es) s there =
      by (net_cmp k e.0) refl (λ later. length-put-there k v w es (tail_sorted e.0 (keys_of es) s) later) where
        by : (r : Ordering) → net_cmp k e.0 ≡ r → (found k es ≡ Some w → length (put k v es) ≡ length es) → length (match_ordering r ((k, v) ∷ e ∷ es) ((e.0, v) ∷ es) (e ∷ put k v es)) ≡ length (e ∷ es)
        by Less p rest =
            let none : found k (e ∷ es) ≡ None = found-below k (e ∷ es) (p, below_chain k e.0 (keys_of es) p (below_head e.0 (keys_of es) s)) in
            let h : Some w ≡ None = sym there ∙ none in cc
        by Equal p rest = refl
        by Greater p rest =
            let later : found k es ≡ Some w = sym (ap (λ t. cond t (Some e.1) (found k es)) (ap is_eq p)) ∙ there in
            let n = rest later in
            omega (arith, n)

  pub length-put : (k : Net) (v : X) (es : List (Net × X)) → length (put k v es) ≤ length es + 1
  length-put k v [] = omega arith
  length-put k v (e ∷ es) = by (net_cmp k e.0) (length-put k v es) where
    by : (r : Ordering) → length (put k v es) ≤ length es + 1 → length (match_ordering r ((k, v) ∷ e ∷ es) ((e.0, v) ∷ es) (e ∷ put k v es)) ≤ length (e ∷ es) + 1
    by Less later = omega arith
    by Equal later = omega arith
    by Greater later = omega arith

  pub length-filter : (test : Net × X → Bool) (es : List (Net × X)) → length (filter test es) ≤ length es
  length-filter test [] = omega arith
  length-filter test (e ∷ es) = by (test e) (length-filter test es) where
    by : (t : Bool) → length (filter test es) ≤ length es → length (cond t (e ∷ filter test es) (filter test es)) ≤ length (e ∷ es)
    by true later = omega arith
    by false later = omega arith

  -- put twice
  pub put-again : (k : Net) (v : X) (es : List (Net × X)) → put k v (put k v es) ≡ put k v es
  put-again k v [] = ap (λ r. match_ordering r ((k, v) ∷ (k, v) ∷ []) ((k, v) ∷ []) ((k, v) ∷ (k, v) ∷ [])) (tied_itself net_cmp_total k)
  put-again k v (e ∷ es) = by (net_cmp k e.0) refl (put-again k v es) where
    by : (r : Ordering) → net_cmp k e.0 ≡ r → put k v (put k v es) ≡ put k v es
        → put k v (match_ordering r ((k, v) ∷ e ∷ es) ((e.0, v) ∷ es) (e ∷ put k v es)) ≡ match_ordering r ((k, v) ∷ e ∷ es) ((e.0, v) ∷ es) (e ∷ put k v es)
    by Less p later = ap (λ r. match_ordering r ((k, v) ∷ (k, v) ∷ e ∷ es) ((k, v) ∷ e ∷ es) ((k, v) ∷ put k v (e ∷ es))) (tied_itself net_cmp_total k)
    by Equal p later = ap (λ r. match_ordering r ((k, v) ∷ (e.0, v) ∷ es) ((e.0, v) ∷ es) ((e.0, v) ∷ put k v es)) p
    by Greater p later =
        ap (λ r. match_ordering r ((k, v) ∷ e ∷ put k v es) ((e.0, v) ∷ put k v es) (e ∷ put k v (put k v es))) p ∙ ap (λ es. e ∷ es) later

  -- taken out twice, and taken out where nothing was
  pub dropped-again : (k : Net) (es : List (Net × X)) → dropped k (dropped k es) ≡ dropped k es
  dropped-again k [] = refl
  dropped-again k (e ∷ es) = by (not (at k e.0)) refl (dropped-again k es) where
    by : (t : Bool) → not (at k e.0) ≡ t → dropped k (dropped k es) ≡ dropped k es
        → dropped k (cond t (e ∷ dropped k es) (dropped k es)) ≡ cond t (e ∷ dropped k es) (dropped k es)
    by true p later = ap (λ t. cond t (e ∷ dropped k (dropped k es)) (dropped k (dropped k es))) p ∙ ap (λ es. e ∷ es) later
    by false p later = later

  pub dropped-absent : (k : Net) (es : List (Net × X)) → found k es ≡ None → dropped k es ≡ es
  dropped-absent k [] none = refl
  dropped-absent k (e ∷ es) none = by (at k e.0) none (λ n. dropped-absent k es n) where
    by : (t : Bool) → cond t (Some e.1) (found k es) ≡ None → (found k es ≡ None → dropped k es ≡ es) → cond (not t) (e ∷ dropped k es) (dropped k es) ≡ e ∷ es
    by true n later = let h : Some e.1 ≡ None = n in cc
    by false n later = ap (λ es. e ∷ es) (later n)

  pub length-put-new : (k : Net) (v : X) (es : List (Net × X)) → found k es ≡ None → length (put k v es) ≡ length es + 1
  length-put-new k v [] e = omega arith
  length-put-new k v (e ∷ es) none = by (net_cmp k e.0) refl (λ n. length-put-new k v es n) where
    by : (r : Ordering) → net_cmp k e.0 ≡ r → (found k es ≡ None → length (put k v es) ≡ length es + 1)
        → length (match_ordering r ((k, v) ∷ e ∷ es) ((e.0, v) ∷ es) (e ∷ put k v es)) ≡ length (e ∷ es) + 1
    by Less p rest = omega arith
    by Equal p rest = let h : Some e.1 ≡ None = sym (ap (λ t. cond t (Some e.1) (found k es)) (ap is_eq p)) ∙ none in cc
    by Greater p rest =
        let n = rest (sym (ap (λ t. cond t (Some e.1) (found k es)) (ap is_eq p)) ∙ none) in omega (arith, n)

  -- a net in order stands once
  pub length-dropped : (k : Net) (w : X) (es : List (Net × X)) → Sorted (keys_of es) → found k es ≡ Some w → length (dropped k es) + 1 ≡ length es
  length-dropped k w [] s e = cc
  length-dropped k w (e ∷ es) s there = elim (at_tells k e.0) [
    | inl v ↦ let gone : dropped k es ≡ es = dropped-absent k es (subst (λ n. found n es ≡ None) (sym v.1) (found-below e.0 es (below_head e.0 (keys_of es) s))) in
        ap (λ t. length (cond (not t) (e ∷ dropped k es) (dropped k es)) + 1) v.0 ∙ here (dropped k es) es (ap length gone)
    | inr v ↦ let later : found k es ≡ Some w = sym (ap (λ t. cond t (Some e.1) (found k es)) v.0) ∙ there in
        ap (λ t. length (cond (not t) (e ∷ dropped k es) (dropped k es)) + 1) v.0
        ∙ behind (dropped k es) es (length-dropped k w es (tail_sorted e.0 (keys_of es) s) later)
  ] where
    here : (xs ys : List (Net × X)) → length xs ≡ length ys → length xs + 1 ≡ length (e ∷ ys)
    here xs ys h = omega (arith, h)

    behind : (xs ys : List (Net × X)) → length xs + 1 ≡ length ys → length (e ∷ xs) + 1 ≡ length (e ∷ ys)
    behind xs ys h = omega (arith, h)

-- each of these is before the net
abbrev pub Above : List Net → Net → Type 0
Above ks k = AllByRecursion (λ y. net_cmp y k ≡ Less) ks

pub above_chain : (ks : List Net) (a b : Net) → Above ks a → net_cmp a b ≡ Less → Above ks b
above_chain [] a b above h = tt
above_chain (k ∷ ks) a b above h = (net_cmp_total.trans k a b above.0 h, above_chain ks a b above.1 h)

pub above_push : (ks : List Net) (a k : Net) → Above ks k → net_cmp a k ≡ Less → Above (ks ++ a ∷ []) k
above_push [] a k above h = (h, tt)
above_push (x ∷ ks) a k above h = (above.0, above_push ks a k above.1 h)

below_push : (a : Net) (ks : List Net) (k : Net) → Below a ks → net_cmp a k ≡ Less → Below a (ks ++ k ∷ [])
below_push a [] k b h = (h, tt)
below_push a (x ∷ ks) k b h = (b.0, below_push a ks k b.1 h)

pub sorted_push : (ks : List Net) (k : Net) → Sorted ks → Above ks k → Sorted (ks ++ k ∷ [])
sorted_push [] k s above = sorted_cons k [] tt sorted_nil
sorted_push (x ∷ ks) k s above = sorted_cons x (ks ++ k ∷ []) (below_push x ks k (below_head x ks s) above.0) (sorted_push ks k (tail_sorted x ks s) above.1)

below_last : (a : Net) (ks : List Net) (k : Net) (rest : List Net) → Below a (ks ++ k ∷ rest) → net_cmp a k ≡ Less
below_last a [] k rest b = b.0
below_last a (x ∷ ks) k rest b = below_last a ks k rest b.1

-- what stands before a net in order is before it
pub above_from : (ks : List Net) (k : Net) (rest : List Net) → Sorted (ks ++ k ∷ rest) → Above ks k
above_from [] k rest s = tt
above_from (x ∷ ks) k rest s = (below_last x ks k rest (below_head x (ks ++ k ∷ rest) s), above_from ks k rest (tail_sorted x (ks ++ k ∷ rest) s))

pub above_other : (y k : Net) → net_cmp y k ≡ Less → at k y ≡ false
above_other y k e = at_flip k y ∙ less_other y k e

abbrev pub either : {A : Type 0} → Option A → Option A → Option A
either None other = other
either (Some x) other = Some x

module _ {X : Type 0} where
  pub found-append : (q : Net) (es fs : List (Net × X)) → found q (es ++ fs) ≡ either (found q es) (found q fs)
  found-append q [] fs = refl
  found-append q (e ∷ es) fs = ap (λ o. cond (at q e.0) (Some e.1) o) (found-append q es fs) ∙ by (at q e.0) where
    by : (t : Bool) → cond t (Some e.1) (either (found q es) (found q fs)) ≡ either (cond t (Some e.1) (found q es)) (found q fs)
    by true = refl
    by false = refl

  pub found-above : (es : List (Net × X)) (k : Net) → Above (keys_of es) k → found k es ≡ None
  found-above [] k above = refl
  found-above (e ∷ es) k above = ap (λ t. cond t (Some e.1) (found k es)) (above_other e.0 k above.0) ∙ found-above es k above.1

  -- a net behind all others is put at the end
  pub put-above : (es : List (Net × X)) (k : Net) (v : X) → Above (keys_of es) k → put k v es ≡ es ++ (k, v) ∷ []
  put-above [] k v above = refl
  put-above (e ∷ es) k v above =
      ap (λ r. match_ordering r ((k, v) ∷ e ∷ es) ((e.0, v) ∷ es) (e ∷ put k v es)) (net_cmp_total.antisymm k e.0 ∙ ap ordering_reverse above.0)
      ∙ ap (λ es. e ∷ es) (put-above es k v above.1)
