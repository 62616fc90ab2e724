-- A direction of a pipe that is a bridge passes what comes to the table that it reads, but for what comes there by the same pipe.
use Rattle.std.proofs.Common.{◌≡◌, ◌≢◌, ℕ, zero, suc, ◌+◌, ◌-◌, ◌≤◌, ◌<◌, ◌⊎◌, inl, inr, Bool, true, false, not, List, [], ◌∷◌, Option, Some, None, refl, sym, ◌∙◌, ap, subst, arith, length, is_some}
use Rattle.std.specs.Prelude.{◌==◌, ◌&&◌, nat_lt, if◌then◌else◌}
use Rattle.std.proofs.lemmas.Bool.{cases_lt}
use Rattle.std.proofs.lemmas.Bool.Decides.{eqb_tells, nat_tests}
use Rattle.core_machine.specs.Bridges.{AreWithin, IsBridge, comes_but_by}
use Rattle.core_machine.specs.Pipes.{ends_with, passes, passes_to}
use Rattle.core_machine.specs.Rules.{AreWays, Rules}
use Rattle.core_machine.specs.Ways.{Found, HasWays, gone_on, level, levels, tried, with_way}
use Rattle.core_machine.proofs.Contents.{eqb_yes, if_false, if_true, none_some, some_same}
use Rattle.core_machine.proofs.Levels.{are_ways}

true_false : {A : Type 0} → true ≡ false → A
true_false e = absurd (let bad : true ≡ false = e in cc)

-- ---- what a level finds

module _ (g : Rules) (len : ℕ) where
  put_keeps : (t : ℕ) (way : List ℕ) (f : Found) (u : ℕ) (x : List ℕ) → is_some (f t) ≡ false → f u ≡ Some x → with_way t way f u ≡ Some x
  put_keeps t way f u x none e = elim (eqb_tells t u) [
    | inl w ↦ true_false (sym (ap (λ o. is_some o) (ap f w.1 ∙ e)) ∙ none)
    | inr w ↦ if_false (t == u) (Some way) (f u) w.0 ∙ e
  ]

  both : (a b : Bool) → (a && not b) ≡ true → (a ≡ true) × (b ≡ false)
  both true false e = (refl, refl)
  both true true e = true_false (sym e)
  both false b e = true_false (sym e)

  gone_keeps : (d t : ℕ) (f : Found) (o : Option (List ℕ)) (u : ℕ) (x : List ℕ) → f u ≡ Some x → gone_on d len t f o u ≡ Some x
  gone_keeps d t f None u x e = e
  gone_keeps d t f (Some ds) u x e = by ((length ds == len) && not (is_some (f t))) refl where
    by : (b : Bool) → ((length ds == len) && not (is_some (f t))) ≡ b → (if b then with_way t (d ∷ ds) f else f) u ≡ Some x
    by true h = put_keeps t (d ∷ ds) f u x (both (length ds == len) (is_some (f t)) h).1 e
    by false h = e

  tried_keeps : (d : ℕ) (o : Option ℕ) (f : Found) (u : ℕ) (x : List ℕ) → f u ≡ Some x → tried g d len o f u ≡ Some x
  tried_keeps d None f u x e = e
  tried_keeps d (Some t) f u x e = gone_keeps d t f (f (g.reads d)) u x e

  level_keeps : (n : ℕ) (f : Found) (u : ℕ) (x : List ℕ) → f u ≡ Some x → level g len n f u ≡ Some x
  level_keeps zero f u x e = e
  level_keeps (suc n) f u x e = tried_keeps n (g.target n) (level g len n f) u x (level_keeps n f u x e)

  some_of : (o : Option (List ℕ)) → is_some o ≡ true → (x : List ℕ) × (o ≡ Some x)
  some_of None e = true_false (sym e)
  some_of (Some x) e = (x, refl)

  -- a way was found before, or it is longer by one
  put_new : (d t : ℕ) (ds : List ℕ) (f : Found) (u : ℕ) (x : List ℕ) → length ds ≡ len → with_way t (d ∷ ds) f u ≡ Some x → (f u ≡ Some x) ⊎ (length x ≡ suc len)
  put_new d t ds f u x long e = elim (eqb_tells t u) [
    | inl w ↦ inr (let same : d ∷ ds ≡ x = some_same (sym (if_true (t == u) (Some (d ∷ ds)) (f u) w.0) ∙ e) in ap length (sym same) ∙ ap suc long)
    | inr w ↦ inl (sym (if_false (t == u) (Some (d ∷ ds)) (f u) w.0) ∙ e)
  ]

  same_number : (a b : ℕ) → (a == b) ≡ true → a ≡ b
  same_number a b e = elim (eqb_tells a b) [ inl w ↦ w.1 | inr w ↦ true_false (sym e ∙ w.0) ]

  gone_new : (d t : ℕ) (f : Found) (o : Option (List ℕ)) (u : ℕ) (x : List ℕ) → gone_on d len t f o u ≡ Some x → (f u ≡ Some x) ⊎ (length x ≡ suc len)
  gone_new d t f None u x e = inl e
  gone_new d t f (Some ds) u x e = by ((length ds == len) && not (is_some (f t))) refl e where
    by : (b : Bool) → ((length ds == len) && not (is_some (f t))) ≡ b → (if b then with_way t (d ∷ ds) f else f) u ≡ Some x → (f u ≡ Some x) ⊎ (length x ≡ suc len)
    by true h e = put_new d t ds f u x (same_number (length ds) len (both (length ds == len) (is_some (f t)) h).0) e
    by false h e = inl e

  tried_new : (d : ℕ) (o : Option ℕ) (f : Found) (u : ℕ) (x : List ℕ) → tried g d len o f u ≡ Some x → (f u ≡ Some x) ⊎ (length x ≡ suc len)
  tried_new d None f u x e = inl e
  tried_new d (Some t) f u x e = gone_new d t f (f (g.reads d)) u x e

  level_new : (n : ℕ) (f : Found) (u : ℕ) (x : List ℕ) → level g len n f u ≡ Some x → (f u ≡ Some x) ⊎ (length x ≡ suc len)
  level_new zero f u x e = inl e
  level_new (suc n) f u x e = elim (tried_new n (g.target n) (level g len n f) u x e) [
    | inl old ↦ level_new n f u x old
    | inr long ↦ inr long
  ]

  -- a direction that reads a table that was just reached reaches the one that it writes
  gone_reaches : (d t : ℕ) (f : Found) (ds : List ℕ) → length ds ≡ len → is_some (gone_on d len t f (Some ds) t) ≡ true
  gone_reaches d t f ds long = by (is_some (f t)) refl where
    here : (length ds == len) ≡ true
    here = eqb_yes (length ds) len long

    by : (b : Bool) → is_some (f t) ≡ b → is_some ((if (length ds == len) && not (is_some (f t)) then with_way t (d ∷ ds) f else f) t) ≡ true
    by true e =
        ap (λ (b : Bool). is_some ((if b then with_way t (d ∷ ds) f else f) t)) (ap (λ (b : Bool). (length ds == len) && not b) e ∙ ap (λ (b : Bool). b && false) here) ∙ e
    by false e =
        ap (λ (b : Bool). is_some ((if b then with_way t (d ∷ ds) f else f) t)) (ap (λ (b : Bool). (length ds == len) && not b) e ∙ ap (λ (b : Bool). b && true) here)
        ∙ ap (λ o. is_some o) (if_true (t == t) (Some (d ∷ ds)) (f t) (eqb_yes t t refl))

  module _ (d t : ℕ) (target : g.target d ≡ Some t) (f : Found) (ds : List ℕ) (reached : f (g.reads d) ≡ Some ds) (long : length ds ≡ len) where
    level_reaches : (n : ℕ) → d < n → is_some (level g len n f t) ≡ true
    level_reaches zero w = absurd (omega (arith, w))
    level_reaches (suc n) w = elim (cases_lt d n) [
      | inl less ↦ let x = some_of (level g len n f t) (level_reaches n less) in ap (λ o. is_some o) (tried_keeps n (g.target n) (level g len n f) t x.0 x.1)
      | inr le ↦ let same : d ≡ n = omega (arith, w, le) in subst (λ k. is_some (tried g k len (g.target k) (level g len n f) t) ≡ true) same
          (ap (λ o. is_some (tried g d len o (level g len n f) t)) target
          ∙ ap (λ o. is_some (gone_on d len t (level g len n f) o t)) (level_keeps n f (g.reads d) ds reached)
          ∙ gone_reaches d t (level g len n f) ds long)
    ]

-- so each table is reached that a direction leads to from one that was reached before
reaches : (g : Rules) (i d t : ℕ) → g.target d ≡ Some t → d < g.channels → (len : ℕ) (ds : List ℕ) → levels g i len (g.reads d) ≡ Some ds → length ds < len → is_some (levels g i len t) ≡ true
reaches g i d t target w zero ds e short = absurd (omega (arith, short))
reaches g i d t target w (suc len) ds e short = elim (level_new g len g.channels (levels g i len) (g.reads d) ds e) [
  | inl old ↦ elim (cases_lt (length ds) len) [
    | inl less ↦ let x = some_of g len (levels g i len t) (reaches g i d t target w len ds old less) in ap (λ o. is_some o) (level_keeps g len g.channels (levels g i len) t x.0 x.1)
    | inr le ↦ level_reaches g len d t target (levels g i len) ds old (omega (arith, short, le)) g.channels w
  ]
  | inr long ↦ absurd (omega (arith, long, short))
]

-- ---- as many as there are

abbrev count : (ℕ → Bool) → ℕ → ℕ
count P zero = 0
count P (suc m) = if P m then suc (count P m) else count P m

count_all : (m : ℕ) → count (λ _. true) m ≡ m
count_all zero = refl
count_all (suc m) = ap suc (count_all m)

count_le : (P Q : ℕ → Bool) → ((u : ℕ) → P u ≡ true → Q u ≡ true) → (m : ℕ) → count P m ≤ count Q m
count_le P Q more zero = omega arith
count_le P Q more (suc m) = by (P m) (Q m) refl refl (count_le P Q more m) where
  by : (a b : Bool) → P m ≡ a → Q m ≡ b → count P m ≤ count Q m → (if a then suc (count P m) else count P m) ≤ (if b then suc (count Q m) else count Q m)
  by true true e f le = omega (arith, le)
  by true false e f le = true_false (sym (more m e) ∙ f)
  by false true e f le = omega (arith, le)
  by false false e f le = le

count_lt : (P Q : ℕ → Bool) → ((u : ℕ) → P u ≡ true → Q u ≡ true) → (v m : ℕ) → P v ≡ false → Q v ≡ true → v < m → suc (count P m) ≤ count Q m
count_lt P Q more v zero lacks has w = absurd (omega (arith, w))
count_lt P Q more v (suc m) lacks has w = elim (cases_lt v m) [
  | inl less ↦ by (P m) (Q m) refl refl (count_lt P Q more v m lacks has less)
  | inr le ↦ (let same : v ≡ m = omega (arith, w, le) in last (subst (λ k. P k ≡ false) same lacks) (subst (λ k. Q k ≡ true) same has) (count_le P Q more m))
] where
  by : (a b : Bool) → P m ≡ a → Q m ≡ b → suc (count P m) ≤ count Q m → suc (if a then suc (count P m) else count P m) ≤ (if b then suc (count Q m) else count Q m)
  by true true e f le = omega (arith, le)
  by true false e f le = true_false (sym (more m e) ∙ f)
  by false true e f le = omega (arith, le)
  by false false e f le = le

  last : P m ≡ false → Q m ≡ true → count P m ≤ count Q m → suc (if P m then suc (count P m) else count P m) ≤ (if Q m then suc (count Q m) else count Q m)
  last e f le =
      subst (λ b. suc (if b then suc (count P m) else count P m) ≤ (if Q m then suc (count Q m) else count Q m)) (sym e)
      (subst (λ b. suc (count P m) ≤ (if b then suc (count Q m) else count Q m)) (sym f) (omega (arith, le)))

-- ---- a way comes to as many tables as it has directions, and one more

module _ (g : Rules) (ways : AreWays g) (within : AreWithin g) (i : ℕ) where
  abbrev is_below : ℕ → Option (List ℕ) → Bool
  is_below k None = false
  is_below k (Some w) = nat_lt (length w) k

  below_more : (k : ℕ) (o : Option (List ℕ)) → is_below k o ≡ true → is_below (suc k) o ≡ true
  below_more k None e = e
  below_more k (Some w) e = grind (arith, nat_tests, e)

  not_below : (k : ℕ) (w : List ℕ) → length w ≡ k → nat_lt (length w) k ≡ false
  not_below k w e = grind (arith, nat_tests, e)

  now_below : (k : ℕ) (w : List ℕ) → length w ≡ k → nat_lt (length w) (suc k) ≡ true
  now_below k w e = grind (arith, nat_tests, e)

  -- a table to which a way of each smaller length comes
  passed : (w : List ℕ) (u k : ℕ) → g.hops u i ≡ Some w → u < g.tables → k ≤ length w → (v : ℕ) × (v < g.tables) × (x : List ℕ) × (g.hops v i ≡ Some x) × (length x ≡ k)
  passed [] u k e low le = (u, low, [], e, omega (arith, le))
  passed (c ∷ cs) u k e low le = elim (cases_lt (length cs) k) [
    | inl less ↦ (u, low, c ∷ cs, e, omega (arith, le, less))
    | inr more ↦ (let next = ways.chain u i c cs e in passed cs (g.reads c) k next.1 (within c u next.0).1 more)
  ]

  reached : (w : List ℕ) (u : ℕ) → g.hops u i ≡ Some w → u < g.tables → (k : ℕ) → k ≤ suc (length w) → k ≤ count (λ v. is_below k (g.hops v i)) g.tables
  reached w u e low zero le = omega arith
  reached w u e low (suc k) le =
      let v = passed w u k e low (omega (arith, le)) in
      let fewer = reached w u e low k (omega (arith, le)) in
      let more = count_lt (λ v. is_below k (g.hops v i)) (λ v. is_below (suc k) (g.hops v i)) (λ v. below_more k (g.hops v i)) v.0 g.tables
      (ap (is_below k) v.3 ∙ not_below k v.2 v.4) (ap (is_below (suc k)) v.3 ∙ now_below k v.2 v.4) v.1 in
      omega (arith, fewer, more)

  -- where a table isn't reached, ways are shorter by one at least
  shorter : (w : List ℕ) (u t : ℕ) → g.hops u i ≡ Some w → u < g.tables → t < g.tables → g.hops t i ≡ None → length w < g.tables - 1
  shorter w u t e low there none =
      let all = reached w u e low (suc (length w)) (omega arith) in
      let one = count_lt (λ v. is_below (suc (length w)) (g.hops v i)) (λ _. true) (λ v is. refl) t g.tables (ap (is_below (suc (length w))) none) refl there in
      let most = count_all g.tables in
      omega (arith, all, one, most)

-- ---- bridges

flip : (a b : Bool) → a ≡ not b → b ≡ not a
flip true true e = true_false e
flip true false e = refl
flip false true e = refl
flip false false e = true_false (sym e)

apart : {A : Type 0} (a b : Bool) → a ≡ not b → a ≡ b → A
apart true true e f = true_false e
apart true false e f = true_false f
apart false true e f = true_false (sym f)
apart false false e f = true_false (sym e)

one_side : (a b : Bool) → (a ≡ b) ⊎ (a ≡ not b)
one_side true true = inl refl
one_side true false = inr refl
one_side false true = inr refl
one_side false false = inl refl

module _ (g : Rules) (has : HasWays g) (within : AreWithin g) (d e : ℕ) (bridge : IsBridge g d e) (i : ℕ) where
  tables : 1 ≤ g.tables
  tables = let w = (within d (g.reads e) bridge.there).1 in omega (arith, w)

  ways : AreWays g
  ways = are_ways g tables has

  abbrev side : ℕ → Bool
  side = bridge.side

  -- the last direction of a way that leads to the other side, with which a way to the table ends that it writes
  record Crosses (u : ℕ) : Type 0 where
    pub by : ℕ
    pub is : (by ≡ d) ⊎ (by ≡ e)
    pub table : ℕ
    pub target : g.target by ≡ Some table
    pub there : side table ≡ side u
    pub ds : List ℕ
    pub way : g.hops table i ≡ Some (by ∷ ds)

  crosses : (w : List ℕ) (u : ℕ) → g.hops u i ≡ Some w → side (g.table i) ≡ not (side u) → Crosses u
  crosses [] u is other = apart (side (g.table i)) (side u) other (ap side (ways.only_home u i is))
  crosses (c ∷ cs) u is other =
      let next = ways.chain u i c cs is in
      elim (eqb_tells c d) [
        | inl w ↦ record { by = c; is = inl w.1; table = u; target = next.0; there = refl; ds = cs; way = is }
        | inr w ↦ elim (eqb_tells c e) [
          | inl v ↦ record { by = c; is = inr v.1; table = u; target = next.0; there = refl; ds = cs; way = is }
          | inr v ↦ (let same = bridge.along c u next.0 w.1 v.1 in
              let x = crosses cs (g.reads c) next.1 (other ∙ ap not (sym same)) in
              record { by = x.by; is = x.is; table = x.table; target = x.target; there = x.there ∙ same; ds = x.ds; way = x.way })
        ]
      ]

  -- the way to the side that the direction writes ends with it, and so the other one's
  there_by : Crosses (g.reads e) → (ds : List ℕ) × (g.hops (g.reads e) i ≡ Some (d ∷ ds))
  there_by x = elim x.is [
    | inl same ↦ (let at : x.table ≡ g.reads e = some_same (sym x.target ∙ ap g.target same ∙ bridge.there) in
        (x.ds, subst (λ t. g.hops t i ≡ Some (d ∷ x.ds)) at (subst (λ c. g.hops x.table i ≡ Some (c ∷ x.ds)) same x.way)))
    | inr same ↦ (let at : x.table ≡ g.reads d = some_same (sym x.target ∙ ap g.target same ∙ bridge.back) in
        apart (side (g.reads d)) (side (g.reads e)) bridge.across (ap side (sym at) ∙ x.there))
  ]

  back_by : Crosses (g.reads d) → (ds : List ℕ) × (g.hops (g.reads d) i ≡ Some (e ∷ ds))
  back_by x = elim x.is [
    | inl same ↦ (let at : x.table ≡ g.reads e = some_same (sym x.target ∙ ap g.target same ∙ bridge.there) in
        apart (side (g.reads d)) (side (g.reads e)) bridge.across (sym x.there ∙ ap side at))
    | inr same ↦ (let at : x.table ≡ g.reads d = some_same (sym x.target ∙ ap g.target same ∙ bridge.back) in
        (x.ds, subst (λ t. g.hops t i ≡ Some (e ∷ x.ds)) at (subst (λ c. g.hops x.table i ≡ Some (c ∷ x.ds)) same x.way)))
  ]

  itself : (c : ℕ) → (c == c) ≡ true
  itself c = eqb_yes c c refl

  is_passed : (o : Option (List ℕ)) (ds : List ℕ) → o ≡ Some (d ∷ ds) → ends_with d o ≡ true
  is_passed o ds is = ap (ends_with d) is ∙ itself d

  -- what comes otherwise is passed
  onward : (ds : List ℕ) → g.hops (g.reads d) i ≡ Some ds → ends_with e (Some ds) ≡ false → ends_with d (g.hops (g.reads e) i) ≡ true
  onward ds is other = elim (one_side (side (g.table i)) (side (g.reads d))) [
    | inl same ↦ reach (g.hops (g.reads e) i) refl (same ∙ bridge.across)
    | inr far ↦ (let x = back_by (crosses ds (g.reads d) is far) in
        true_false (sym (itself e) ∙ ap (ends_with e) (sym x.1 ∙ is) ∙ other))
  ] where
    none_reached : g.hops (g.reads e) i ≡ None → ⊥
    none_reached none =
        let w = within d (g.reads e) bridge.there in
        let short = shorter g ways within i ds (g.reads d) (g.reads e) is w.1 w.2 none in
        let some = reaches g i d (g.reads e) bridge.there w.0 (g.tables - 1) ds (sym (has (g.reads d) i) ∙ is) short in
        true_false (sym some ∙ ap (λ o. is_some o) (sym (has (g.reads e) i) ∙ none))

    reach : (o : Option (List ℕ)) → g.hops (g.reads e) i ≡ o → side (g.table i) ≡ not (side (g.reads e)) → ends_with d (g.hops (g.reads e) i) ≡ true
    reach None none far = absurd (none_reached none)
    reach (Some w) some far = (let x = there_by (crosses w (g.reads e) some far) in is_passed (g.hops (g.reads e) i) x.0 x.1)

  -- what is passed comes otherwise, whatever tables pipes join
  backward : (w : List ℕ) → g.hops (g.reads e) i ≡ Some w → ends_with d (Some w) ≡ true → comes_but_by g e (g.reads d) i ≡ true
  backward [] is ends = true_false (sym ends)
  backward (c ∷ cs) is ends =
      let same : c ≡ d = elim (eqb_tells c d) [ inl w ↦ w.1 | inr w ↦ true_false (sym ends ∙ w.0) ] in
      let before : g.hops (g.reads d) i ≡ Some cs = subst (λ x. g.hops (g.reads x) i ≡ Some cs) same (ways.chain (g.reads e) i c cs is).1 in
      ap (λ o. is_some o && not (ends_with e o)) before ∙ on cs before refl
    where
      on : (xs : List ℕ) → g.hops (g.reads d) i ≡ Some xs → cs ≡ xs → not (ends_with e (Some cs)) ≡ true
      on [] at same = ap (λ l. not (ends_with e (Some l))) same
      on (x ∷ xs) at same = elim (eqb_tells x e) [
        | inl w ↦ (let again : g.hops (g.reads e) i ≡ Some xs = subst (λ y. g.hops (g.reads y) i ≡ Some xs) w.1 (ways.chain (g.reads d) i x xs at).1 in
            let bad : c ∷ cs ≡ xs = some_same (sym is ∙ again) in
            absurd (omega (arith, ap length bad, ap length same)))
        | inr w ↦ ap (λ l. not (ends_with e (Some l))) same ∙ ap not w.0
      ]

  some_way : (o : Option (List ℕ)) → (is_some o && not (ends_with e o)) ≡ true → (ds : List ℕ) × (o ≡ Some ds) × (ends_with e (Some ds) ≡ false)
  some_way None h = true_false (sym h)
  some_way (Some ds) h = (ds, refl, of (ends_with e (Some ds)) h) where
    of : (b : Bool) → not b ≡ true → b ≡ false
    of true h = true_false (sym h)
    of false h = refl

  ended_way : (o : Option (List ℕ)) → ends_with d o ≡ true → (w : List ℕ) × (o ≡ Some w) × (ends_with d (Some w) ≡ true)
  ended_way None h = true_false (sym h)
  ended_way (Some w) h = (w, refl, h)

  same_truth : (a b : Bool) → (a ≡ true → b ≡ true) → (b ≡ true → a ≡ true) → a ≡ b
  same_truth true b f h = sym (f refl)
  same_truth false true f h = h refl
  same_truth false false f h = refl

  pub bridge_passes : passes g d i ≡ comes_but_by g e (g.reads d) i
  bridge_passes =
      ap (passes_to g d i) bridge.there
      ∙ same_truth (ends_with d (g.hops (g.reads e) i)) (comes_but_by g e (g.reads d) i)
      (λ h. let w = ended_way (g.hops (g.reads e) i) h in backward w.0 w.1 w.2)
      (λ h. let w = some_way (g.hops (g.reads d) i) h in onward w.0 w.1 w.2)
