-- A table's journal and its rows, and the history that they have.
use Rattle.std.proofs.Common.{◌≡◌, ◌≢◌, ℕ, zero, suc, ◌+◌, ◌-◌, ◌≤◌, inl, inr, Bool, true, false, List, [], ◌∷◌, ◌++◌, Option, Some, None, refl, sym, ◌∙◌, ap, subst, arith, length, map, reverse, option_map}
use Rattle.std.specs.Prelude.{◌==◌, ◌&&◌, IsSome, slice_get, unwrap_or, if◌then◌else◌}
use Rattle.std.specs.List.{AllByRecursion}
use Rattle.std.proofs.lemmas.Bool.{cases_lt}
use Rattle.std.proofs.lemmas.Bool.Decides.{eqb_tells}
use Rattle.std.proofs.lemmas.List.{length-append, length-map, length-reverse, map-append, reverse-append, reverse-reverse}
use Rattle.std.proofs.lemmas.Option.{slice_get-map, slice_get_within}
use Rattle.bits_ip.specs.Address.{family_of}
use Rattle.bits_ip.specs.Prefix.{Net, same_net}
use Rattle.bits_ip.specs.declared.address.Family.{Family}
use Rattle.attrs.specs.declared.journal.JEntry.{JEntry}
use Rattle.attrs.specs.declared.route.Change.{Change}
use Rattle.attrs.specs.declared.route.Route.{Route}
use Rattle.attrs.specs.History.{after, is_of}
use Rattle.attrs.specs.Table.{AreRows, Shows, route_in, routes_of}
use Rattle.export_core.proofs.Nets.{net_tells}
use Rattle.export_core.specs.Histories.{change_of}
use Rattle.core_machine.specs.Histories.{content_of, entry, front}
use Rattle.core_machine.specs.Rules.{IsRules, Rules, best_of}
use Rattle.core_machine.proofs.Contents.{content_more, entry_lt, front_more, if_false, if_lt, if_true, none_some, some_same}
use Rattle.core_machine.proofs.ToldRows.{rows_tell}
use Rattle.rib.specs.Rib.{first_of}
use Rattle.rib.specs.Rib as rib
use Rattle.run_tables.specs.declared.table.Table.{Table}
use Rattle.run_tables.specs.Tables.{Admits, IsSourced, IsTable}

get_last : {X : Type 0} (xs : List X) (x : X) → slice_get (xs ++ x ∷ []) (length xs) ≡ Some x
get_last [] x = refl
get_last (y ∷ ys) x = get_last ys x

get_other : {X : Type 0} (xs : List X) (x : X) (p : ℕ) → length xs ≢ p → slice_get (xs ++ x ∷ []) p ≡ slice_get xs p
get_other [] x zero ne = absurd (ne refl)
get_other [] x (suc p) ne = refl
get_other (y ∷ ys) x zero ne = refl
get_other (y ∷ ys) x (suc p) ne = get_other ys x p (λ e. ne (ap suc e))

get_push : {X : Type 0} (xs : List X) (x : X) (p : ℕ) → slice_get (xs ++ x ∷ []) p ≡ (if length xs == p then Some x else slice_get xs p)
get_push xs x p = elim (eqb_tells (length xs) p) [
  | inl w ↦ ap (slice_get (xs ++ x ∷ [])) (sym w.1) ∙ get_last xs x ∙ sym (if_true (length xs == p) (Some x) (slice_get xs p) w.0)
  | inr w ↦ get_other xs x p w.1 ∙ sym (if_false (length xs == p) (Some x) (slice_get xs p) w.0)
]

-- the last item of a list, and the first of it backwards
last_of : {X : Type 0} (r l : List X) (y : X) → reverse l ≡ r → slice_get l (length l - 1) ≡ Some y → (earlier : List X) × (reverse l ≡ y ∷ earlier)
last_of [] l y e at = absurd (none_some (sym (ap (λ (xs : List _). slice_get xs (length xs - 1)) (sym (reverse-reverse l) ∙ ap reverse e)) ∙ at))
last_of (z ∷ zs) l y e at =
    let whole : l ≡ reverse zs ++ z ∷ [] = sym (reverse-reverse l) ∙ ap reverse e ∙ reverse-append (z ∷ []) zs in
    let there : slice_get (reverse zs ++ z ∷ []) (length l - 1) ≡ Some y = ap (λ xs. slice_get xs (length l - 1)) (sym whole) ∙ at in
    let place : length l - 1 ≡ length (reverse zs) = let n = ap length whole in let m = length-append (reverse zs) (z ∷ []) in omega (arith, n, m) in
    let same : z ≡ y = some_same (sym (get_last (reverse zs) z) ∙ ap (slice_get (reverse zs ++ z ∷ [])) (sym place) ∙ there) in
    (zs, e ∙ ap (λ x. x ∷ zs) same)

pub last_item : {X : Type 0} (l : List X) (y : X) → slice_get l (length l - 1) ≡ Some y → (earlier : List X) × (reverse l ≡ y ∷ earlier)
last_item l y at = last_of (reverse l) l y refl at

reverse_push : (c : Change) (h : List Change) → reverse (c ∷ h) ≡ reverse h ++ c ∷ []
reverse_push c h = reverse-append (c ∷ []) h

-- the change at a position, in the order of time
pub entry_is : (h : List Change) (p : ℕ) → slice_get (reverse h) p ≡ entry p h
entry_is [] zero = refl
entry_is [] (suc p) = refl
entry_is (c ∷ h) p =
    ap (λ l. slice_get l p) (reverse_push c h) ∙ get_push (reverse h) c p
    ∙ ap (λ n. if n == p then Some c else slice_get (reverse h) p) (length-reverse h)
    ∙ ap (λ o. if length h == p then Some c else o) (entry_is h p)

module _ (rules : Rules) (family : Family) (h : List Change) (t : Table) (is : IsTable rules family h t) where
  pub head_is : length t.entries.items ≡ length h
  head_is = sym (length-map t.entries.items change_of) ∙ ap length is.entries ∙ length-reverse h

  -- what the journal has at a position is the history's change there
  pub read_is : (p : ℕ) → entry p h ≡ option_map change_of (slice_get t.entries.items p)
  read_is p = sym (entry_is h p) ∙ ap (λ l. slice_get l p) (sym is.entries) ∙ slice_get-map change_of t.entries.items p

  pub change_family : (p : ℕ) (c : Change) → entry p h ≡ Some c → family_of c.net.addr ≡ family
  change_family p c e = on (slice_get t.entries.items p) refl (sym (read_is p) ∙ e) where
    on : (o : Option JEntry) → slice_get t.entries.items p ≡ o → option_map change_of o ≡ Some c → family_of c.net.addr ≡ family
    on None is_none f = absurd (none_some f)
    on (Some read) is_some f = ap (λ (d : Change). family_of d.net.addr) (sym (some_same f)) ∙ is.families p read is_some

entry_more : (p : ℕ) (c d : Change) (h : List Change) → entry p h ≡ Some d → entry p (c ∷ h) ≡ Some d
entry_more p c d h e = elim (eqb_tells (length h) p) [
  | inl w ↦ absurd (let lt = entry_lt p h d e in omega (arith, lt, w.1))
  | inr w ↦ if_false (length h == p) (Some c) (entry p h) w.0 ∙ e
]

entry_last : (c : Change) (h : List Change) → entry (length h) (c ∷ h) ≡ Some c
entry_last c h = elim (eqb_tells (length h) (length h)) [
  | inl w ↦ if_true (length h == length h) (Some c) (entry (length h) h) w.0
  | inr w ↦ absurd (w.1 refl)
]

-- a number that no protocol has has no route, at no position
pub sourced_none : (rules : Rules) (h : List Change) → AllByRecursion (IsSourced rules) h → (net : Net) (num : ℕ) → rules.protocols ≤ num → content_of h net num ≡ None
sourced_none rules [] all net num le = refl
sourced_none rules (c ∷ h) all net num le = content_more c h net num ∙ on c.new refl (sourced_none rules h all.1 net num le) where
  on : (o : Option Route) → c.new ≡ o → content_of h net num ≡ None → (if is_of net num c then c.new else content_of h net num) ≡ None
  on None none rest = by_none (is_of net num c) where
    by_none : (b : Bool) → (if b then c.new else content_of h net num) ≡ None
    by_none true = none
    by_none false = rest
  on (Some r) some rest = elim (eqb_tells num c.num) [
    | inl w ↦ absurd (let low = all.0 (subst IsSome (sym some) refl) in omega (arith, low, le, w.1))
    | inr w ↦ out (same_net net c.net) (num == c.num) w.0
  ] where
    out : (a b : Bool) → b ≡ false → (if a && b then c.new else content_of h net num) ≡ None
    out true false e = rest
    out false b e = rest
    out true true e = absurd (let bad : true ≡ false = e in cc)

-- and so in a front of the history
pub sourced_front : (rules : Rules) (h : List Change) (p : ℕ) → AllByRecursion (IsSourced rules) h → AllByRecursion (IsSourced rules) (front p h)
sourced_front rules [] p all = tt
sourced_front rules (c ∷ h) p all = elim (cases_lt (length h) p) [
  | inl w ↦ subst (AllByRecursion (IsSourced rules)) (sym (if_lt (length h) p (c ∷ h) (front p h) w)) all
  | inr w ↦ subst (AllByRecursion (IsSourced rules)) (sym (front_more p c h w)) (sourced_front rules h p all.1)
]

-- each net that has a route is of the changes' family
pub content_family : (family : Family) (h : List Change) → ((p : ℕ) (c : Change) → entry p h ≡ Some c → family_of c.net.addr ≡ family) → (net : Net) (num : ℕ) → IsSome (content_of h net num) → family_of net.addr ≡ family
content_family family [] all net num some = absurd (let bad : false ≡ true = some in cc)
content_family family (c ∷ h) all net num some = on (same_net net c.net) refl (subst IsSome (content_more c h net num) some) (content_family family h (λ p d e. all p d (entry_more p c d h e)) net num) where
  on : (b : Bool) → same_net net c.net ≡ b → IsSome (if is_of net num c then c.new else content_of h net num) → (IsSome (content_of h net num) → family_of net.addr ≡ family) → family_of net.addr ≡ family
  on true same some earlier = elim (net_tells net c.net) [
    | inl w ↦ ap (λ (n : Net). family_of n.addr) w.1 ∙ all (length h) c (entry_last c h)
    | inr w ↦ absurd (let bad : true ≡ false = sym same ∙ w.0 in cc)
  ]
  on false same some earlier = earlier (subst (λ (b : Bool). IsSome (if b && (num == c.num) then c.new else content_of h net num)) same some)

-- ---- a change comes

first_is : (rs : List Route) → first_of rs ≡ slice_get rs 0
first_is [] = refl
first_is (r ∷ rs) = refl

by_test : (b : Bool) (x o : Option Route) → unwrap_or (if b then Some x else None) o ≡ (if b then x else o)
by_test true x o = refl
by_test false x o = refl

module _ (rules : Rules) (family : Family) (h : List Change) (c : Change) (e : JEntry) (t t' : Table)
    (ok : IsRules rules) (low : IsSourced rules c) (is : IsTable rules family h t)
    (admitted : Admits t.family c) (same_family : t'.family ≡ t.family) (rib_family : t'.rib.family ≡ t.rib.family)
    (routes : (net : Net) (num : ℕ) → route_in t'.rib.rows net num ≡ after (route_in t.rib.rows) (c ∷ []) net num)
    (rows : AreRows t'.rib.rows) (entries : t'.entries.items ≡ t.entries.items ++ e ∷ [])
    (change : change_of e ≡ c) (best : e.best ≡ rib.best_of c.net t'.rib.rows) where
  shows' : Shows t'.rib.rows (content_of (c ∷ h))
  shows' = record {
    rows_are = rows;
    routes_are = λ net num. routes net num ∙ by_test (is_of net num c) c.new (route_in t.rib.rows net num)
        ∙ ap (λ o. if is_of net num c then c.new else o) (is.shows.routes_are net num) ∙ sym (content_more c h net num);
  }

  best' : e.best ≡ best_of rules e.net (c ∷ h)
  best' =
      best ∙ first_is (routes_of c.net t'.rib.rows) ∙ rows_tell rules (content_of (c ∷ h)) t'.rib.rows c.net ok (λ num le. sourced_none rules (c ∷ h) (low, is.sources) c.net num le) shows'
      ∙ ap (λ (d : Change). best_of rules d.net (c ∷ h)) (sym change)

  at_place : (P : JEntry → ℕ → Type 0) → P e (length t.entries.items) → ((p : ℕ) (entry : JEntry) → slice_get t.entries.items p ≡ Some entry → P entry p) → (p : ℕ) (entry : JEntry) → slice_get t'.entries.items p ≡ Some entry → P entry p
  at_place P last earlier p entry there =
      let found = sym (get_push t.entries.items e p) ∙ ap (λ l. slice_get l p) (sym entries) ∙ there in
      elim (eqb_tells (length t.entries.items) p) [
        | inl w ↦ subst (λ n. P entry n) w.1 (subst (λ x. P x (length t.entries.items)) (some_same (sym (if_true (length t.entries.items == p) (Some e) (slice_get t.entries.items p) w.0) ∙ found)) last)
        | inr w ↦ earlier p entry (sym (if_false (length t.entries.items == p) (Some e) (slice_get t.entries.items p) w.0) ∙ found)
      ]

  pub append_is : IsTable rules family (c ∷ h) t'
  append_is =
      let head = head_is rules family h t is in
      record {
        family_is = same_family ∙ is.family_is;
        rib_family = rib_family ∙ is.rib_family;
        shows = shows';
        entries = ap (map change_of) entries ∙ map-append change_of t.entries.items (e ∷ []) ∙ ap (λ l. l ++ change_of e ∷ []) is.entries ∙ ap (λ d. reverse h ++ d ∷ []) change ∙ sym (reverse_push c h);
        best = at_place (λ entry p. entry.best ≡ best_of rules entry.net (front (p + 1) (c ∷ h)))
            (best' ∙ ap (best_of rules e.net) (sym (if_lt (length h) (length t.entries.items + 1) (c ∷ h) (front (length t.entries.items + 1) h) (omega (arith, head)))))
            (λ p entry there. is.best p entry there ∙ ap (best_of rules entry.net) (sym (front_more (p + 1) c h (omega (arith, head, slice_get_within t.entries.items p entry there)))));
        families = at_place (λ entry p. family_of entry.net.addr ≡ family)
            (ap (λ (d : Change). family_of d.net.addr) change ∙ admitted.family_is ∙ is.family_is)
            (λ p entry there. is.families p entry there);
        sources = (low, is.sources);
      }
