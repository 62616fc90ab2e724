-- What putting routes at a net, and taking a net out, do to nets with their routes.
use Rattle.std.proofs.Common.{◌≡◌, ◌≢◌, ℕ, suc, ◌+◌, ◌-◌, ◌<◌, ◌≤◌, get_or, Bool, true, false, cond, inl, inr, List, [], ◌∷◌, ◌++◌, length, Option, Some, None, refl, sym, ap, ◌∙◌, subst, arith, append_assoc, take}
use Rattle.std.specs.Prelude.{◌==◌, ◌&&◌, not, IsSome, IsSomeAnd, option_map, unwrap_or}
use Rattle.std.specs.List.{count_by, filter}
use Rattle.std.specs.BTreeMap.{insert_entry, is_at}
use Rattle.std.specs.BTreeMap.Range.{IsLeBy, IsLtBy, entries_between}
use Rattle.std.specs.Map.{remove_entry, set_value, values_of}
use Rattle.std.specs.Ordering.{is_le}
use Rattle.std.specs.Range.Bound.{IsForward}
use Rattle.std.specs.declared.ops.Bound.TheVariants.{Unbounded}
use Rattle.std.specs.declared.alloc.Global.{Global}
use Rattle.std.specs.declared.vec.Vec.{Vec}
use Rattle.std.proofs.lemmas.Bool.{cond-true, cond-false, cases_Bool, false≢true}
use Rattle.std.proofs.lemmas.Map.Entries.{sum_by-insert_entry, sum_by-remove_entry, sum_by-set_value}
use Rattle.std.proofs.lemmas.Bool.Decides.{nat_tests}
use Rattle.std.proofs.lemmas.List.{length-append, take_at}
use Rattle.std.proofs.lemmas.List.Sums.{length-filter}
use Rattle.std.proofs.lemmas.List.Elements.{filter-append}
use Rattle.bits_ip.specs.Address.{family_of}
use Rattle.bits_ip.specs.declared.address.Addr.{Addr}
use Rattle.bits_ip.specs.declared.address.Addr.TheVariants.{V4, V6}
use Rattle.bits_ip.specs.declared.address.Family.{Family}
use Rattle.bits_ip.specs.Prefix.{IsPrefix, Net, net_cmp, precedes, same_net}
use Rattle.attrs.specs.declared.route.Change.{Change}
use Rattle.attrs.specs.declared.route.Route.{Route}
use Rattle.attrs.specs.declared.route.Row.{Row}
use Rattle.attrs.specs.Select.{rows_from}
use Rattle.attrs.specs.Table.{route_of}
use Rattle.attrs.proofs.Nets.{same_net_itself}
use Rattle.attrs.proofs.Shown.{same_rows}
use Rattle.rib.specs.Entries.{AreKeys, AreNets, Entries, IsEmptyAt, count_of, entry_at, items_of, row_of, routes_at, rows_of}
use Rattle.rib.specs.Picks.{first_bound, picked_row}
use Rattle.rib.specs.Steps.{AreRoutes, Changes, Replaces}
use Rattle.rib.proofs.NetRows.{at_itself, at_same, net_of, net_total, rows-are, rows-routes_at}

abbrev Routes : Type 0
Routes = Vec Route Global

-- ---- at each net

-- new has w at k, and at each other net what old has
abbrev pub Puts : Net → Option Routes → Entries → Entries → Type 0
Puts k w old new = (q : Net) → entry_at q new ≡ cond (is_at (net_cmp k) q) w (entry_at q old)

pub put-here : (k : Net) (w : Option Routes) (old new : Entries) → Puts k w old new → entry_at k new ≡ w
put-here k w old new puts = puts k ∙ cond-true _ _ _ (at_itself k)

pub put-other : (k : Net) (w : Option Routes) (old new : Entries) → Puts k w old new → (q : Net) → is_at (net_cmp k) q ≡ false → entry_at q new ≡ entry_at q old
put-other k w old new puts q past = puts q ∙ cond-false _ _ _ past

-- the same routes stand everywhere
abbrev pub SameRoutes : Entries → Entries → Type 0
SameRoutes old new = (q : Net) → routes_at q new ≡ routes_at q old

pub put-same : (k : Net) (w : Option Routes) (old new : Entries) → Puts k w old new → items_of w ≡ routes_at k old → SameRoutes old new
put-same k w old new puts same q = elim (cases_Bool (is_at (net_cmp k) q)) [
  | inl at ↦ ap items_of (puts q ∙ cond-true _ _ _ at) ∙ same ∙ ap (λ (n : Net). routes_at n old) (at_same k q at)
  | inr past ↦ ap items_of (put-other k w old new puts q past)
]

pub apart : (k q : Net) → k ≢ q → is_at (net_cmp k) q ≡ false
apart k q differ = elim (cases_Bool (is_at (net_cmp k) q)) [ inl at ↦ absurd (differ (at_same k q at)) | inr past ↦ past ]

pub there : (o : Option Routes) (P : Routes → Type 0) → IsSomeAnd o P → IsSome o
there None P h = absurd h
there (Some v) P h = refl

-- the fact of what is there
pub told : (o : Option Routes) (v : Routes) (P : Routes → Type 0) → o ≡ Some v → IsSomeAnd o P → P v
told o v P is h = subst (λ (x : Option Routes). IsSomeAnd x P) is h

pub tells : (o : Option Routes) (v : Routes) (P : Routes → Type 0) → o ≡ Some v → P v → IsSomeAnd o P
tells o v P is h = subst (λ (x : Option Routes). IsSomeAnd x P) (sym is) h

pub is-there : (o : Option Routes) (v : Routes) → o ≡ Some v → IsSome o
is-there o v is = subst (λ (x : Option Routes). IsSome x) (sym is) refl

pub absent : (o : Option Routes) → (IsSome o → ⊥) → o ≡ None
absent None h = refl
absent (Some v) h = absurd (h refl)

-- a net that is there without routes
pub empty-there : (k : Net) (es : Entries) → IsSome (entry_at k es) → routes_at k es ≡ [] → IsEmptyAt k es
empty-there k es = on (entry_at k es) where
  on : (o : Option Routes) → IsSome o → items_of o ≡ [] → IsSomeAnd o (λ (v : Routes). v.items ≡ [])
  on None h e = absurd (false≢true h)
  on (Some v) h e = e

pub empty-routes : (k : Net) (es : Entries) → IsEmptyAt k es → routes_at k es ≡ []
empty-routes k es = on (entry_at k es) where
  on : (o : Option Routes) → IsSomeAnd o (λ (v : Routes). v.items ≡ []) → items_of o ≡ []
  on None h = absurd h
  on (Some v) h = h

-- ---- the number of routes

abbrev weight : Routes → ℕ
weight v = length v.items

pub count-put : (k : Net) (v : Routes) (es : Entries) → AreKeys es → count_of (insert_entry net_cmp es k v) + length (routes_at k es) ≡ count_of es + length v.items
count-put k v es keys = on (entry_at k es) (sum_by-insert_entry weight net_total es k v keys) where
  on : (o : Option Routes) → count_of (insert_entry net_cmp es k v) + unwrap_or (option_map weight o) 0 ≡ count_of es + length v.items
      → count_of (insert_entry net_cmp es k v) + length (items_of o) ≡ count_of es + length v.items
  on None e = e
  on (Some w) e = e

count-taken : (k : Net) (es : Entries) → count_of (remove_entry (is_at (net_cmp k)) es) + length (routes_at k es) ≡ count_of es
count-taken k es = on (entry_at k es) (sum_by-remove_entry weight (is_at (net_cmp k)) es) where
  on : (o : Option Routes) → count_of (remove_entry (is_at (net_cmp k)) es) + unwrap_or (option_map weight o) 0 ≡ count_of es
      → count_of (remove_entry (is_at (net_cmp k)) es) + length (items_of o) ≡ count_of es
  on None e = e
  on (Some w) e = e

pub count-dropped : (k : Net) (es : Entries) → routes_at k es ≡ [] → count_of (remove_entry (is_at (net_cmp k)) es) ≡ count_of es
count-dropped k es none = omega (arith, count-taken k es, ap length none)

pub count-fresh : (k : Net) (v : Routes) (es : Entries) → AreKeys es → entry_at k es ≡ None → v.items ≡ [] → count_of (insert_entry net_cmp es k v) ≡ count_of es
count-fresh k v es keys none empty = omega (arith, count-put k v es keys, ap (λ (o : Option Routes). length (items_of o)) none, ap length empty)

-- routes in the place of others
pub count-written : (k : Net) (had has : Routes) (old new : Entries) → entry_at k old ≡ Some had → new ≡ set_value (is_at (net_cmp k)) old has → count_of new + length had.items ≡ count_of old + length has.items
count-written k had has old new was is = ap (λ (es : Entries). count_of es + length had.items) is ∙ sum_by-set_value weight (is_at (net_cmp k)) old had has was

pub count-within : (k : Net) (es : Entries) → length (routes_at k es) ≤ count_of es
count-within k es = omega (arith, count-taken k es)

-- ---- the rows

pub rows-same : (old new : Entries) → AreKeys old → AreKeys new → ((n : Net) → AreRoutes (routes_at n old)) → SameRoutes old new → rows_of new ≡ rows_of old
rows-same old new keys also are same =
    same_rows (rows_of new) (rows_of old)
    (rows-are new also (λ n. subst AreRoutes (sym (same n)) (are n)))
    (rows-are old keys are)
    (λ net num. ap (λ (l : List Route). route_of num l) (rows-routes_at net new also ∙ same net ∙ sym (rows-routes_at net old keys)))

pub rows-append : (es more : Entries) → rows_of (es ++ more) ≡ rows_of es ++ rows_of more
rows-append [] more = refl
rows-append (e ∷ es) more =
    ap (λ (l : List Row). row_of e.0 e.1.items ++ l) (rows-append es more) ∙ sym (append_assoc (row_of e.0 e.1.items) (rows_of es) (rows_of more))

no-more : (xs : List Row) → xs ++ [] ≡ xs
no-more [] = refl
no-more (x ∷ xs) = ap (λ (l : List Row). x ∷ l) (no-more xs)

pub rows-more : (es : Entries) (e : Net × Routes) → rows_of (es ++ e ∷ []) ≡ rows_of es ++ row_of e.0 e.1.items
rows-more es e = rows-append es (e ∷ []) ∙ ap (λ (l : List Row). rows_of es ++ l) (no-more (row_of e.0 e.1.items))

pub picked-entry : (test : Net → Bool) (es : Entries) (e : Net × Routes)
    → filter (λ (row : Row). test row.net) (rows_of (es ++ e ∷ [])) ≡ filter (λ (row : Row). test row.net) (rows_of es) ++ picked_row (test e.0) e.0 e.1.items
picked-entry test es e =
    ap (filter (λ (row : Row). test row.net)) (rows-more es e)
    ∙ filter-append (λ (row : Row). test row.net) (rows_of es) (row_of e.0 e.1.items)
    ∙ ap (λ (l : List Row). filter (λ (row : Row). test row.net) (rows_of es) ++ l) (on e.1.items (test e.0) refl)
  where
    on : (items : List Route) (b : Bool) → test e.0 ≡ b → filter (λ (row : Row). test row.net) (row_of e.0 items) ≡ picked_row b e.0 items
    on [] true is = refl
    on [] false is = refl
    on (r ∷ items) true is = cond-true _ _ _ is
    on (r ∷ items) false is = cond-false _ _ _ is

pub picked-next : (test : Net → Bool) (es : Entries) (net : Net) (routes : Routes) (items : List Route) (b : Bool) (so rows : List Row) (all : Entries)
    → rows ≡ so ++ picked_row b net items → b ≡ test net → items ≡ routes.items → so ≡ filter (λ (row : Row). test row.net) (rows_of es) → all ≡ es ++ (net, routes) ∷ []
    → rows ≡ filter (λ (row : Row). test row.net) (rows_of all)
picked-next test es net routes items b so rows all is tested same before whole =
    is
    ∙ ap (λ (t : Bool). so ++ picked_row t net items) tested
    ∙ ap (λ (l : List Route). so ++ picked_row (test net) net l) same
    ∙ ap (λ (l : List Row). l ++ picked_row (test net) net routes.items) before
    ∙ sym (picked-entry test es (net, routes))
    ∙ ap (λ (l : Entries). filter (λ (row : Row). test row.net) (rows_of l)) (sym whole)

-- ---- a change

pub change-nets : (fam : Family) (net : Net) (old mid new : Entries) (count now : ℕ) → AreNets fam old count → family_of net.addr ≡ fam → IsPrefix net.addr net.len
    → ((q : Net) → is_at (net_cmp net) q ≡ false → entry_at q mid ≡ entry_at q old) → AreRoutes (routes_at net mid) → SameRoutes mid new → AreKeys new
    → now + count_of old ≡ count + count_of mid → count_of new ≡ count_of mid → AreNets fam new now
change-nets fam net old mid new count now nets fits prefix others are same keys total counted = record {
  keys = keys;
  routes = λ q. elim (cases_Bool (is_at (net_cmp net) q)) [
    | inl at ↦ subst AreRoutes (sym (same q)) (subst (λ (n : Net). AreRoutes (routes_at n mid)) (at_same net q at) are)
    | inr past ↦ subst AreRoutes (sym (same q ∙ ap items_of (others q past))) (nets.routes q)
  ];
  family = λ q filled. elim (cases_Bool (is_at (net_cmp net) q)) [
    | inl at ↦ subst (λ (n : Net). family_of n.addr ≡ fam) (at_same net q at) fits
    | inr past ↦ nets.family q (λ none. filled (same q ∙ ap items_of (others q past) ∙ none))
  ];
  prefixes = λ q filled. elim (cases_Bool (is_at (net_cmp net) q)) [
    | inl at ↦ subst (λ (n : Net). IsPrefix n.addr n.len) (at_same net q at) prefix
    | inr past ↦ nets.prefixes q (λ none. filled (same q ∙ ap items_of (others q past) ∙ none))
  ];
  total = omega (arith, total, counted, nets.total);
}

pub change-empty : (net : Net) (old mid new : Entries) → ((q : Net) → is_at (net_cmp net) q ≡ false → entry_at q mid ≡ entry_at q old)
    → ((q : Net) → is_at (net_cmp net) q ≡ false → entry_at q new ≡ entry_at q mid) → (IsEmptyAt net new → ⊥)
    → (q : Net) → IsEmptyAt q new → IsEmptyAt q old × (net ≢ q)
change-empty net old mid new others kept gone q empty = elim (cases_Bool (is_at (net_cmp net) q)) [
  | inl at ↦ absurd (gone (subst (λ (n : Net). IsEmptyAt n new) (sym (at_same net q at)) empty))
  | inr past ↦ (
    subst (λ (o : Option Routes). IsSomeAnd o (λ (v : Routes). v.items ≡ [])) (kept q past ∙ others q past) empty,
    λ same. gone (subst (λ (n : Net). IsEmptyAt n new) (sym same) empty),
  )
]

differs : (q net : Net) → same_net q net ≡ false → net ≢ q
differs q net other same = false≢true (sym other ∙ subst (λ (n : Net). same_net q n ≡ true) (sym same) (same_net_itself q))

pub change-rows : (change : Change) (old mid new : Entries) → AreKeys old → AreKeys new
    → Replaces change.num change.new (routes_at change.net old) (routes_at change.net mid)
    → ((q : Net) → is_at (net_cmp change.net) q ≡ false → entry_at q mid ≡ entry_at q old) → SameRoutes mid new
    → Changes change (rows_of old) (rows_of new)
change-rows change old mid new keys also replaces others same = record {
  own = λ n.
      ap (λ (l : List Route). route_of n l) (rows-routes_at change.net new also ∙ same change.net)
      ∙ replaces.routes n
      ∙ ap (λ (l : List Route). cond (n == change.num) change.new (route_of n l)) (sym (rows-routes_at change.net old keys));
  others = λ q other.
      rows-routes_at q new also ∙ same q ∙ ap items_of (others q (apart change.net q (differs q change.net other))) ∙ sym (rows-routes_at q old keys);
}

-- ---- the rows from a net on

from_parts : (x y : Addr) (m n : ℕ) → is_le (net_cmp (net_of x m) (net_of y n)) ≡ not (precedes (net_of y n) (net_of x m))
from_parts (V4 x) (V4 y) m n = grind (arith, nat_tests)
from_parts (V6 x) (V6 y) m n = grind (arith, nat_tests)
from_parts (V4 x) (V6 y) m n = refl
from_parts (V6 x) (V4 y) m n = refl

from_is : (a q : Net) → is_le (net_cmp a q) ≡ not (precedes q a)
from_is a q = from_parts a.addr q.addr a.len q.len

and-true : (b : Bool) → (b && true) ≡ b
and-true true = refl
and-true false = refl

pub rows-filter : (test other : Net → Bool) → ((n : Net) → test n ≡ other n) → (es : Entries)
    → rows_of (filter (λ (e : Net × Routes). test e.0) es) ≡ filter (λ (row : Row). other row.net) (rows_of es)
rows-filter test other same [] = refl
rows-filter test other same (e ∷ es) =
    by_test (test e.0) refl (rows-filter test other same es) ∙ sym (filter-append (λ (row : Row). other row.net) (row_of e.0 e.1.items) (rows_of es))
  where
    kept : (items : List Route) (b : Bool) → other e.0 ≡ b → filter (λ (row : Row). other row.net) (row_of e.0 items) ≡ picked_row b e.0 items
    kept [] true is = refl
    kept [] false is = refl
    kept (r ∷ items) true is = cond-true _ _ _ is
    kept (r ∷ items) false is = cond-false _ _ _ is

    by_test : (b : Bool) → test e.0 ≡ b → rows_of (filter (λ (e : Net × Routes). test e.0) es) ≡ filter (λ (row : Row). other row.net) (rows_of es)
        → rows_of (cond (test e.0) (e ∷ filter (λ (e : Net × Routes). test e.0) es) (filter (λ (e : Net × Routes). test e.0) es))
        ≡ filter (λ (row : Row). other row.net) (row_of e.0 e.1.items) ++ filter (λ (row : Row). other row.net) (rows_of es)
    by_test true is rest =
        ap rows_of (cond-true _ _ _ is)
        ∙ ap (λ (l : List Row). row_of e.0 e.1.items ++ l) rest
        ∙ ap (λ (l : List Row). l ++ filter (λ (row : Row). other row.net) (rows_of es)) (sym (kept e.1.items true (sym (same e.0) ∙ is)))
    by_test false is rest =
        ap rows_of (cond-false _ _ _ is)
        ∙ rest
        ∙ ap (λ (l : List Row). l ++ filter (λ (row : Row). other row.net) (rows_of es)) (sym (kept e.1.items false (sym (same e.0) ∙ is)))

filter-whole : (es : Entries) → filter (λ (e : Net × Routes). true) es ≡ es
filter-whole [] = refl
filter-whole (e ∷ es) = ap (λ (l : Entries). e ∷ l) (filter-whole es)

pub rows-between : (from : Option Net) (es : Entries) → rows_of (entries_between net_cmp (first_bound from) Unbounded es) ≡ rows_from from (rows_of es)
rows-between None es = ap rows_of (filter-whole es)
rows-between (Some net) es =
    rows-filter (λ (n : Net). is_le (net_cmp net n) && true) (λ (n : Net). not (precedes n net)) (λ n. and-true (is_le (net_cmp net n)) ∙ from_is net n) es

pub taken-front : (max : ℕ) (front back all : Entries) → all ≡ front ++ back → max ≤ length (rows_of front) → length (rows_of front) ≤ max
    → take max (rows_of all) ≡ rows_of front
taken-front max front back all is least most =
    ap (λ (es : Entries). take max (rows_of es)) is ∙ ap (take max) (rows-append front back) ∙ take_at (rows_of front) (rows_of back) max (omega (arith, least, most))

pub forward : (from : Option Net) → IsForward (IsLeBy net_cmp) (IsLtBy net_cmp) (first_bound from) Unbounded
forward None = tt
forward (Some net) = tt

-- ---- the rows one by one

pub rows-next : (es : Entries) (net : Net) (routes : Routes) (items : List Route) (so rows : List Row) (all : Entries)
    → rows ≡ so ++ picked_row true net items → items ≡ routes.items → so ≡ rows_of es → all ≡ es ++ (net, routes) ∷ [] → rows ≡ rows_of all
rows-next es net routes items so rows all is same before whole =
    is
    ∙ ap (λ (l : List Route). so ++ row_of net l) same
    ∙ ap (λ (l : List Row). l ++ row_of net routes.items) before
    ∙ sym (rows-more es (net, routes))
    ∙ ap rows_of (sym whole)

row-bound : (net : Net) (items : List Route) → length (row_of net items) ≤ 1
row-bound net [] = omega arith
row-bound net (r ∷ items) = omega arith

pub rows-bound : (net : Net) (items : List Route) (so rows : List Row) (max : ℕ) → rows ≡ so ++ picked_row true net items → length so < max → length rows ≤ max
rows-bound net items so rows max is below = omega (arith, ap length is, length-append so (row_of net items), row-bound net items, below)

more-than-none : (n : ℕ) → (suc n == 0) ≡ false
more-than-none n = grind (arith, nat_tests)

filled : (es : Entries) → length (rows_of es) ≡ length (filter (λ (v : Routes). not (length v.items == 0)) (values_of es))
filled [] = refl
filled (e ∷ es) = on e.1.items (not (length e.1.items == 0)) refl (filled es) where
  on : (items : List Route) (b : Bool) → b ≡ not (length items == 0)
      → length (rows_of es) ≡ length (filter (λ (v : Routes). not (length v.items == 0)) (values_of es))
      → length (row_of e.0 items ++ rows_of es) ≡ length (cond b (e.1 ∷ filter (λ (v : Routes). not (length v.items == 0)) (values_of es)) (filter (λ (v : Routes). not (length v.items == 0)) (values_of es)))
  on [] true is rest = absurd (false≢true (sym is))
  on [] false is rest = rest
  on (r ∷ items) true is rest = omega (arith, rest)
  on (r ∷ items) false is rest = absurd (false≢true (is ∙ ap not (more-than-none (length items))))

pub rows-counted : (es : Entries) → count_by (λ (v : Routes). not (length v.items == 0)) (values_of es) ≡ length (rows_of es)
rows-counted es = sym (filled es ∙ length-filter (λ (v : Routes). not (length v.items == 0)) (values_of es))

at-length : (xs : List Row) (y d : Row) (ys : List Row) → get_or (xs ++ y ∷ ys) (length xs) d ≡ y
at-length [] y d ys = refl
at-length (x ∷ xs) y d ys = at-length xs y d ys

one-row : (net : Net) (items : List Route) → (length items == 0) ≡ false → row_of net items ≡ record { net = net; routes = items } ∷ []
one-row net [] filled = absurd (false≢true (sym filled))
one-row net (r ∷ items) filled = refl

no-row : (net : Net) (items : List Route) → (length items == 0) ≡ true → row_of net items ≡ []
no-row net [] empty = refl
no-row net (r ∷ items) empty = absurd (false≢true (sym (more-than-none (length items)) ∙ empty))

pub row-found : (front back all : Entries) (net : Net) (routes : Routes) (items : List Route) (place left : ℕ)
    → all ≡ front ++ (net, routes) ∷ back → items ≡ routes.items → (length items == 0) ≡ false → length (rows_of front) + left ≡ place → left ≡ 0
    → (d : Row) → get_or (rows_of all) place d ≡ record { net = net; routes = items }
row-found front back all net routes items place left whole same some sum none d =
    let here : place ≡ length (rows_of front) = omega (arith, sum, none) in
    let row : row_of net routes.items ≡ record { net = net; routes = items } ∷ [] =
    ap (λ (l : List Route). row_of net l) (sym same) ∙ one-row net items some in
    ap (λ (es : Entries). get_or (rows_of es) place d) whole
    ∙ ap (λ (l : List Row). get_or l place d) (rows-append front ((net, routes) ∷ back) ∙ ap (λ (l : List Row). rows_of front ++ (l ++ rows_of back)) row)
    ∙ ap (λ (k : ℕ). get_or (rows_of front ++ record { net = net; routes = items } ∷ rows_of back) k d) here
    ∙ at-length (rows_of front) (record { net = net; routes = items }) d (rows_of back)

pub row-step : (es all : Entries) (net : Net) (routes : Routes) (items : List Route) (left place : ℕ) → all ≡ es ++ (net, routes) ∷ [] → items ≡ routes.items
    → (length items == 0) ≡ false → length (rows_of es) + left ≡ place → (left ≡ 0 → ⊥) → length (rows_of all) + (left - 1) ≡ place
row-step es all net routes items left place whole same some sum more =
    let rows : rows_of all ≡ rows_of es ++ record { net = net; routes = items } ∷ [] =
    ap rows_of whole ∙ rows-more es (net, routes) ∙ ap (λ (l : List Row). rows_of es ++ l) (ap (λ (l : List Route). row_of net l) (sym same) ∙ one-row net items some) in
    omega (arith, sum, more, ap length rows, length-append (rows_of es) (record { net = net; routes = items } ∷ []))

pub row-skip : (es all : Entries) (net : Net) (routes : Routes) (items : List Route) (left place : ℕ) → all ≡ es ++ (net, routes) ∷ [] → items ≡ routes.items
    → (length items == 0) ≡ true → length (rows_of es) + left ≡ place → length (rows_of all) + left ≡ place
row-skip es all net routes items left place whole same none sum =
    let rows : rows_of all ≡ rows_of es =
    ap rows_of whole ∙ rows-more es (net, routes) ∙ ap (λ (l : List Row). rows_of es ++ l) (ap (λ (l : List Route). row_of net l) (sym same) ∙ no-row net items none) ∙ no-more (rows_of es) in
    omega (arith, sum, ap length rows)
