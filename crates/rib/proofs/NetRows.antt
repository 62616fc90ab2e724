-- What nets with their routes are as rows.
use Rattle.std.proofs.Common.{◌≡◌, ◌≢◌, inl, inr, ℕ, true, false, cond, List, [], ◌∷◌, ◌++◌, length, Option, None, refl, sym, ap, ◌∙◌, subst, arith, rules}
use Rattle.std.specs.BTreeMap.{is_at}
use Rattle.std.specs.Cmp.{IsTotalOrder}
use Rattle.std.specs.Cmp.Rules.{comparing}
use Rattle.std.specs.List.{AllByRecursion}
use Rattle.std.specs.Map.{keys_of, values_of}
use Rattle.std.specs.Ordering.{is_eq, is_lt}
use Rattle.std.specs.declared.cmp.Ordering.TheVariants.{Less}
use Rattle.std.specs.declared.alloc.Global.{Global}
use Rattle.std.specs.declared.vec.Vec.{Vec}
use Rattle.std.proofs.lemmas.Bool.{cond-true, cond-false, cases_Bool}
use Rattle.std.proofs.lemmas.Bool.Decides.{nat_tests}
use Rattle.std.proofs.lemmas.List.Sums.{sum_by-append}
use Rattle.std.proofs.lemmas.Map.Keys.{sorted_head, sorted_tail}
use Rattle.bits_ip.specs.Address.{family_of}
use Rattle.bits_ip.specs.declared.address.Addr.{Addr}
use Rattle.bits_ip.specs.declared.address.Addr.TheVariants.{V4, V6}
use Rattle.bits_ip.specs.declared.address.Family.{Family}
use Rattle.bits_ip.specs.Prefix.{Net, net_cmp, same_net}
use Rattle.attrs.specs.declared.route.Route.{Route}
use Rattle.attrs.specs.declared.route.Row.{Row}
use Rattle.attrs.specs.Table.{AreRows, IsBelow, count_routes, routes_of}
use Rattle.attrs.proofs.Nets.{same_net_is, same_net_itself}
use Rattle.attrs.proofs.Rows.{in_order-from_sorted}
use Rattle.rib.specs.Entries.{AreKeys, AreNets, Entries, count_of, entry_at, items_of, row_of, routes_at, rows_of}
use Rattle.rib.specs.Rib.{AreOfFamily}
use Rattle.rib.specs.Steps.{AreRoutes}

-- ---- the test of maps

abbrev pub net_of : Addr → ℕ → Net
net_of addr len = record { addr = addr; len = len }

at_parts : (x y : Addr) (m n : ℕ) → is_at (net_cmp (net_of x m)) (net_of y n) ≡ same_net (net_of x m) (net_of y n)
at_parts (V4 x) (V4 y) m n = grind (arith, nat_tests)
at_parts (V6 x) (V6 y) m n = grind (arith, nat_tests)
at_parts (V4 x) (V6 y) m n = refl
at_parts (V6 x) (V4 y) m n = refl

-- the test of maps is the test of nets
pub is_at_is : (k q : Net) → is_at (net_cmp k) q ≡ same_net k q
is_at_is k q = at_parts k.addr q.addr k.len q.len

pub at_itself : (k : Net) → is_at (net_cmp k) k ≡ true
at_itself k = is_at_is k k ∙ same_net_itself k

pub at_same : (k q : Net) → is_at (net_cmp k) q ≡ true → k ≡ q
at_same k q e = same_net_is k q (sym (is_at_is k q) ∙ e)

pub net_total : IsTotalOrder net_cmp
net_total = search (comparing, rules)

-- ---- the first entry, and those behind it

absent : (n : Net) (es : Entries) → AllByRecursion (λ (y : Net). net_cmp n y ≡ Less) (keys_of es) → entry_at n es ≡ None
absent n [] h = refl
absent n (e ∷ es) h = cond-false _ _ _ (ap is_eq h.0) ∙ absent n es h.1

-- behind the first there is no other of its net
behind-first : (n : Net) (e : Net × Vec Route Global) (es : Entries) → AreKeys (e ∷ es) → is_at (net_cmp n) e.0 ≡ true → entry_at n es ≡ None
behind-first n e es keys at =
    subst (λ (k : Net). entry_at k es ≡ None) (sym (at_same n e.0 at)) (absent e.0 es (sorted_head net_cmp e.0 (keys_of es) keys))

routes-behind : (P : Net → List Route → Type 0) (e : Net × Vec Route Global) (es : Entries) → AreKeys (e ∷ es) → ((n : Net) → P n [])
    → ((n : Net) → P n (routes_at n (e ∷ es))) → (n : Net) → P n (routes_at n es)
routes-behind P e es keys none all n = elim (cases_Bool (is_at (net_cmp n) e.0)) [
  | inl at ↦ subst (λ (o : Option (Vec Route Global)). P n (items_of o)) (sym (behind-first n e es keys at)) (none n)
  | inr past ↦ subst (λ (o : Option (Vec Route Global)). P n (items_of o)) (cond-false _ _ _ past) (all n)
]

routes-first : (e : Net × Vec Route Global) (es : Entries) → routes_at e.0 (e ∷ es) ≡ e.1.items
routes-first e es = ap items_of (cond-true _ _ _ (at_itself e.0))

-- ---- what the rows say

routes_of-row : (n k : Net) (items : List Route) (rows : List Row) → routes_of n rows ≡ (cond (same_net n k) [] (routes_of n rows))
    → routes_of n (row_of k items ++ rows) ≡ cond (same_net n k) items (routes_of n rows)
routes_of-row n k [] rows e = e
routes_of-row n k (r ∷ rest) rows e = refl

pub rows-routes_at : (n : Net) (es : Entries) → AreKeys es → routes_of n (rows_of es) ≡ routes_at n es
rows-routes_at n [] keys = refl
rows-routes_at n (e ∷ es) keys = elim (cases_Bool (is_at (net_cmp n) e.0)) [
  | inl at ↦
      let here : same_net n e.0 ≡ true = sym (is_at_is n e.0) ∙ at in
      let none : routes_of n (rows_of es) ≡ [] = rows-routes_at n es (sorted_tail net_cmp e.0 (keys_of es) keys) ∙ ap items_of (behind-first n e es keys at) in
      routes_of-row n e.0 e.1.items (rows_of es) (none ∙ sym (cond-true _ _ _ here))
      ∙ cond-true _ _ _ here
      ∙ sym (ap items_of (cond-true _ _ _ at))
  | inr past ↦
      let apart : same_net n e.0 ≡ false = sym (is_at_is n e.0) ∙ past in
      routes_of-row n e.0 e.1.items (rows_of es) (sym (cond-false _ _ _ apart))
      ∙ cond-false _ _ _ apart
      ∙ rows-routes_at n es (sorted_tail net_cmp e.0 (keys_of es) keys)
      ∙ sym (ap items_of (cond-false _ _ _ past))
]

below : (k : Net) (es : Entries) → AllByRecursion (λ (y : Net). net_cmp k y ≡ Less) (keys_of es) → IsBelow k (rows_of es)
below k [] h = tt
below k (e ∷ es) h = on e.1.items (below k es h.1) where
  on : (items : List Route) → IsBelow k (rows_of es) → IsBelow k (row_of e.0 items ++ rows_of es)
  on [] rest = rest
  on (r ∷ items) rest = ap is_lt h.0

rows-first : (k : Net) (items : List Route) (rows : List Row) → AreRoutes items → IsBelow k rows → AreRows rows → AreRows (row_of k items ++ rows)
rows-first k [] rows are under rest = rest
rows-first k (r ∷ items) rows are under rest =
    (record { filled = λ e. absurd (cc); order = in_order-from_sorted (r ∷ items) are.order; sources = are.sources }, under, rest)

no-routes : AreRoutes []
no-routes = record { order = tt; sources = tt }

pub rows-are : (es : Entries) → AreKeys es → ((n : Net) → AreRoutes (routes_at n es)) → AreRows (rows_of es)
rows-are [] keys all = tt
rows-are (e ∷ es) keys all =
    rows-first e.0 e.1.items (rows_of es) (subst AreRoutes (routes-first e es) (all e.0))
    (below e.0 es (sorted_head net_cmp e.0 (keys_of es) keys))
    (rows-are es (sorted_tail net_cmp e.0 (keys_of es) keys) (routes-behind (λ _ l. AreRoutes l) e es keys (λ _. no-routes) all))

family-first : (fam : Family) (k : Net) (items : List Route) (rows : List Row) → (items ≢ [] → family_of k.addr ≡ fam) → AreOfFamily fam rows → AreOfFamily fam (row_of k items ++ rows)
family-first fam k [] rows is rest = rest
family-first fam k (r ∷ items) rows is rest = (is (λ e. absurd (cc)), rest)

pub rows-family : (fam : Family) (es : Entries) → AreKeys es → ((n : Net) → routes_at n es ≢ [] → family_of n.addr ≡ fam) → AreOfFamily fam (rows_of es)
rows-family fam [] keys all = tt
rows-family fam (e ∷ es) keys all =
    family-first fam e.0 e.1.items (rows_of es) (subst (λ (l : List Route). l ≢ [] → family_of e.0.addr ≡ fam) (routes-first e es) (all e.0))
    (rows-family fam es (sorted_tail net_cmp e.0 (keys_of es) keys)
    (routes-behind (λ (n : Net) (l : List Route). l ≢ [] → family_of n.addr ≡ fam) e es keys (λ n filled. absurd (filled refl)) all))

row-count : (k : Net) (items : List Route) → count_routes (row_of k items) ≡ length items
row-count k [] = refl
row-count k (r ∷ items) = omega arith

pub rows-count : (es : Entries) → count_routes (rows_of es) ≡ count_of es
rows-count [] = refl
rows-count (e ∷ es) =
    let whole = sum_by-append (λ (row : Row). length row.routes) (row_of e.0 e.1.items) (rows_of es) in
    let first = row-count e.0 e.1.items in
    let last = sum_by-append (λ (v : Vec Route Global). length v.items) (e.1 ∷ []) (values_of es) in
    let rest = rows-count es in
    omega (arith, whole, first, last, rest)

-- ---- nets as a table keeps them

module _ (fam : Family) (es : Entries) (count : ℕ) (nets : AreNets fam es count) where
  pub nets-rows : AreRows (rows_of es)
  nets-rows = rows-are es nets.keys nets.routes

  pub nets-family : AreOfFamily fam (rows_of es)
  nets-family = rows-family fam es nets.keys nets.family

  pub nets-count : count ≡ count_routes (rows_of es)
  nets-count = nets.total ∙ sym (rows-count es)
