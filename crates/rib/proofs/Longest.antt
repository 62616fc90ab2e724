-- Rows of the nets that are asked for: one net, the longest that covers a prefix, and those that a
-- prefix covers.
use Rattle.std.proofs.Common.{◌≡◌, ◌≢◌, ◌<◌, ◌≤◌, ◌+◌, ◌-◌, ◌||◌, ◌==◌, length, ℕ, Bool, true, false, not, cond, ◌&&◌, nat_lt, inl, inr, List, [], ◌∷◌, Option, Some, None, refl, sym, ap, ◌∙◌, subst, arith}
use Rattle.std.specs.Prelude.{⊤}
use Rattle.std.specs.List.{filter, list_any}
use Rattle.std.specs.BTreeMap.Range.{entries_between, range_contains}
use Rattle.std.specs.declared.ops.Bound.TheVariants.{Included}
use Rattle.std.proofs.lemmas.Bool.{ltb-true, cond-true, cond-false, cases_Bool, false≢true}
use Rattle.std.proofs.lemmas.Bool.Decides.{nat_tests}
use Rattle.bits_ip.specs.Prefix.{IsPrefix, Net, net_cmp, same_net}
use Rattle.attrs.specs.declared.route.Route.{Route}
use Rattle.attrs.specs.declared.route.Row.{Row}
use Rattle.attrs.specs.declared.route.Select.TheVariants.{Exact, For, Within}
use Rattle.attrs.specs.Select.{covers, has_longer_cover, selected}
use Rattle.attrs.specs.Table.{AreRows, routes_of}
use Rattle.attrs.proofs.Nets.{same_net_is, same_net_itself}
use Rattle.attrs.proofs.Shown.{routes_below}
use Rattle.rib.specs.Entries.{AreKeys, ArePrefixes, Entries, row_of, rows_of}
use Rattle.rib.specs.Picks.{IsLongest, front, last_within, row_of_best}
use Rattle.rib.proofs.Covering.{cover-front, cover-len, covered-between, front-covers}
use Rattle.rib.proofs.NetRows.{rows-routes_at}
use Rattle.rib.proofs.NetSteps.{rows-filter}

-- ---- what holds of each row's net

abbrev pub AllNets : (Net → Type 0) → List Row → Type 0
AllNets P [] = ⊤
AllNets P (row ∷ rows) = P row.net × AllNets P rows

nets-weaker : (P Q : Net → Type 0) → ((n : Net) → P n → Q n) → (rows : List Row) → AllNets P rows → AllNets Q rows
nets-weaker P Q to [] all = tt
nets-weaker P Q to (row ∷ rows) all = (to row.net all.0, nets-weaker P Q to rows all.1)

filter-among : (P : Net → Type 0) (test other : Row → Bool) → ((row : Row) → P row.net → test row ≡ other row) → (rows : List Row) → AllNets P rows
    → filter test rows ≡ filter other rows
filter-among P test other same [] all = refl
filter-among P test other same (row ∷ rows) all =
    ap (λ (b : Bool). cond b (row ∷ filter test rows) (filter test rows)) (same row all.0)
    ∙ ap (λ (l : List Row). cond (other row) (row ∷ l) l) (filter-among P test other same rows all.1)

filter-no : (rows : List Row) → filter (λ (row : Row). false) rows ≡ []
filter-no [] = refl
filter-no (row ∷ rows) = filter-no rows

passed-over : (test : Row → Bool) (row : Row) (rest : List Row) (b : Bool) → test row ≡ false → filter test (cond b (row ∷ rest) rest) ≡ filter test rest
passed-over test row rest true f = cond-false _ _ _ f
passed-over test row rest false f = refl

-- a test behind one that it implies
filter-through : (P : Net → Type 0) (test wide : Row → Bool) → ((row : Row) → P row.net → test row ≡ true → wide row ≡ true) → (rows : List Row) → AllNets P rows
    → filter test (filter wide rows) ≡ filter test rows
filter-through P test wide implies [] all = refl
filter-through P test wide implies (row ∷ rows) all = elim (cases_Bool (test row)) [
  | inl t ↦
      ap (filter test) (cond-true _ _ _ (implies row all.0 t)) ∙ ap (λ (l : List Row). cond (test row) (row ∷ l) l) (filter-through P test wide implies rows all.1)
  | inr f ↦
      passed-over test row (filter wide rows) (wide row) f ∙ filter-through P test wide implies rows all.1 ∙ sym (cond-false _ _ _ f)
]

-- ---- the row of one net

pub exact-row : (net : Net) (rows : List Row) → AreRows rows → row_of net (routes_of net rows) ≡ selected (Exact net) rows
exact-row net [] are = refl
exact-row net (row ∷ rows) are = elim (cases_Bool (same_net net row.net)) [
  | inl t ↦
      let e : net ≡ row.net = same_net_is net row.net t in
      let none : routes_of net rows ≡ [] = subst (λ (n : Net). routes_of n rows ≡ []) (sym e) (routes_below row.net rows are.2 are.1) in
      ap (row_of net) (cond-true _ _ _ t) ∙ filled row.routes are.0.filled e
      ∙ ap (λ (l : List Row). row ∷ l) (sym (sym (exact-row net rows are.2) ∙ ap (row_of net) none)) ∙ sym (cond-true _ _ _ t)
  | inr f ↦ ap (row_of net) (cond-false _ _ _ f) ∙ exact-row net rows are.2 ∙ sym (cond-false _ _ _ f)
]
  where
    filled : (routes : List Route) → routes ≢ [] → net ≡ row.net → row_of net routes ≡ record { net = row.net; routes = routes } ∷ []
    filled [] some e = absurd (some refl)
    filled (r ∷ rest) some e = ap (λ (n : Net). record { net = n; routes = r ∷ rest } ∷ []) e

-- ---- the longest that covers a prefix

longer_than : (a b : ℕ) → a ≢ b → nat_lt b a ≡ false → a < b
longer_than a b differ past = grind (arith, nat_tests)

module _ (asked : Net) (all : List Row) where
  -- a net of a row
  abbrev IsReal : Net → Type 0
  IsReal n = IsPrefix n.addr n.len × (routes_of n all ≢ [])

  any-row : (P : Row → Bool) (best : Net) → ((row : Row) → row.net ≡ best → P row ≡ true) → (rows : List Row) → routes_of best rows ≢ [] → list_any P rows ≡ true
  any-row P best holds [] some = absurd (some refl)
  any-row P best holds (row ∷ rows) some = elim (cases_Bool (same_net best row.net)) [
    | inl t ↦ first (P row) (holds row (sym (same_net_is best row.net t)))
    | inr f ↦ behind (P row) (any-row P best holds rows (λ none. some (cond-false _ _ _ f ∙ none)))
  ]
    where
      first : (b : Bool) → b ≡ true → (b || list_any P rows) ≡ true
      first true e = refl
      first false e = absurd (false≢true e)

      behind : (b : Bool) → list_any P rows ≡ true → (b || list_any P rows) ≡ true
      behind true e = refl
      behind false e = e

  no-row : (P : Row → Bool) (rows : List Row) → AllNets IsReal rows → ((row : Row) → IsReal row.net → P row ≡ false) → list_any P rows ≡ false
  no-row P [] nets none = refl
  no-row P (row ∷ rows) nets none = both (P row) (none row nets.0) (no-row P rows nets.1 none) where
    both : (b : Bool) → b ≡ false → list_any P rows ≡ false → (b || list_any P rows) ≡ false
    both true e rest = e
    both false e rest = rest

  covered : (row : Row) → IsReal row.net → covers row.net asked ≡ true → ((len : ℕ) → len ≡ row.net.len → routes_of (front asked len) all ≡ []) → ⊥
  covered row real is none =
      real.1 (ap (λ (n : Net). routes_of n all) (cover-front row.net asked is real.0) ∙ none row.net.len refl)

  test_no : (b c : Bool) → (b ≡ true → ⊥) → (b && c) ≡ false
  test_no true c refuted = absurd (refuted refl)
  test_no false c refuted = refl

  is-longest : (best : Net) → IsLongest asked all (Some best) → AllNets IsReal all → has_longer_cover asked best.len all ≡ false
  is-longest best is nets = no-row (λ (row : Row). covers row.net asked && nat_lt best.len row.net.len) all nets (λ row real. elim (cases_Bool (covers row.net asked)) [
    | inl t ↦ elim (cases_Bool (nat_lt best.len row.net.len)) [
      | inl less ↦ absurd (covered row real t (λ len e. is.3 len (rw e (ltb-true best.len row.net.len less)) (rw e (cover-len row.net asked t))))
      | inr past ↦ ap (λ (b : Bool). covers row.net asked && b) past ∙ no_and (covers row.net asked)
    ]
    | inr f ↦ ap (λ (b : Bool). b && nat_lt best.len row.net.len) f
  ])
    where
      no_and : (b : Bool) → (b && false) ≡ false
      no_and true = refl
      no_and false = refl

  best-test : (best : Net) → IsLongest asked all (Some best) → AllNets IsReal all → (row : Row) → IsReal row.net
      → (covers row.net asked && not (has_longer_cover asked row.net.len all)) ≡ same_net best row.net
  best-test best is nets row real = elim (cases_Bool (same_net best row.net)) [
    | inl t ↦
        let e : best ≡ row.net = same_net_is best row.net t in
        subst (λ (n : Net). (covers n asked && not (has_longer_cover asked n.len all)) ≡ true) e
        (ap (λ (b : Bool). b && not (has_longer_cover asked best.len all)) best-covers ∙ ap not (is-longest best is nets)) ∙ sym t
    | inr f ↦ elim (cases_Bool (covers row.net asked)) [
      | inl t ↦
          ap (λ (b : Bool). covers row.net asked && not b) (any-row (λ (other : Row). covers other.net asked && nat_lt row.net.len other.net.len) best
          (λ other e. rw e (ap (λ (b : Bool). b && nat_lt row.net.len best.len) best-covers ∙ shorter row real t f)) all is.2)
          ∙ no_and (covers row.net asked) ∙ sym f
      | inr g ↦ ap (λ (b : Bool). b && not (has_longer_cover asked row.net.len all)) g ∙ sym f
    ]
  ]
    where
      no_and : (b : Bool) → (b && false) ≡ false
      no_and true = refl
      no_and false = refl

      best-covers : covers best asked ≡ true
      best-covers = subst (λ (n : Net). covers n asked ≡ true) (sym is.0) (front-covers asked best.len is.1)

      apart : (row : Row) → IsReal row.net → covers row.net asked ≡ true → same_net best row.net ≡ false → best.len ≢ row.net.len
      apart row real t f e =
          let same : best ≡ row.net = is.0 ∙ ap (front asked) e ∙ sym (cover-front row.net asked t real.0) in
          false≢true (sym f ∙ subst (λ (n : Net). same_net best n ≡ true) same (same_net_itself best))

      not_longer : (row : Row) → IsReal row.net → covers row.net asked ≡ true → best.len < row.net.len → ⊥
      not_longer row real t less = covered row real t (λ len e. is.3 len (rw e less) (rw e (cover-len row.net asked t)))

      shorter : (row : Row) → IsReal row.net → covers row.net asked ≡ true → same_net best row.net ≡ false → nat_lt row.net.len best.len ≡ true
      shorter row real t f = elim (cases_Bool (nat_lt row.net.len best.len)) [
        | inl less ↦ less
        | inr past ↦ absurd (not_longer row real t (longer_than best.len row.net.len (apart row real t f) past))
      ]

  pub longest-row : (best : Option Net) → IsLongest asked all best → AreRows all → AllNets IsReal all → row_of_best best all ≡ selected (For asked) all
  longest-row None is are nets =
      sym (filter-among IsReal (λ (row : Row). covers row.net asked && not (has_longer_cover asked row.net.len all)) (λ (row : Row). false)
      (λ row real. test_no (covers row.net asked) _ (λ t. covered row real t (λ len e. is len (rw e (cover-len row.net asked t))))) all nets ∙ filter-no all)
  longest-row (Some best) is are nets =
      exact-row best all are
      ∙ sym (filter-among IsReal (λ (row : Row). covers row.net asked && not (has_longer_cover asked row.net.len all)) (λ (row : Row). same_net best row.net)
      (best-test best is nets) all nets)

-- ---- from the longest on

-- none of the longest prefixes that cover the asked one has routes
pub record IsBare (asked : Net) (rows : List Row) (gone : ℕ) : Type 0 where
  pub within : gone ≤ asked.len + 1
  pub none : (k : ℕ) → k < gone → routes_of (front asked (asked.len - k)) rows ≡ []

pub bare-first : (asked : Net) (rows : List Row) → IsBare asked rows 0
bare-first asked rows = record { within = omega arith; none = λ k less. absurd (omega (arith, less)) }

empty-list : (routes : List Route) → (length routes == 0) ≡ true → routes ≡ []
empty-list [] e = refl
empty-list (r ∷ rest) e = absurd (grind (arith, nat_tests, e))

some-list : (routes : List Route) → (length routes == 0) ≡ false → routes ≢ []
some-list [] e none = false≢true (sym e)
some-list (r ∷ rest) e none = absurd (cc)

pub bare-next : (asked net : Net) (rows : List Row) (gone : ℕ) (routes : List Route) (b : Bool) → IsBare asked rows gone → gone < asked.len + 1 → net ≡ front asked (asked.len - gone)
    → routes ≡ routes_of net rows → b ≡ (length routes == 0) → b ≡ true → IsBare asked rows (gone + 1)
bare-next asked net rows gone routes b bare less is same test empty = record {
  within = omega (arith, less);
  none = λ k below. elim (cases_Bool (nat_lt k gone)) [
    | inl t ↦ bare.none k (grind (arith, nat_tests, t))
    | inr f ↦
        let e : k ≡ gone = grind (arith, nat_tests, f, below) in
        ap (λ (n : ℕ). routes_of (front asked (asked.len - n)) rows) e ∙ ap (λ (n : Net). routes_of n rows) (sym is) ∙ sym same ∙ empty-list routes (sym test ∙ empty)
  ];
}

pub bare-found : (asked net : Net) (rows : List Row) (gone : ℕ) (routes : List Route) (b : Bool) → IsBare asked rows gone → gone < asked.len + 1 → net ≡ front asked (asked.len - gone)
    → routes ≡ routes_of net rows → b ≡ (length routes == 0) → b ≡ false → IsLongest asked rows (Some net)
bare-found asked net rows gone routes b bare less is same test filled =
    let len : net.len ≡ asked.len - gone = ap (λ (n : Net). n.len) is in (
      is ∙ ap (front asked) (sym len),
      omega (arith, len),
      subst (λ (l : List Route). l ≢ []) same (some-list routes (sym test ∙ filled)),
      λ k longer short. ap (λ (n : ℕ). routes_of (front asked n) rows) (omega (arith, short)) ∙ bare.none (asked.len - k) (omega (arith, len, longer, short, less)),
    )

pub bare-all : (asked : Net) (rows : List Row) (gone : ℕ) → IsBare asked rows gone → asked.len + 1 ≤ gone → IsLongest asked rows None
bare-all asked rows gone bare all k short =
    ap (λ (n : ℕ). routes_of (front asked n) rows) (omega (arith, short)) ∙ bare.none (asked.len - k) (omega (arith, all, short))

-- ---- from nets as a table keeps them

nets-rows : (P : Net → Type 0) (rows : List Row) → AreRows rows → ((n : Net) → routes_of n rows ≢ [] → P n) → AllNets P rows
nets-rows P [] are each = tt
nets-rows P (row ∷ rows) are each = (
  each row.net (λ none. are.0.filled (sym (cond-true _ _ _ (same_net_itself row.net)) ∙ none)),
  nets-rows P rows are.2 (λ n some. elim (cases_Bool (same_net n row.net)) [
    | inl t ↦ absurd (some (subst (λ (k : Net). routes_of k rows ≡ []) (sym (same_net_is n row.net t)) (routes_below row.net rows are.2 are.1)))
    | inr f ↦ each n (λ none. some (sym (cond-false _ _ _ f) ∙ none))
  ]),
)

prefix-of : (es : Entries) → AreKeys es → ArePrefixes es → (n : Net) → routes_of n (rows_of es) ≢ [] → IsPrefix n.addr n.len
prefix-of es keys prefixes n some = prefixes n (λ none. some (rows-routes_at n es keys ∙ none))

pub longest-picked : (asked : Net) (es : Entries) (best : Option Net) → AreKeys es → ArePrefixes es → AreRows (rows_of es) → IsLongest asked (rows_of es) best
    → row_of_best best (rows_of es) ≡ selected (For asked) (rows_of es)
longest-picked asked es best keys prefixes are is =
    longest-row asked (rows_of es) best is are
    (nets-rows (λ (n : Net). IsPrefix n.addr n.len × (routes_of n (rows_of es) ≢ [])) (rows_of es) are (λ n some. (prefix-of es keys prefixes n some, some)))

-- ---- those that a prefix covers

pub within-picked : (asked : Net) (es : Entries) → AreKeys es → ArePrefixes es → AreRows (rows_of es) → IsPrefix asked.addr asked.len
    → filter (λ (row : Row). covers asked row.net) (rows_of (entries_between net_cmp (Included asked) (Included (last_within asked)) es)) ≡ selected (Within asked) (rows_of es)
within-picked asked es keys prefixes are prefix =
    ap (filter (λ (row : Row). covers asked row.net))
    (rows-filter (range_contains net_cmp (Included asked) (Included (last_within asked))) (range_contains net_cmp (Included asked) (Included (last_within asked))) (λ n. refl) es)
    ∙ filter-through (λ (n : Net). IsPrefix n.addr n.len) (λ (row : Row). covers asked row.net)
    (λ (row : Row). range_contains net_cmp (Included asked) (Included (last_within asked)) row.net)
    (λ row also t. covered-between asked row.net t prefix also) (rows_of es)
    (nets-rows (λ (n : Net). IsPrefix n.addr n.len) (rows_of es) are (prefix-of es keys prefixes))
