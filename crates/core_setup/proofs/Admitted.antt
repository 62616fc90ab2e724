-- What holds of all routes of a protocol: of the configured ones, of those that operations announce, and of what a filter
-- leaves of either. It holds of the routes that are received and accepted, and so of those of changes.
use Rattle.std.proofs.Common.{◌≡◌, ℕ, inl, inr, Bool, true, false, cond, not, List, [], ◌∷◌, ◌++◌, Option, Some, None, refl, sym, ◌∙◌, ap, subst, reverse, Ordering, Less, Equal, Greater}
use Rattle.std.specs.Prelude.{◌||◌, IfSome, ⊤, filter, fold, if◌then◌else◌}
use Rattle.std.specs.BTreeMap.{is_at}
use Rattle.std.specs.List.{AllByRecursion, flat_map}
use Rattle.std.specs.Map.{keys_of}
use Rattle.std.specs.Ordering.{match_ordering}
use Rattle.bits_ip.specs.Address.{family_of}
use Rattle.bits_ip.specs.Prefix.{Net, net_cmp, precedes, same_net}
use Rattle.bits_ip.specs.declared.address.Family.{Family}
use Rattle.bits_ip.proofs.Nets.{net_cmp_equal}
use Rattle.attrs.specs.declared.attributes.Attrs.{Attrs}
use Rattle.attrs.specs.declared.attributes.Kind.{Kind}
use Rattle.attrs.specs.declared.attributes.Kind.TheVariants.{Bgp, Static}
use Rattle.attrs.specs.declared.judge.Verdict.{Verdict}
use Rattle.attrs.specs.declared.judge.Verdict.TheVariants.{Accept, Reject}
use Rattle.attrs.specs.declared.route.Change.{Change}
use Rattle.attrs.specs.declared.route.Route.{Route}
use Rattle.import_core.specs.declared.import_spec.Action.{Action}
use Rattle.import_core.specs.declared.import_spec.Action.TheVariants as action
use Rattle.import_core.specs.declared.import_spec.Fixed.{Fixed}
use Rattle.import_core.specs.declared.import_spec.ImportSpec.{ImportSpec}
use Rattle.import_core.specs.declared.import_spec.Limit.{Limit}
use Rattle.import_core.specs.declared.mode.Mode.{Mode}
use Rattle.import_core.specs.declared.mode.Mode.TheVariants as mode
use Rattle.import_core.specs.declared.operation.Op.{Op}
use Rattle.import_core.specs.declared.operation.Op.TheVariants.{Start, SessionUp, Add, Del, SessionDown, Disable, Enable, ReloadIn, ReloadOut, Reload}
use Rattle.import_core.specs.Decisions.{Filter, Outcome, accepting, at_limit, beyond, decided, decided_next, is_over, left_by, left_of, left_received, only, rebuilt, taken}
use Rattle.import_core.specs.Import.{imported_route}
use Rattle.import_core.specs.Imports.{Imports, Routes, is_up, route_at, with_route, without}
use Rattle.import_core.specs.Operations.{also_refreshed, configured, done_in, enabled, fixed_route, opened, refreshed, started, up_with}
use Rattle.import_core.proofs.Routes.{at_tells}
use Rattle.core_machine.specs.Histories.{AreFrom, IsFrom}
use Rattle.core_machine.proofs.Contents.{some_same}
use Rattle.core_setup.specs.Announced.{FitsTable, IsOfFamily, fixed_at, fixed_in}
use Rattle.core_setup.specs.Differences.{difference_at, nets_of, same_route, with_net, with_nets}
use Rattle.core_setup.specs.Protocols.{effect_after, effect_at, effect_in, imports_after, protocol_at, rules_of}
use Rattle.core_setup.specs.Setup.{Body, FitsBody, FitsSource, IsPipe, IsSetup, IsSource, Protocol, Setup, Source, family_at}
use Rattle.core_setup.proofs.Chained.{all_of, reverse_push}
use Rattle.core_setup.proofs.Numbered.{all_append, protocol_is}

pub all_reverse : {X : Type 0} (P : X → Type 0) (xs : List X) → AllByRecursion P xs → AllByRecursion P (reverse xs)
all_reverse P [] a = tt
all_reverse P (x ∷ xs) a = subst (AllByRecursion P) (sym (reverse_push x xs)) (all_append P (reverse xs) (x ∷ []) (all_reverse P xs a.1) (a.0, tt))

all_both : {X : Type 0} (P Q : X → Type 0) (xs : List X) → AllByRecursion P xs → AllByRecursion Q xs → AllByRecursion (λ x. P x × Q x) xs
all_both P Q [] a b = tt
all_both P Q (x ∷ xs) a b = ((a.0, b.0), all_both P Q xs a.1 b.1)

all_always : {X : Type 0} (P : X → Type 0) → ((x : X) → P x) → (xs : List X) → AllByRecursion P xs
all_always P h [] = tt
all_always P h (x ∷ xs) = (h x, all_always P h xs)

-- ---- routes by net

module _ (P : Net → Route → Type 0) where
  abbrev All : Routes → Type 0
  All routes = AllByRecursion (λ (e : Net × Route). P e.0 e.1) routes

  all_put : (net : Net) (route : Route) (es : Routes) → P net route → All es → All (with_route net route es)
  all_put net route [] h a = (h, tt)
  all_put net route (e ∷ es) h a = by (net_cmp net e.0) refl (all_put net route es h a.1) where
    by : (r : Ordering) → net_cmp net e.0 ≡ r → All (with_route net route es) → All (match_ordering r ((net, route) ∷ e ∷ es) ((e.0, route) ∷ es) (e ∷ with_route net route es))
    by Less p later = (h, a)
    by Equal p later = (subst (λ n. P n route) (net_cmp_equal net e.0 p) h, a.1)
    by Greater p later = (a.0, later)

  all_filter : (test : Net × Route → Bool) (es : Routes) → All es → All (filter test es)
  all_filter test [] a = tt
  all_filter test (e ∷ es) a = by (test e) (all_filter test es a.1) where
    by : (t : Bool) → All (filter test es) → All (cond t (e ∷ filter test es) (filter test es))
    by true later = (a.0, later)
    by false later = later

  all_without : (net : Net) (es : Routes) → All es → All (without net es)
  all_without net es a = all_filter (λ e. not (is_at (net_cmp net) e.0)) es a

  route_of_all : (net : Net) (es : Routes) → All es → IfSome (route_at net es) (P net)
  route_of_all net [] a = tt
  route_of_all net (e ∷ es) a = elim (at_tells net e.0) [
    | inl w ↦ subst (λ o. IfSome o (P net)) (sym (ap (λ t. cond t (Some e.1) (route_at net es)) w.0)) (subst (λ n. P n e.1) (sym w.1) a.0)
    | inr w ↦ subst (λ o. IfSome o (P net)) (sym (ap (λ t. cond t (Some e.1) (route_at net es)) w.0)) (route_of_all net es a.1)
  ]

-- ---- what operations keep

-- it holds of all routes of a state
abbrev Both : (Net → Route → Type 0) → Imports → Type 0
Both P i = All P i.received × All P i.accepted

-- and of what an operation announces
abbrev Announces : ImportSpec → (Net → Route → Type 0) → Op → Type 0
Announces spec P (Add net given) = (id : ℕ) → P net (imported_route spec id given)
Announces spec P op = ⊤

module _ (spec : ImportSpec) (verdict : Filter) (P : Net → Route → Type 0) (filtered : (net : Net) (route : Route) (attrs : Attrs) → P net route → P net (record { src = route.src; attrs = attrs })) (fixed : AllByRecursion (λ (f : Fixed). P f.net (fixed_route spec f)) spec.fixed) where
  left_is : (net : Net) (route : Route) → P net route → IfSome (left_of verdict net route) (P net)
  left_is net route h = by (verdict net route) where
    by : (v : Verdict) → IfSome (left_by v route) (P net)
    by (Accept attrs) = filtered net route attrs h
    by (Reject fault) = tt

  received_stay : (k : Kind) (routes : Routes) → All P routes → All P (left_received k routes)
  received_stay Static routes a = a
  received_stay Bgp routes a = tt

  beyond_keeps : (a : Action) (net : Net) (route : Route) (i : Imports) → P net route → Both P i → Both P (beyond spec a net route i).imports
  beyond_keeps action.Warn net route i h b = (b.0, all_put P net route i.accepted h b.1)
  beyond_keeps action.Block net route i h b = (b.0, all_without P net i.accepted b.1)
  beyond_keeps action.Disable net route i h b = (received_stay spec.kind i.received b.0, tt)

  limit_keeps : (l : Option Limit) (net : Net) (route : Route) (i : Imports) → P net route → Both P i → Both P (at_limit spec l net route i).imports
  limit_keeps None net route i h b = (b.0, all_put P net route i.accepted h b.1)
  limit_keeps (Some limit) net route i h b = by (is_over (Some limit) net i.accepted) where
    by : (t : Bool) → Both P (if t then beyond spec limit.action net route i else only (accepting net route i)).imports
    by true = beyond_keeps limit.action net route i h b
    by false = (b.0, all_put P net route i.accepted h b.1)

  taken_keeps : (net : Net) (o : Option Route) (i : Imports) → IfSome o (P net) → Both P i → Both P (taken spec net o i).imports
  taken_keeps net None i h b = (b.0, all_without P net i.accepted b.1)
  taken_keeps net (Some route) i h b = limit_keeps spec.limit net route i h b

  next_keeps : (o : Outcome) (e : Net × Route) → P e.0 e.1 → Both P o.imports → Both P (decided_next spec verdict o e).imports
  next_keeps o e h b = by (is_up o.imports.mode) where
    next : Outcome
    next = decided spec verdict e.0 e.1 o.imports

    by : (t : Bool) → Both P (if t then record { imports = next.imports; over = o.over || next.over; mark = next.mark } else o).imports
    by true = taken_keeps e.0 (left_of verdict e.0 e.1) o.imports (left_is e.0 e.1 h) b
    by false = b

  all_keep : (es : Routes) (o : Outcome) → All P es → Both P o.imports → Both P (fold (decided_next spec verdict) o es).imports
  all_keep [] o a b = b
  all_keep (e ∷ es) o a b = all_keep es (decided_next spec verdict o e) a.1 (next_keeps o e a.0 b)

  rebuilt_keeps : (i : Imports) → All P i.received → Both P (rebuilt spec verdict i).imports
  rebuilt_keeps i a = all_keep i.received (only (record i { accepted = [] })) a (a, tt)

  up_keeps : (received : Routes) (i : Imports) → All P received → Both P (up_with spec verdict received i).imports
  up_keeps received i a = rebuilt_keeps (record i { mode = mode.Up; received = received }) a

  configured_are : (fs : List Fixed) (routes : Routes) → AllByRecursion (λ (f : Fixed). P f.net (fixed_route spec f)) fs → All P routes → All P (fold (λ routes f. with_route f.net (fixed_route spec f) routes) routes fs)
  configured_are [] routes a b = b
  configured_are (f ∷ fs) routes a b = configured_are fs (with_route f.net (fixed_route spec f) routes) a.1 (all_put P f.net (fixed_route spec f) routes a.0 b)

  start_keeps : (k : Kind) (i : Imports) → Both P i → Both P (started spec verdict k i).imports
  start_keeps Static i b = up_keeps (configured spec) i (configured_are spec.fixed [] fixed tt)
  start_keeps Bgp i b = b

  open_keeps : (k : Kind) (id : ℕ) (i : Imports) → Both P i → Both P (opened k id i).imports
  open_keeps Static id i b = b
  open_keeps Bgp id i b = b

  enable_keeps : (k : Kind) (i : Imports) → Both P i → Both P (enabled spec verdict k i).imports
  enable_keeps Static i b = up_keeps i.received i b.0
  enable_keeps Bgp i b = b

  also_keeps : (o : Outcome) → Both P o.imports → Both P (also_refreshed spec o).imports
  also_keeps o b = by (is_up o.imports.mode) where
    by : (t : Bool) → Both P (if t then record o { mark = (refreshed spec o.imports).mark } else o).imports
    by true = b
    by false = b

  done_keeps : (op : Op) (m : Mode) (i : Imports) → Announces spec P op → Both P i → Both P (done_in spec verdict op m i).imports
  done_keeps Start mode.Idle i h b = start_keeps spec.kind i b
  done_keeps (SessionUp id) mode.Idle i h b = open_keeps spec.kind id i b
  done_keeps (Add net given) mode.Up i h b =
      let route = imported_route spec i.id given in
      taken_keeps net (left_of verdict net route) (record i { received = with_route net route i.received }) (left_is net route (h i.id))
      (all_put P net route i.received (h i.id) b.0, b.1)
  done_keeps (Del net) mode.Up i h b = (all_without P net i.received b.0, all_without P net i.accepted b.1)
  done_keeps SessionDown mode.Up i h b = (tt, tt)
  done_keeps Disable mode.Idle i h b = (received_stay spec.kind i.received b.0, tt)
  done_keeps Disable mode.Up i h b = (received_stay spec.kind i.received b.0, tt)
  done_keeps Disable mode.Limited i h b = (received_stay spec.kind i.received b.0, tt)
  done_keeps Enable mode.Disabled i h b = enable_keeps spec.kind i b
  done_keeps Enable mode.Limited i h b = enable_keeps spec.kind i b
  done_keeps ReloadIn mode.Up i h b = rebuilt_keeps i b.0
  done_keeps ReloadOut mode.Up i h b = b
  done_keeps Reload mode.Up i h b = also_keeps (rebuilt spec verdict i) (rebuilt_keeps i b.0)
  done_keeps op m i h b = b

-- ---- the changes

module _ (num : ℕ) (before later : Routes) where
  abbrev change : Net → Change
  change net = record { net = net; num = num; new = route_at net later }

  changed_are : (Q : Change → Type 0) (ns : List Net) → AllByRecursion (λ (n : Net). Q (change n)) ns → AllByRecursion Q (flat_map (difference_at num before later) ns)
  changed_are Q [] a = tt
  changed_are Q (n ∷ ns) a = by (same_route (route_at n before) (route_at n later)) (changed_are Q ns a.1) where
    by : (t : Bool) → AllByRecursion Q (flat_map (difference_at num before later) ns) → AllByRecursion Q ((if t then [] else change n ∷ []) ++ flat_map (difference_at num before later) ns)
    by true rest = rest
    by false rest = (a.0, rest)

all_with : (F : Net → Type 0) (net : Net) (ns : List Net) → F net → AllByRecursion F ns → AllByRecursion F (with_net net ns)
all_with F net [] h a = (h, tt)
all_with F net (n ∷ ns) h a = by (same_net net n) (precedes net n) (all_with F net ns h a.1) where
  by : (t p : Bool) → AllByRecursion F (with_net net ns) → AllByRecursion F (if t then n ∷ ns else (if p then net ∷ n ∷ ns else n ∷ with_net net ns))
  by true p later = a
  by false true later = (h, a)
  by false false later = (a.0, later)

all_nets : (F : Net → Type 0) (ks ns : List Net) → AllByRecursion F ks → AllByRecursion F ns → AllByRecursion F (with_nets ks ns)
all_nets F [] ns a b = b
all_nets F (k ∷ ks) ns a b = all_with F k (with_nets ks ns) a.0 (all_nets F ks ns a.1 b)

all_keys : (F : Net → Type 0) (es : Routes) → All (λ net route. F net) es → AllByRecursion F (keys_of es)
all_keys F [] a = tt
all_keys F (e ∷ es) a = (a.0, all_keys F es a.1)

-- ---- a protocol

module _ (p : Source) (P : Net → Route → Type 0) (filtered : (net : Net) (route : Route) (attrs : Attrs) → P net route → P net (record { src = route.src; attrs = attrs })) (fixed : AllByRecursion (λ (f : Fixed). P f.net (fixed_route p.spec f)) p.spec.fixed) where
  imports_are : (ops : List Op) → AllByRecursion (Announces p.spec P) ops → Both P (imports_after p ops)
  imports_are [] a = (tt, tt)
  imports_are (op ∷ earlier) a =
      let i = imports_after p earlier in
      done_keeps p.spec p.filter P filtered fixed op i.mode i a.0 (imports_are earlier a.1)

-- what operations announce is of the protocol
abbrev Tells : ImportSpec → Op → Type 0
Tells spec op = Announces spec (λ net route. route.src.num ≡ spec.src.num) op

its_source : (p : Source) (earlier : List Op) (op : Op) → AllByRecursion (IsFrom p.spec.src.num) (effect_after p earlier op).changes
its_source p earlier op =
    let num = p.spec.src.num in
    let P : Net → Route → Type 0 = λ net route. route.src.num ≡ num in
    let all = imports_are p P (λ net route attrs h. h) (all_always (λ (f : Fixed). P f.net (fixed_route p.spec f)) (λ f. refl) p.spec.fixed)
    (op ∷ earlier) (announced (op ∷ earlier)) in
    let before = (imports_after p earlier).accepted in
    let later = (imports_after p (op ∷ earlier)).accepted in
    all_reverse (IsFrom num) _
    (changed_are num before later (IsFrom num) (nets_of before later)
    (all_always (λ net. IsFrom num (record { net = net; num = num; new = route_at net later })) (λ net. record { change = refl; route = route_of_all P net later all.1 }) (nets_of before later)))
  where
    one : (op : Op) → Tells p.spec op
    one (Add net given) = λ id. refl
    one op = tt

    announced : (ops : List Op) → AllByRecursion (Tells p.spec) ops
    announced ops = all_always (Tells p.spec) one ops

-- all changes of operations
all_from : (num : ℕ) (xs : List Change) → AllByRecursion (IsFrom num) xs → (ys : List Change) → AreFrom num ys → AreFrom num (xs ++ ys)
all_from num [] a ys b = b
all_from num (x ∷ xs) a ys b = (a.0, all_from num xs a.1 ys b)

pub all_own : (p : Source) (ops : List Op) → AreFrom p.spec.src.num (all_of p ops)
all_own p [] = tt
all_own p (op ∷ earlier) = all_from p.spec.src.num (effect_after p earlier op).changes (its_source p earlier op) (all_of p earlier) (all_own p earlier)

pub sources_are : (setup : Setup) (i : ℕ) (earlier : List Op) (op : Op) → IsSetup setup → AllByRecursion (IsFrom i) ((rules_of setup).gives i earlier op).changes
sources_are setup i earlier op is = by (protocol_at setup i) refl where
  in_body : (b : Body) → FitsBody setup.tables i b → AllByRecursion (IsFrom i) (effect_in b earlier op).changes
  in_body (IsSource p) fits = subst (λ n. AllByRecursion (IsFrom n) (effect_after p earlier op).changes) fits.source (its_source p earlier op)
  in_body (IsPipe p) fits = tt

  by : (o : Option Protocol) → protocol_at setup i ≡ o → AllByRecursion (IsFrom i) (effect_at o earlier op).changes
  by None e = tt
  by (Some p) e = in_body p.body (protocol_is setup i p is e)

module _ (family : Family) where
  abbrev InFamily : Net → Route → Type 0
  InFamily net route = family_of net.addr ≡ family

  its_family : (p : Source) → AllByRecursion (λ (f : Fixed). family_of f.net.addr ≡ family) p.spec.fixed → (earlier : List Op) (op : Op) → AllByRecursion (IsOfFamily family) (op ∷ earlier)
      → AllByRecursion (λ (c : Change). family_of c.net.addr ≡ family) (effect_after p earlier op).changes
  its_family p fixed earlier op given =
      let before = (imports_after p earlier).accepted in
      let later = (imports_after p (op ∷ earlier)).accepted in
      let old = imports_are p InFamily (λ net route attrs h. h) fixed earlier (announced earlier given.1) in
      let new = imports_are p InFamily (λ net route attrs h. h) fixed (op ∷ earlier) (announced (op ∷ earlier) given) in
      let F : Net → Type 0 = λ net. family_of net.addr ≡ family in
      all_reverse (λ (c : Change). family_of c.net.addr ≡ family) _
      (changed_are p.spec.src.num before later (λ c. family_of c.net.addr ≡ family) (nets_of before later)
      (all_nets F (keys_of before) (with_nets (keys_of later) []) (all_keys F before old.1) (all_nets F (keys_of later) [] (all_keys F later new.1) tt)))
    where
      one : (op : Op) → IsOfFamily family op → Announces p.spec InFamily op
      one (Add net given) h = λ id. h
      one op h = tt

      announced : (ops : List Op) → AllByRecursion (IsOfFamily family) ops → AllByRecursion (Announces p.spec InFamily) ops
      announced [] a = tt
      announced (op ∷ ops) a = (one op a.0, announced ops a.1)

families_in : (b : Body) (family : Family) (earlier : List Op) (op : Op) → AllByRecursion (λ (f : Fixed). family_of f.net.addr ≡ family) (fixed_in b) → AllByRecursion (IsOfFamily family) (op ∷ earlier)
    → AllByRecursion (λ (c : Change). family_of c.net.addr ≡ family) (effect_in b earlier op).changes
families_in (IsSource p) family earlier op fixed given = its_family family p fixed earlier op given
families_in (IsPipe p) family earlier op fixed given = tt

pub families_are : (p : Option Protocol) (family : Family) (earlier : List Op) (op : Op) → AllByRecursion (λ (f : Fixed). family_of f.net.addr ≡ family) (fixed_at p) → AllByRecursion (IsOfFamily family) (op ∷ earlier)
    → AllByRecursion (λ (c : Change). family_of c.net.addr ≡ family) (effect_at p earlier op).changes
families_are None family earlier op fixed given = tt
families_are (Some p) family earlier op fixed given = families_in p.body family earlier op fixed given

-- ---- what a protocol is told is of the family of its table

pub all_weaker : {X : Type 0} (P Q : X → Type 0) → ((x : X) → P x → Q x) → (xs : List X) → AllByRecursion P xs → AllByRecursion Q xs
all_weaker P Q f [] a = tt
all_weaker P Q f (x ∷ xs) a = (f x a.0, all_weaker P Q f xs a.1)

-- the changes of a protocol, and that they tell it
pub fitting : (tables : List (List ℕ × Family)) (number : ℕ) (p : Source) (family : Family) → FitsSource tables number p → family_at tables p.table ≡ Some family
    → (earlier : List Op) (op : Op) → AllByRecursion (FitsTable tables (IsSource p)) (op ∷ earlier)
    → AllByRecursion (λ (c : Change). (family_of c.net.addr ≡ family) × IsFrom number c) (effect_after p earlier op).changes
fitting tables number p family fits is earlier op told =
    all_both (λ (c : Change). family_of c.net.addr ≡ family) (IsFrom number) (effect_after p earlier op).changes
    (its_family family p
    (all_weaker (λ (f : Fixed). family_at tables p.table ≡ Some (family_of f.net.addr)) (λ (f : Fixed). family_of f.net.addr ≡ family) (λ f e. some_same (sym e ∙ is)) p.spec.fixed fits.fixed)
    earlier op
    (all_weaker (FitsTable tables (IsSource p)) (IsOfFamily family) (λ op h. subst (λ o. IfSome o (λ family. IsOfFamily family op)) is h) (op ∷ earlier) told))
    (subst (λ n. AllByRecursion (IsFrom n) (effect_after p earlier op).changes) fits.source (its_source p earlier op))
