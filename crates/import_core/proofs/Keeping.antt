-- What entries say of received and accepted routes.
use Rattle.std.proofs.Common.{◌≡◌, ◌+◌, ◌≤◌, inl, inr, Bool, true, false, cond, List, [], ◌∷◌, ◌++◌, length, map, Option, Some, None, refl, sym, ◌∙◌, ap, subst, arith}
use Rattle.std.specs.Prelude.{option_map, option_and_then}
use Rattle.std.specs.List.{cons_option}
use Rattle.std.specs.Map.{keys_of, set_value}
use Rattle.std.specs.BTreeMap.{is_at}
use Rattle.std.proofs.lemmas.Map.Made.{lookup-map_values, keys_of-map_values}
use Rattle.bits_ip.specs.Prefix.{Net, net_cmp}
use Rattle.attrs.specs.declared.route.Route.{Route}
use Rattle.import_core.specs.declared.held.Accepted.{Accepted}
use Rattle.import_core.specs.declared.held.Accepted.TheVariants.{Nothing}
use Rattle.import_core.specs.declared.held.Held.{Held}
use Rattle.import_core.specs.Imports.{Routes, route_at}
use Rattle.import_core.specs.Held.{accepted_of, received_in, accepted_in, kept_in, placed, holding, missing, decided_as, write_one, write_all, tally}
use Rattle.import_core.proofs.Routes.{some_same, at, at_tells, at_flip, at_itself, Below, Sorted, sorted_cons, below_head, tail_sorted, Above, less_other, found, found-put, found-dropped, found-below, sorted-put, sorted-filter, same_entries, length-put-there, length-put-new, length-dropped, dropped-absent}

abbrev Entries : Type 0
Entries = List (Net × Held)

pub found-received : (q : Net) (es : Entries) → route_at q (received_in es) ≡ option_map (λ (h : Held). h.route) (found q es)
found-received q es = lookup-map_values (λ (h : Held). h.route) (is_at (net_cmp q)) es

pub keys-received : (es : Entries) → keys_of (received_in es) ≡ keys_of es
keys-received es = keys_of-map_values (λ (h : Held). h.route) es

pub sorted-received : (es : Entries) → Sorted (keys_of es) → Sorted (keys_of (received_in es))
sorted-received es s = subst (λ ks. Sorted ks) (sym (keys-received es)) s

-- one accepted route in front
abbrev pub with_first : Net → Option Route → Routes → Routes
with_first k o routes = cons_option (option_map (λ r. (k, r)) o) routes

below-accepted : (a : Net) (es : Entries) → Below a (keys_of es) → Below a (keys_of (accepted_in es))
below-accepted a [] b = tt
below-accepted a (e ∷ es) b = by (accepted_of e.1) (below-accepted a es b.1) where
  by : (o : Option Route) → Below a (keys_of (accepted_in es)) → Below a (keys_of (with_first e.0 o (accepted_in es)))
  by None later = later
  by (Some r) later = (b.0, later)

pub above-accepted : (es : Entries) (k : Net) → Above (keys_of es) k → Above (keys_of (accepted_in es)) k
above-accepted [] k b = tt
above-accepted (e ∷ es) k b = by (accepted_of e.1) (above-accepted es k b.1) where
  by : (o : Option Route) → Above (keys_of (accepted_in es)) k → Above (keys_of (with_first e.0 o (accepted_in es))) k
  by None later = later
  by (Some r) later = (b.0, later)

pub sorted-accepted : (es : Entries) → Sorted (keys_of es) → Sorted (keys_of (accepted_in es))
sorted-accepted [] s = s
sorted-accepted (e ∷ es) s = by (accepted_of e.1) (sorted-accepted es (tail_sorted e.0 (keys_of es) s)) where
  by : (o : Option Route) → Sorted (keys_of (accepted_in es)) → Sorted (keys_of (with_first e.0 o (accepted_in es)))
  by None later = later
  by (Some r) later = sorted_cons e.0 (keys_of (accepted_in es)) (below-accepted e.0 es (below_head e.0 (keys_of es) s)) later

pub found-accepted : (q : Net) (es : Entries) → Sorted (keys_of es) → route_at q (accepted_in es) ≡ option_and_then accepted_of (found q es)
found-accepted q [] s = refl
found-accepted q (e ∷ es) s = by (accepted_of e.1) refl (found-accepted q es (tail_sorted e.0 (keys_of es) s)) where
  by : (o : Option Route) → accepted_of e.1 ≡ o → route_at q (accepted_in es) ≡ option_and_then accepted_of (found q es)
      → route_at q (with_first e.0 o (accepted_in es)) ≡ option_and_then accepted_of (cond (at q e.0) (Some e.1) (found q es))
  by None p later = elim (at_tells q e.0) [
    | inl w ↦ subst (λ n. route_at n (accepted_in es) ≡ None) (sym w.1) (found-below e.0 (accepted_in es) (below-accepted e.0 es (below_head e.0 (keys_of es) s)))
        ∙ sym (ap (λ t. option_and_then accepted_of (cond t (Some e.1) (found q es))) w.0 ∙ p)
    | inr w ↦ later ∙ sym (ap (λ t. option_and_then accepted_of (cond t (Some e.1) (found q es))) w.0)
  ]
  by (Some r) p later = elim (at_tells q e.0) [
    | inl w ↦ ap (λ t. cond t (Some r) (route_at q (accepted_in es))) w.0 ∙ sym p ∙ sym (ap (λ t. option_and_then accepted_of (cond t (Some e.1) (found q es))) w.0)
    | inr w ↦ ap (λ t. cond t (Some r) (route_at q (accepted_in es))) w.0 ∙ later ∙ sym (ap (λ t. option_and_then accepted_of (cond t (Some e.1) (found q es))) w.0)
  ]

-- what is accepted of a net, by its entry
pub accepted_there : (net : Net) (es : Entries) (h : Held) → Sorted (keys_of es) → found net es ≡ Some h → route_at net (accepted_in es) ≡ accepted_of h
accepted_there net es h s e = found-accepted net es s ∙ ap (option_and_then accepted_of) e

pub accepted_nowhere : (net : Net) (es : Entries) → Sorted (keys_of es) → found net es ≡ None → route_at net (accepted_in es) ≡ None
accepted_nowhere net es s e = found-accepted net es s ∙ ap (option_and_then accepted_of) e

pub found-placed : (q k : Net) (o : Option Route) (routes : Routes) → route_at q (placed k o routes) ≡ cond (at k q) o (route_at q routes)
found-placed q k None routes = found-dropped q k routes
found-placed q k (Some r) routes = found-put q k r routes ∙ ap (λ t. cond t (Some r) (route_at q routes)) (at_flip q k)

pub sorted-placed : (k : Net) (o : Option Route) (routes : Routes) → Sorted (keys_of routes) → Sorted (keys_of (placed k o routes))
sorted-placed k None routes s = sorted-filter _ routes s
sorted-placed k (Some r) routes s = sorted-put k r routes s

cond_map : {A B : Type 0} (f : A → B) (t : Bool) (x y : Option A) → option_map f (cond t x y) ≡ cond t (option_map f x) (option_map f y)
cond_map f true x y = refl
cond_map f false x y = refl

cond_then : {A B : Type 0} (f : A → Option B) (t : Bool) (x y : Option A) → option_and_then f (cond t x y) ≡ cond t (option_and_then f x) (option_and_then f y)
cond_then f true x y = refl
cond_then f false x y = refl

-- the accepted routes behind a change of one entry
pub accepted-updated : (k : Net) (w : Option Held) (es fs : Entries) → Sorted (keys_of es) → Sorted (keys_of fs) → ((q : Net) → found q fs ≡ cond (at k q) w (found q es))
    → accepted_in fs ≡ placed k (option_and_then accepted_of w) (accepted_in es)
accepted-updated k w es fs s t new =
    same_entries (accepted_in fs) (placed k (option_and_then accepted_of w) (accepted_in es)) (sorted-accepted fs t)
    (sorted-placed k (option_and_then accepted_of w) (accepted_in es) (sorted-accepted es s))
    (λ q.
    found-accepted q fs t
    ∙ ap (option_and_then accepted_of) (new q)
    ∙ cond_then accepted_of (at k q) w (found q es)
    ∙ ap (λ o. cond (at k q) (option_and_then accepted_of w) o) (sym (found-accepted q es s))
    ∙ sym (found-placed q k (option_and_then accepted_of w) (accepted_in es)))

-- and the received ones
pub received-updated : (k : Net) (w : Option Held) (es fs : Entries) → Sorted (keys_of es) → Sorted (keys_of fs) → ((q : Net) → found q fs ≡ cond (at k q) w (found q es))
    → received_in fs ≡ placed k (option_map (λ (h : Held). h.route) w) (received_in es)
received-updated k w es fs s t new =
    same_entries (received_in fs) (placed k (option_map (λ (h : Held). h.route) w) (received_in es)) (sorted-received fs t)
    (sorted-placed k (option_map (λ (h : Held). h.route) w) (received_in es) (sorted-received es s))
    (λ q.
    found-received q fs
    ∙ ap (option_map (λ (h : Held). h.route)) (new q)
    ∙ cond_map (λ (h : Held). h.route) (at k q) w (found q es)
    ∙ ap (λ o. cond (at k q) (option_map (λ (h : Held). h.route) w) o) (sym (found-received q es))
    ∙ sym (found-placed q k (option_map (λ (h : Held). h.route) w) (received_in es)))

pub kept-put : (k : Net) (h : Held) (es fs : Entries) → Sorted (keys_of es) → Sorted (keys_of fs) → ((q : Net) → found q fs ≡ cond (at k q) (Some h) (found q es))
    → kept_in fs ≡ holding k h (kept_in es)
kept-put k h es fs s t new =
    let r = received-updated k (Some h) es fs s t new in
    let a = accepted-updated k (Some h) es fs s t new in
    λ i. record { received = r i; accepted = a i }

pub kept-dropped : (k : Net) (es fs : Entries) → Sorted (keys_of es) → Sorted (keys_of fs) → ((q : Net) → found q fs ≡ cond (at k q) None (found q es))
    → kept_in fs ≡ missing k (kept_in es)
kept-dropped k es fs s t new =
    let r = received-updated k None es fs s t new in
    let a = accepted-updated k None es fs s t new in
    λ i. record { received = r i; accepted = a i }

-- how many are accepted then
pub length-placed : (k : Net) (o : Option Route) (routes : Routes) → Sorted (keys_of routes) → length (placed k o routes) + tally (route_at k routes) ≡ length routes + tally o
length-placed k o routes s = by o (route_at k routes) refl where
  by : (o there : Option Route) → route_at k routes ≡ there → length (placed k o routes) + tally there ≡ length routes + tally o
  by None None e = let h = ap length (dropped-absent k routes e) in omega (arith, h)
  by None (Some r) e = let h = length-dropped k r routes s e in omega (arith, h)
  by (Some new) None e = let h = length-put-new k new routes e in omega (arith, h)
  by (Some new) (Some r) e = let h = length-put-there k new r routes s e in omega (arith, h)

pub length-accepted : (es : Entries) → length (accepted_in es) ≤ length es
length-accepted [] = omega arith
length-accepted (e ∷ es) = by (accepted_of e.1) (length-accepted es) where
  by : (o : Option Route) → length (accepted_in es) ≤ length es → length (with_first e.0 o (accepted_in es)) ≤ length (e ∷ es)
  by None later = omega arith
  by (Some r) later = omega arith

-- an accepted net counts
pub tally-accepted : (k : Net) (routes : Routes) → Sorted (keys_of routes) → tally (route_at k routes) ≤ length routes
tally-accepted k routes s = let h = length-placed k None routes s in omega (arith, h)

-- nothing is accepted of any net
abbrev pub blanked : Held → Held
blanked h = record { route = h.route; accepted = Nothing }

pub kept-blanked : (es : Entries) → kept_in (map (λ e. (e.0, blanked e.1)) es) ≡ record { received = received_in es; accepted = [] }
kept-blanked es = let r = received es in let a = accepted es in λ i. record { received = r i; accepted = a i } where
  received : (es : Entries) → received_in (map (λ e. (e.0, blanked e.1)) es) ≡ received_in es
  received [] = refl
  received (e ∷ es) = ap (λ rs. (e.0, e.1.route) ∷ rs) (received es)

  accepted : (es : Entries) → accepted_in (map (λ e. (e.0, blanked e.1)) es) ≡ []
  accepted [] = refl
  accepted (e ∷ es) = accepted es

-- decisions that are written one after another
list_tail : {A : Type 0} {x y : A} {xs ys : List A} → x ∷ xs ≡ y ∷ ys → xs ≡ ys
list_tail e = cc

list_head : {A : Type 0} {x y : A} {xs ys : List A} → x ∷ xs ≡ y ∷ ys → x ≡ y
list_head e = cc

write_past : (ds : List (Net × Accepted)) (k : Net) (h : Held) (es : Entries) → Below k (keys_of ds) → write_all ds ((k, h) ∷ es) ≡ (k, h) ∷ write_all ds es
write_past [] k h es b = refl
write_past (d ∷ ds) k h es b =
    ap (λ t. write_all ds (cond t ((k, record { route = h.route; accepted = d.1 }) ∷ es) ((k, h) ∷ write_one d.0 d.1 es))) (at_flip d.0 k ∙ less_other k d.0 b.0)
    ∙ write_past ds k h (write_one d.0 d.1 es) b.1

pub written : (ds : List (Net × Accepted)) (es : Entries) → Sorted (keys_of es) → keys_of ds ≡ keys_of es → write_all ds es ≡ decided_as ds es
written [] [] s e = refl
written [] (x ∷ es) s e = cc
written (d ∷ ds) [] s e = cc
written (d ∷ ds) (x ∷ es) s e =
    let key : d.0 ≡ x.0 = list_head e in
    let keys : keys_of ds ≡ keys_of es = list_tail e in
    let new : Held = record { route = x.1.route; accepted = d.1 } in
    ap (λ t. write_all ds (cond t ((x.0, new) ∷ es) (x ∷ write_one d.0 d.1 es))) (subst (λ n. at d.0 n ≡ true) key (at_itself d.0))
    ∙ write_past ds x.0 new es (subst (λ ks. Below x.0 ks) (sym keys) (below_head x.0 (keys_of es) s))
    ∙ ap (λ es. (x.0, new) ∷ es) (written ds es (tail_sorted x.0 (keys_of es) s) keys)

pub received-decided : (ds : List (Net × Accepted)) (es : Entries) → keys_of ds ≡ keys_of es → received_in (decided_as ds es) ≡ received_in es
received-decided [] [] e = refl
received-decided [] (x ∷ es) e = cc
received-decided (d ∷ ds) [] e = cc
received-decided (d ∷ ds) (x ∷ es) e = ap (λ rs. (x.0, x.1.route) ∷ rs) (received-decided ds es (list_tail e))

pub decided-push : (ds : List (Net × Accepted)) (es : Entries) (k : Net) (a : Accepted) (h : Held) → keys_of ds ≡ keys_of es
    → decided_as (ds ++ (k, a) ∷ []) (es ++ (k, h) ∷ []) ≡ decided_as ds es ++ (k, record { route = h.route; accepted = a }) ∷ []
decided-push [] [] k a h e = refl
decided-push [] (x ∷ es) k a h e = cc
decided-push (d ∷ ds) [] k a h e = cc
decided-push (d ∷ ds) (x ∷ es) k a h e = ap (λ es. (x.0, record { route = x.1.route; accepted = d.1 }) ∷ es) (decided-push ds es k a h (list_tail e))

pub keys-decided : (ds : List (Net × Accepted)) (es : Entries) → keys_of ds ≡ keys_of es → keys_of (decided_as ds es) ≡ keys_of es
keys-decided [] [] e = refl
keys-decided [] (x ∷ es) e = cc
keys-decided (d ∷ ds) [] e = cc
keys-decided (d ∷ ds) (x ∷ es) e = ap (λ ks. x.0 ∷ ks) (keys-decided ds es (list_tail e))

pub keys-push : {X : Type 0} (es : List (Net × X)) (k : Net) (x : X) → keys_of (es ++ (k, x) ∷ []) ≡ keys_of es ++ k ∷ []
keys-push [] k x = refl
keys-push (e ∷ es) k x = ap (λ ks. e.0 ∷ ks) (keys-push es k x)

pub keys-append : {X : Type 0} (es fs : List (Net × X)) → keys_of (es ++ fs) ≡ keys_of es ++ keys_of fs
keys-append [] fs = refl
keys-append (e ∷ es) fs = ap (λ ks. e.0 ∷ ks) (keys-append es fs)

pub received-append : (es fs : Entries) → received_in (es ++ fs) ≡ received_in es ++ received_in fs
received-append [] fs = refl
received-append (e ∷ es) fs = ap (λ rs. (e.0, e.1.route) ∷ rs) (received-append es fs)

-- one accepted route behind others
abbrev pub with_last : Routes → Net → Option Route → Routes
with_last routes k o = routes ++ with_first k o []

pub accepted-push : (es : Entries) (k : Net) (h : Held) → accepted_in (es ++ (k, h) ∷ []) ≡ with_last (accepted_in es) k (accepted_of h)
accepted-push [] k h = refl
accepted-push (e ∷ es) k h = ap (λ rs. with_first e.0 (accepted_of e.1) rs) (accepted-push es k h) ∙ by (accepted_of e.1) where
  by : (o : Option Route) → with_first e.0 o (with_last (accepted_in es) k (accepted_of h)) ≡ with_last (with_first e.0 o (accepted_in es)) k (accepted_of h)
  by None = refl
  by (Some r) = refl

-- a decision that is written through what `get_mut` lent
pub written_there : (k : Net) (a : Accepted) (es : Entries) (h : Held) → found k es ≡ Some h → set_value (is_at (net_cmp k)) es (record { route = h.route; accepted = a }) ≡ write_one k a es
written_there k a [] h e = cc
written_there k a (x ∷ es) h e = by (at k x.0) e (λ f. written_there k a es h f) where
  by : (t : Bool) → cond t (Some x.1) (found k es) ≡ Some h → (found k es ≡ Some h → set_value (is_at (net_cmp k)) es (record { route = h.route; accepted = a }) ≡ write_one k a es)
      → cond t ((x.0, record { route = h.route; accepted = a }) ∷ es) (x ∷ set_value (is_at (net_cmp k)) es (record { route = h.route; accepted = a }))
      ≡ cond t ((x.0, record { route = x.1.route; accepted = a }) ∷ es) (x ∷ write_one k a es)
  by true f later = ap (λ (g : Held). (x.0, record { route = g.route; accepted = a }) ∷ es) (sym (some_same f))
  by false f later = ap (λ es. x ∷ es) (later f)

pub written_nowhere : (k : Net) (a : Accepted) (es : Entries) → found k es ≡ None → es ≡ write_one k a es
written_nowhere k a [] e = refl
written_nowhere k a (x ∷ es) e = by (at k x.0) e (λ f. written_nowhere k a es f) where
  by : (t : Bool) → cond t (Some x.1) (found k es) ≡ None → (found k es ≡ None → es ≡ write_one k a es) → x ∷ es ≡ cond t ((x.0, record { route = x.1.route; accepted = a }) ∷ es) (x ∷ write_one k a es)
  by true f later = let h : Some x.1 ≡ None = f in cc
  by false f later = ap (λ es. x ∷ es) (later f)
