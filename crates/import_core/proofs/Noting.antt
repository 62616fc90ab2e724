-- The changes of one net.
use Rattle.std.proofs.Common.{◌≡◌, ◌≢◌, ℕ, ◌+◌, ◌-◌, ◌<◌, ◌≤◌, ◌^◌, inl, inr, Bool, true, false, cond, not, List, [], ◌∷◌, ◌++◌, length, Option, Some, None, refl, sym, ◌∙◌, ap, subst, arith}
use Rattle.std.specs.Prelude.{is_some, IsTrue, ◌↔◌, if◌then◌else◌}
use Rattle.std.specs.Map.{keys_of}
use Rattle.bits_ip.specs.Prefix.{Net}
use Rattle.attrs.specs.declared.route.Change.{Change}
use Rattle.attrs.specs.declared.route.Route.{Route}
use Rattle.import_core.specs.declared.held.Held.{Held}
use Rattle.import_core.specs.Changes.{IsDifference}
use Rattle.import_core.specs.Held.{Kept, accepted_in, accepted_of, change_to, kept_in, placed, tally, IsNoted}
use Rattle.import_core.specs.Imports.{Routes, has_net, route_at}
use Rattle.import_core.proofs.Routes.{at, at_tells, at_flip, found, Sorted, sorted_nil, sorted_cons}
use Rattle.import_core.proofs.Differences.{option_tells}
use Rattle.import_core.proofs.Keeping.{accepted-updated, found-placed, length-accepted, length-placed, sorted-accepted, tally-accepted}

module _ (num : ℕ) (net : Net) (new : Option Route) (routes : Routes) where
  placed_here : (q : Net) → at net q ≡ true → route_at q (placed net new routes) ≡ new
  placed_here q e = found-placed q net new routes ∙ ap (λ t. cond t new (route_at q routes)) e

  placed_there : (q : Net) → at net q ≡ false → route_at q (placed net new routes) ≡ route_at q routes
  placed_there q e = found-placed q net new routes ∙ ap (λ t. cond t new (route_at q routes)) e

  -- the net's route becomes another one
  pub one_change : (route_at net routes ≢ new) → IsDifference num routes (placed net new routes) (change_to num net new ∷ [])
  one_change ne = record {
    order = sorted_cons net [] tt sorted_nil;
    source = (refl, tt);
    differing = λ q differs. elim (at_tells net q) [
      | inl w ↦ ap (λ t. cond t (Some new) None) (at_flip q net ∙ w.0) ∙ ap (λ o. Some o) (sym (placed_here q w.0))
      | inr w ↦ absurd (differs (sym (placed_there q w.0)))
    ];
    same = λ q same. elim (at_tells net q) [
      | inl w ↦ absurd (ne (subst (λ n. route_at n routes ≡ new) (sym w.1) (same ∙ placed_here q w.0)))
      | inr w ↦ ap (λ t. cond t (Some new) None) (at_flip q net ∙ w.0)
    ];
  }

  -- it stays
  pub no_change : route_at net routes ≡ new → IsDifference num routes (placed net new routes) []
  no_change e = record {
    order = sorted_nil;
    source = tt;
    differing = λ q differs. elim (at_tells net q) [
      | inl w ↦ absurd (differs (subst (λ n. route_at n routes ≡ new) w.1 e ∙ sym (placed_here q w.0)))
      | inr w ↦ absurd (differs (sym (placed_there q w.0)))
    ];
    same = λ q same. refl;
  }

  pub no_change_but : ((route_at net routes ≢ new) → ⊥) → IsDifference num routes (placed net new routes) []
  no_change_but never = elim (option_tells (route_at net routes) new) [ inl w ↦ no_change w | inr w ↦ absurd (never w) ]

pub some_there : (o : Option Route) → is_some o ≡ true → o ≢ None
some_there o e same = let h : true ≡ false = sym e ∙ ap is_some same in cc

pub none_there : (o : Option Route) → is_some o ≡ false → o ≡ None
none_there None e = refl
none_there (Some r) e = cc

pub noted_same : (num : ℕ) (net : Net) (a b : Option Route) (old : List Change) → a ≡ b → IsNoted num net a b old old
noted_same num net a b old e = inl (e, refl)

pub noted_other : (num : ℕ) (net : Net) (a b new : Option Route) (old later : List Change) → (a ≡ b → ⊥) → new ≡ b → later ≡ old ++ record { net = net; num = num; new = new } ∷ [] → IsNoted num net a b old later
noted_other num net a b new old later ne is pushed = inr (ne, pushed ∙ ap (λ n. old ++ record { net = net; num = num; new = n } ∷ []) is)

pub tally_if : (o : Option Route) (t : Bool) (n : ℕ) → t ≡ is_some o → n ≡ (if t then 1 else 0) → n ≡ tally o
tally_if o t n e f = f ∙ ap (λ t. if t then 1 else 0) e

-- how many are accepted behind a change of one entry
pub counts : (net : Net) (o : Option Route) (routes : Routes) (count was is : ℕ) (b c : Bool) → Sorted (keys_of routes) → count ≡ length routes
    → b ≡ has_net net routes → was ≡ (if b then 1 else 0) → c ≡ is_some o → is ≡ (if c then 1 else 0) → count - was + is ≡ length (placed net o routes)
counts net o routes count was is b c s e f g h j =
    let low = tally-accepted net routes s in
    let n = length-placed net o routes s in
    let w = tally_if (route_at net routes) b was f g in
    let i = tally_if o c is h j in
    omega (arith, low, n, w, i, e)

pub was_counted : (net : Net) (routes : Routes) (count was : ℕ) (b : Bool) → Sorted (keys_of routes) → count ≡ length routes
    → b ≡ has_net net routes → was ≡ (if b then 1 else 0) → was ≤ count
was_counted net routes count was b s e f g =
    let low = tally-accepted net routes s in
    let w = tally_if (route_at net routes) b was f g in
    omega (arith, low, w, e)

-- whether a net's route would be another one
pub differs_there : (r : Bool) (a b c : Option Route) → (IsTrue r ↔ (b ≡ c)) → a ≡ b → IsTrue (not r) ↔ (a ≢ c)
differs_there true a b c is e = ((λ t. let h : false ≡ true = t in cc), (λ ne. absurd (ne (e ∙ is.0 refl))))
differs_there false a b c is e = ((λ t q. let h : false ≡ true = is.1 (sym e ∙ q) in cc), (λ ne. refl))

pub differs_nowhere : (r : Bool) (a c : Option Route) → r ≡ is_some c → a ≡ None → IsTrue r ↔ (a ≢ c)
differs_nowhere true a c is e = ((λ t q. let h : true ≡ false = is ∙ ap is_some (sym q ∙ e) in cc), (λ ne. refl))
differs_nowhere false a c is e = ((λ t. let h : false ≡ true = t in cc), (λ ne. absurd (ne (e ∙ sym (none_there c (sym is))))))

-- the changes of one net, as one change or none
pub one_single : (num : ℕ) (net : Net) (new : Option Route) (routes : Routes) (changes : List Change) → (route_at net routes ≢ new) → changes ≡ change_to num net new ∷ []
    → IsDifference num routes (placed net new routes) changes
one_single num net new routes changes ne e = subst (λ (cs : List Change). IsDifference num routes (placed net new routes) cs) (sym e) (one_change num net new routes ne)

pub none_single : (num : ℕ) (net : Net) (new : Option Route) (routes : Routes) (changes : List Change) → ((route_at net routes ≢ new) → ⊥) → changes ≡ []
    → IsDifference num routes (placed net new routes) changes
none_single num net new routes changes never e = subst (λ (cs : List Change). IsDifference num routes (placed net new routes) cs) (sym e) (no_change_but num net new routes never)

-- how many are accepted behind a put, a removal
pub put_counts : (net : Net) (h : Held) (es fs : List (Net × Held)) (kept : Kept) (count was is : ℕ) (b c : Bool) → Sorted (keys_of es) → Sorted (keys_of fs)
    → ((q : Net) → found q fs ≡ cond (at net q) (Some h) (found q es)) → count ≡ length (accepted_in es) → kept_in es ≡ kept
    → b ≡ has_net net kept.accepted → was ≡ (if b then 1 else 0) → c ≡ is_some (accepted_of h) → is ≡ (if c then 1 else 0) → count - was + is ≡ length (accepted_in fs)
put_counts net h es fs kept count was is b c s t new e view f g i j =
    counts net (accepted_of h) (accepted_in es) count was is b c (sorted-accepted es s) e (f ∙ ap (λ (k : Kept). has_net net k.accepted) (sym view)) g i j
    ∙ ap length (sym (accepted-updated net (Some h) es fs s t new))

pub drop_counts : (net : Net) (es fs : List (Net × Held)) (kept : Kept) (count was : ℕ) (b : Bool) → Sorted (keys_of es) → Sorted (keys_of fs)
    → ((q : Net) → found q fs ≡ cond (at net q) None (found q es)) → count ≡ length (accepted_in es) → kept_in es ≡ kept
    → b ≡ has_net net kept.accepted → was ≡ (if b then 1 else 0) → count - was ≡ length (accepted_in fs)
drop_counts net es fs kept count was b s t new e view f g =
    let n = counts net None (accepted_in es) count was 0 b false (sorted-accepted es s) e (f ∙ ap (λ (k : Kept). has_net net k.accepted) (sym view)) g refl refl in
    let same = ap length (accepted-updated net None es fs s t new) in
    omega (arith, n, same)

pub sum_fits : (es : List (Net × Held)) (count was is n : ℕ) (c : Bool) → count ≡ length (accepted_in es) → n ≡ length es → n < 2 ^ 63 → is ≡ (if c then 1 else 0) → count - was + is < 2 ^ 64
sum_fits es count was is n true e f g j = let low = length-accepted es in omega (arith, low, e, f, g, j)
sum_fits es count was is n false e f g j = let low = length-accepted es in omega (arith, low, e, f, g, j)
