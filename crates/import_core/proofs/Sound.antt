-- What each operation keeps.
use Rattle.std.proofs.Common.{◌≡◌, ℕ, inl, inr, Bool, true, false, cond, not, List, [], ◌∷◌, Some, None, refl, sym, ◌∙◌, ap, subst, arith}
use Rattle.std.specs.Prelude.{fold, option_and_then, if◌then◌else◌}
use Rattle.std.specs.Map.{keys_of}
use Rattle.bits_ip.specs.Prefix.{Net}
use Rattle.attrs.specs.declared.attributes.Kind.{Kind}
use Rattle.attrs.specs.declared.attributes.Kind.TheVariants.{Bgp, Static}
use Rattle.attrs.specs.declared.route.Route.{Route}
use Rattle.import_core.specs.declared.import_spec.Fixed.{Fixed}
use Rattle.import_core.specs.declared.import_spec.ImportSpec.{ImportSpec}
use Rattle.import_core.specs.declared.mode.Mode.{Mode}
use Rattle.import_core.specs.declared.mode.Mode.TheVariants as mode
use Rattle.import_core.specs.declared.operation.Given.{Given}
use Rattle.import_core.specs.declared.operation.Op.{Op}
use Rattle.import_core.specs.declared.operation.Op.TheVariants.{Start, SessionUp, Add, Del, SessionDown, Disable, Enable, ReloadIn, ReloadOut, Reload}
use Rattle.import_core.specs.Import.{imported_route}
use Rattle.import_core.specs.Imports.{Routes, Imports, nothing_yet, route_at, with_route, without, is_up}
use Rattle.import_core.specs.Decisions.{Filter, Outcome, left_of, left_at, switched_off, rebuilt}
use Rattle.import_core.specs.Operations.{fixed_route, configured, up_with, started, opened, added, deleted, enabled, refreshed, also_refreshed, done_in, done, beginning_of, beginning, after_from, after_operations}
use Rattle.import_core.proofs.Routes.{at, at_tells, at_flip, at_itself, Sorted, sorted_nil, found-put, found-dropped, sorted-put, sorted-filter, length-filter}
use Rattle.import_core.proofs.Deciding.{Sound, decided_rises, risen_sound, rebuilt_sound, up_is, left_sorted, gone_bgp, unlimited}

module _ (spec : ImportSpec) (verdict : Filter) where
  configured_sorted : (fixed : List Fixed) (routes : Routes) → Sorted (keys_of routes) → Sorted (keys_of (fold (λ routes f. with_route f.net (fixed_route spec f) routes) routes fixed))
  configured_sorted [] routes s = s
  configured_sorted (f ∷ fixed) routes s = configured_sorted fixed (with_route f.net (fixed_route spec f) routes) (sorted-put f.net (fixed_route spec f) routes s)

  no_routes : {A : Type 0} (q : Net) (r : Route) → route_at q [] ≡ Some r → A
  no_routes q r e = let h : None ≡ Some r = e in cc

  off_sound : (m : Mode) → is_up m ≡ false → (m ≡ mode.Idle → ⊥) → (i : Imports) → Sound spec verdict i → Sound spec verdict (switched_off spec m i)
  off_sound m off never i s = record {
    received = left_sorted spec.kind i.received s.received;
    accepted = sorted_nil;
    filtered = λ q r e. no_routes q r e;
    off = λ _. refl;
    gone = λ k _. gone_bgp spec.kind i.received k;
    idle = λ e. absurd (never e);
    whole = λ _ up. absurd (let h : true ≡ false = sym up ∙ off in cc);
    within = λ limit _ _. omega arith;
  }

  closed_sound : (id : ℕ) → Sound spec verdict (record { mode = mode.Idle; id = id; received = []; accepted = [] })
  closed_sound id = record {
    received = sorted_nil;
    accepted = sorted_nil;
    filtered = λ q r e. no_routes q r e;
    off = λ _. refl;
    gone = λ _ _. refl;
    idle = λ _. refl;
    whole = λ _ up. absurd (let h : false ≡ true = up in cc);
    within = λ limit _ _. omega arith;
  }

  up_with_sound : (received : Routes) (i : Imports) → Sorted (keys_of received) → Sound spec verdict (up_with spec verdict received i).imports
  up_with_sound received i s = rebuilt_sound spec verdict (record i { mode = mode.Up; received = received }) refl s

  started_sound : (k : Kind) (i : Imports) → Sound spec verdict i → Sound spec verdict (started spec verdict k i).imports
  started_sound Static i s = up_with_sound (configured spec) i (configured_sorted spec.fixed [] sorted_nil)
  started_sound Bgp i s = s

  opened_sound : (k : Kind) (id : ℕ) (i : Imports) → i.mode ≡ mode.Idle → Sound spec verdict i → Sound spec verdict (opened k id i).imports
  opened_sound Static id i e s = s
  opened_sound Bgp id i e s = record {
    received = s.received;
    accepted = s.accepted;
    filtered = s.filtered;
    off = λ up. absurd (let h : true ≡ false = up in cc);
    gone = λ _ up. absurd (let h : true ≡ false = up in cc);
    idle = λ up. absurd (let h : mode.Up ≡ mode.Idle = up in cc);
    whole = λ _ _ q. ap (route_at q) (s.off (ap is_up e)) ∙ sym (ap (left_at verdict q) (s.idle e));
    within = s.within;
  }

  enabled_sound : (k : Kind) (i : Imports) → spec.kind ≡ k → is_up i.mode ≡ false → Sound spec verdict i → Sound spec verdict (enabled spec verdict k i).imports
  enabled_sound Static i k off s = up_with_sound i.received i s.received
  enabled_sound Bgp i k off s = record {
    received = s.received;
    accepted = s.accepted;
    filtered = s.filtered;
    off = λ _. s.off off;
    gone = λ _ _. s.gone k off;
    idle = λ _. s.gone k off;
    whole = λ _ up. absurd (let h : false ≡ true = up in cc);
    within = s.within;
  }

  deleted_sound : (net : Net) (i : Imports) → is_up i.mode ≡ true → Sound spec verdict i → Sound spec verdict (deleted net i).imports
  deleted_sound net i up s = record {
    received = sorted-filter _ i.received s.received;
    accepted = sorted-filter _ i.accepted s.accepted;
    filtered = λ q r e. filtered (at net q) q r refl (sym (found-dropped q net i.accepted) ∙ e);
    off = λ off. absurd (let h : true ≡ false = sym up ∙ off in cc);
    gone = λ _ off. absurd (let h : true ≡ false = sym up ∙ off in cc);
    idle = λ e. absurd (let h : mode.Up ≡ mode.Idle = sym (up_is i.mode up) ∙ e in cc);
    whole = λ limit _ q. found-dropped q net i.accepted ∙ whole (at net q) q (s.whole limit up q) ∙ sym (ap (option_and_then (left_of verdict q)) (found-dropped q net i.received));
    within = λ limit e hard. let h = length-filter (λ e. not (at net e.0)) i.accepted in let k = s.within limit e hard in omega (arith, h, k);
  } where
    filtered : (t : Bool) (q : Net) (r : Route) → at net q ≡ t → cond t None (route_at q i.accepted) ≡ Some r → left_at verdict q (without net i.received) ≡ Some r
    filtered true q r p e = let h : None ≡ Some r = e in cc
    filtered false q r p e =
        ap (option_and_then (left_of verdict q)) (found-dropped q net i.received ∙ ap (λ t. cond t None (route_at q i.received)) p) ∙ s.filtered q r e

    whole : (t : Bool) (q : Net) → route_at q i.accepted ≡ left_at verdict q i.received
        → cond t None (route_at q i.accepted) ≡ option_and_then (left_of verdict q) (cond t None (route_at q i.received))
    whole true q e = refl
    whole false q e = e

  added_sound : (net : Net) (given : Given) (i : Imports) → is_up i.mode ≡ true → Sound spec verdict i → Sound spec verdict (added spec verdict net given i).imports
  added_sound net given i up s =
      risen_sound spec verdict received (added spec verdict net given i).imports sorted
      (decided_rises spec verdict received net route now up here refl s.accepted others s.within) whole
    where
      route : Route
      route = imported_route spec i.id given

      received : Routes
      received = with_route net route i.received

      now : Imports
      now = record i { received = received }

      sorted : Sorted (keys_of received)
      sorted = sorted-put net route i.received s.received

      here : route_at net received ≡ Some route
      here = found-put net net route i.received ∙ ap (λ t. cond t (Some route) (route_at net i.received)) (at_itself net)

      there : (q : Net) → at net q ≡ false → route_at q received ≡ route_at q i.received
      there q apart = found-put q net route i.received ∙ ap (λ t. cond t (Some route) (route_at q i.received)) (at_flip q net ∙ apart)

      others : (q : Net) (r : Route) → at net q ≡ false → route_at q i.accepted ≡ Some r → left_at verdict q received ≡ Some r
      others q r apart e = ap (option_and_then (left_of verdict q)) (there q apart) ∙ s.filtered q r e

      whole : spec.limit ≡ None → is_up (added spec verdict net given i).imports.mode ≡ true → (q : Net)
          → route_at q (added spec verdict net given i).imports.accepted ≡ left_at verdict q (added spec verdict net given i).imports.received
      whole limit still q =
          let u = unlimited spec verdict net (left_of verdict net route) now q limit in
          u.2 ∙ elim (at_tells net q) [
            | inl w ↦ ap (λ t. cond t (left_of verdict net route) (route_at q i.accepted)) w.0
                ∙ ap (λ n. left_of verdict n route) w.1
                ∙ sym (ap (option_and_then (left_of verdict q)) (subst (λ n. route_at n received ≡ Some route) w.1 here))
            | inr w ↦ ap (λ t. cond t (left_of verdict net route) (route_at q i.accepted)) w.0
                ∙ s.whole limit up q ∙ sym (ap (option_and_then (left_of verdict q)) (there q w.0))
          ] ∙ sym (ap (left_at verdict q) u.1)

  also_sound : (o : Outcome) → Sound spec verdict o.imports → Sound spec verdict (also_refreshed spec o).imports
  also_sound o s = by (is_up o.imports.mode) where
    by : (t : Bool) → Sound spec verdict (if t then record o { mark = (refreshed spec o.imports).mark } else o).imports
    by true = s
    by false = s

  done_sound : (op : Op) (m : Mode) (i : Imports) → i.mode ≡ m → Sound spec verdict i → Sound spec verdict (done_in spec verdict op m i).imports
  done_sound Start mode.Idle i e s = started_sound spec.kind i s
  done_sound (SessionUp id) mode.Idle i e s = opened_sound spec.kind id i e s
  done_sound (Add net given) mode.Up i e s = added_sound net given i (ap is_up e) s
  done_sound (Del net) mode.Up i e s = deleted_sound net i (ap is_up e) s
  done_sound SessionDown mode.Up i e s = closed_sound i.id
  done_sound Disable mode.Idle i e s = off_sound mode.Disabled refl (λ e. cc) i s
  done_sound Disable mode.Up i e s = off_sound mode.Disabled refl (λ e. cc) i s
  done_sound Disable mode.Limited i e s = off_sound mode.Disabled refl (λ e. cc) i s
  done_sound Enable mode.Disabled i e s = enabled_sound spec.kind i refl (ap is_up e) s
  done_sound Enable mode.Limited i e s = enabled_sound spec.kind i refl (ap is_up e) s
  done_sound ReloadIn mode.Up i e s = rebuilt_sound spec verdict i (ap is_up e) s.received
  done_sound ReloadOut mode.Up i e s = s
  done_sound Reload mode.Up i e s = also_sound (rebuilt spec verdict i) (rebuilt_sound spec verdict i (ap is_up e) s.received)
  done_sound op m i e s = s

  after_sound : (ops : List Op) (i : Imports) → Sound spec verdict i → Sound spec verdict (after_from spec verdict i ops)
  after_sound [] i s = s
  after_sound (op ∷ ops) i s = after_sound ops (done spec verdict op i).imports (done_sound op i.mode i refl s)

  begins_sound : (k : Kind) → Sound spec verdict (beginning_of spec verdict k)
  begins_sound Static = done_sound Start mode.Idle nothing_yet refl (closed_sound 0)
  begins_sound Bgp = closed_sound 0

  -- after any operations
  pub always_sound : (ops : List Op) → Sound spec verdict (after_operations spec verdict ops)
  always_sound ops = after_sound ops (beginning spec verdict) (begins_sound spec.kind)
