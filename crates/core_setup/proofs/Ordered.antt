-- Received and accepted routes stand in the order of nets.
use Rattle.std.proofs.Common.{◌≡◌, ℕ, Bool, true, false, List, [], ◌∷◌, refl, ap}
use Rattle.std.specs.Prelude.{fold, if◌then◌else◌}
use Rattle.bits_ip.specs.Prefix.{Net}
use Rattle.attrs.specs.declared.attributes.Kind.{Kind}
use Rattle.attrs.specs.declared.attributes.Kind.TheVariants.{Bgp, Static}
use Rattle.attrs.specs.declared.route.Route.{Route}
use Rattle.import_core.specs.declared.import_spec.Fixed.{Fixed}
use Rattle.import_core.specs.declared.import_spec.ImportSpec.{ImportSpec}
use Rattle.import_core.specs.declared.mode.Mode.{Mode}
use Rattle.import_core.specs.declared.mode.Mode.TheVariants as mode
use Rattle.import_core.specs.declared.operation.Op.{Op}
use Rattle.import_core.specs.declared.operation.Op.TheVariants.{Start, SessionUp, Add, Del, SessionDown, Disable, Enable, ReloadIn, ReloadOut, Reload}
use Rattle.import_core.specs.Decisions.{Filter, Outcome, decided, left_of, rebuilt, switched_off}
use Rattle.import_core.specs.Import.{imported_route}
use Rattle.import_core.specs.Imports.{AreInOrder, Imports, Routes, is_up, with_route}
use Rattle.import_core.specs.Operations.{also_refreshed, configured, done_in, enabled, fixed_route, opened, refreshed, started, up_with}
use Rattle.import_core.proofs.Deciding.{left_sorted, rebuilt_sound, taken_cases}
use Rattle.import_core.proofs.Routes.{sorted-filter, sorted-put, sorted_nil}
use Rattle.core_setup.specs.Protocols.{imports_after}
use Rattle.core_setup.specs.Setup.{Source}

abbrev AreOrdered : Imports → Type 0
AreOrdered i = AreInOrder i.received × AreInOrder i.accepted

module _ (spec : ImportSpec) (verdict : Filter) where
  put_all : (fixed : List Fixed) (routes : Routes) → AreInOrder routes → AreInOrder (fold (λ routes f. with_route f.net (fixed_route spec f) routes) routes fixed)
  put_all [] routes s = s
  put_all (f ∷ fixed) routes s = put_all fixed (with_route f.net (fixed_route spec f) routes) (sorted-put f.net (fixed_route spec f) routes s)

  rebuilt_ordered : (i : Imports) → is_up i.mode ≡ true → AreInOrder i.received → AreOrdered (rebuilt spec verdict i).imports
  rebuilt_ordered i up s = let r = rebuilt_sound spec verdict i up s in (r.received, r.accepted)

  up_ordered : (received : Routes) (i : Imports) → AreInOrder received → AreOrdered (up_with spec verdict received i).imports
  up_ordered received i s = rebuilt_ordered (record i { mode = mode.Up; received = received }) refl s

  start_ordered : (k : Kind) (i : Imports) → AreOrdered i → AreOrdered (started spec verdict k i).imports
  start_ordered Static i s = up_ordered (configured spec) i (put_all spec.fixed [] sorted_nil)
  start_ordered Bgp i s = s

  open_ordered : (k : Kind) (id : ℕ) (i : Imports) → AreOrdered i → AreOrdered (opened k id i).imports
  open_ordered Static id i s = s
  open_ordered Bgp id i s = s

  enable_ordered : (k : Kind) (i : Imports) → AreOrdered i → AreOrdered (enabled spec verdict k i).imports
  enable_ordered Static i s = up_ordered i.received i s.0
  enable_ordered Bgp i s = s

  off_ordered : (m : Mode) (i : Imports) → AreOrdered i → AreOrdered (switched_off spec m i)
  off_ordered m i s = (left_sorted spec.kind i.received s.0, sorted_nil)

  decided_ordered : (net : Net) (route : Route) (i : Imports) → AreOrdered i → AreOrdered (decided spec verdict net route i).imports
  decided_ordered net route i s =
      taken_cases (λ o. AreOrdered o.imports) spec net (left_of verdict net route) i
      (λ b why. (s.0, sorted-filter _ i.accepted s.1))
      (λ left b is fits. (s.0, sorted-put net left i.accepted s.1))
      (λ why. off_ordered mode.Limited i s)

  also_ordered : (o : Outcome) → AreOrdered o.imports → AreOrdered (also_refreshed spec o).imports
  also_ordered o s = by (is_up o.imports.mode) where
    by : (t : Bool) → AreOrdered (if t then record o { mark = (refreshed spec o.imports).mark } else o).imports
    by true = s
    by false = s

  done_ordered : (op : Op) (m : Mode) (i : Imports) → i.mode ≡ m → AreOrdered i → AreOrdered (done_in spec verdict op m i).imports
  done_ordered Start mode.Idle i e s = start_ordered spec.kind i s
  done_ordered (SessionUp id) mode.Idle i e s = open_ordered spec.kind id i s
  done_ordered (Add net given) mode.Up i e s =
      let route = imported_route spec i.id given in
      decided_ordered net route (record i { received = with_route net route i.received }) (sorted-put net route i.received s.0, s.1)
  done_ordered (Del net) mode.Up i e s = (sorted-filter _ i.received s.0, sorted-filter _ i.accepted s.1)
  done_ordered SessionDown mode.Up i e s = (sorted_nil, sorted_nil)
  done_ordered Disable mode.Idle i e s = off_ordered mode.Disabled i s
  done_ordered Disable mode.Up i e s = off_ordered mode.Disabled i s
  done_ordered Disable mode.Limited i e s = off_ordered mode.Disabled i s
  done_ordered Enable mode.Disabled i e s = enable_ordered spec.kind i s
  done_ordered Enable mode.Limited i e s = enable_ordered spec.kind i s
  done_ordered ReloadIn mode.Up i e s = rebuilt_ordered i (ap is_up e) s.0
  done_ordered ReloadOut mode.Up i e s = s
  done_ordered Reload mode.Up i e s = also_ordered (rebuilt spec verdict i) (rebuilt_ordered i (ap is_up e) s.0)
  done_ordered op m i e s = s

ordered_after : (p : Source) (ops : List Op) → AreOrdered (imports_after p ops)
ordered_after p [] = (sorted_nil, sorted_nil)
ordered_after p (op ∷ earlier) =
    let i = imports_after p earlier in
    done_ordered p.spec p.filter op i.mode i refl (ordered_after p earlier)

-- what a protocol has accepted stands in order
pub accepted_ordered : (p : Source) (ops : List Op) → AreInOrder (imports_after p ops).accepted
accepted_ordered p ops = (ordered_after p ops).1
