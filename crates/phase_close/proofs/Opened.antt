-- What lay under the locks of a session.
use Rattle.std.proofs.Common.{◌≡◌, ℕ, List, Some, None, sym, subst, ◌∙◌}
use Rattle.std.specs.Prelude.{Option, option_map}
use Rattle.std.specs.List.{AllByRecursion}
use Rattle.atomic_table.specs.Seated.{TableId}
use Rattle.attrs.specs.declared.judge.Verdict.{Verdict}
use Rattle.attrs.specs.declared.route.Change.{Change}
use Rattle.attrs.specs.declared.route.Route.{Route}
use Rattle.bits_ip.specs.Prefix.{Net}
use Rattle.jour_rule.specs.declared.views.View.{View as Seat}
use Rattle.jour.specs.Seats.{journal}
use Rattle.core_setup.specs.Setup.{Exports}
use Rattle.phase_legal.specs.Shown.{HandView}
use Rattle.import_lock.specs.Kept.{IsFree, IsImports, IsUnlessLost}
use Rattle.import_lock.specs.Terms.{ImportTerms}
use Rattle.import_lock.specs.declared.state.ImportState.{ImportState}
use Rattle.export_lock.specs.Kept.{IsExports}
use Rattle.export_lock.specs.Locks.{terms_of}
use Rattle.export_lock.specs.Terms.{ExportTerms}
use Rattle.export_lock.specs.declared.key.ExportKey.{ExportKey}
use Rattle.export_lock.specs.declared.state.ExportState.{ExportState}
use Rattle.phase_room.specs.Sessions.{AreClosed, IsChannelOf}
use Rattle.phase_close.specs.Left.{AreOpen}

module _ {J : Type 0} (verdict : J → Net → Route → Verdict) where
  -- the channel's marks are under the protocol's stamp
  pub open_one : (key : ImportTerms) (lock : Option ExportTerms) (channel : Option (ExportState J)) (state : ExportState J) (stamp : Option (TableId × Seat ℕ)) → option_map journal stamp ≡ key.marks → IsChannelOf key lock → AreOpen verdict lock channel → channel ≡ Some state
      → (x : ExportTerms) × IsExports verdict x state × (option_map journal stamp ≡ Some x.marks)
  open_one key None channel state stamp marks of all is = absurd (subst (AreOpen verdict None) is all)
  open_one key (Some x) channel state stamp marks of all is = (x, subst (AreOpen verdict (Some x)) is all, marks ∙ of.marks)

  pub are_open : {P : Type 0} (exports : P → ℕ → Exports) (lock : Option (TableId × ExportKey P)) (state : Option (ExportState J)) → AreClosed verdict exports lock state → AreOpen verdict (option_map (λ (l : TableId × ExportKey P). terms_of exports l.1) lock) state
  are_open exports None None all = tt
  are_open exports None (Some s) all = absurd all
  are_open exports (Some l) None all = absurd all
  are_open exports (Some l) (Some s) all = all

  -- hands of the key's turns are of what lay under the lock
  pub hands_here : (key : ImportTerms) (state : ImportState J) (hands : List HandView) → IsImports verdict key state → AllByRecursion (λ (h : HandView). journal h ≡ key.turns) hands → state.fault ≡ None → AllByRecursion (λ (h : HandView). journal h ≡ journal state.turns) hands
  hands_here key state hands is all none =
      let held = subst (λ z. IsUnlessLost z ((made : List (ℕ × Change)) × IsFree verdict key made state)) none is in
      subst (λ z. AllByRecursion (λ (h : HandView). journal h ≡ z) hands) (sym held.1.importing.turns) all
