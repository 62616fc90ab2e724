-- What keeps what an export lock keeps: one thing after another, and a closed cursor that reads on.
use Rattle.std.proofs.Common.{◌≡◌, Bool, true, false, refl, sym, ◌∙◌}
use mathlib.Core.List.{IsPrefix}
use Rattle.atomic_table.specs.Seated.{TableId}
use Rattle.attrs.specs.declared.judge.Verdict.{Verdict}
use Rattle.attrs.specs.declared.route.Route.{Route}
use Rattle.bits_ip.specs.Prefix.{Net}
use Rattle.jour_rule.specs.declared.views.View.{View as Seat}
use Rattle.jour.specs.Seats.{front, journal}
use Rattle.table_shared.specs.Opening.{TableOpening}
use Rattle.export_lock.specs.Kept.{GoesOn, IsHeld, IsOfKind}
use Rattle.export_lock.specs.declared.state.ExportState.{ExportState}
use Rattle.export_lock.proofs.Marking.{still_on}

module _ {J : Type 0} (verdict : J → Net → Route → Verdict) where
  pub goes_then : (a b c : ExportState J) → GoesOn verdict a b → GoesOn verdict b c → GoesOn verdict a c
  goes_then a b c first then = λ every key o. then every key (first every key o)

  pub held_of : {every : Bool} (state : ExportState J) → IsOfKind verdict every state → IsHeld verdict state
  held_of {every} state kind = record { every = every; key = kind.key; exporting = kind.exporting }

  pub kind_on : {every : Bool} (a b : ExportState J) → GoesOn verdict a b → IsOfKind verdict every a → IsOfKind verdict every b
  kind_on {every} a b goes kind = record { key = kind.key; exporting = goes every kind.key kind.exporting }

  pub held_on : (a b : ExportState J) → GoesOn verdict a b → IsHeld verdict a → IsHeld verdict b
  held_on a b goes held = record { every = held.every; key = held.key; exporting = goes held.every held.key held.exporting }

  -- its cursor stays one of its table
  pub here_on : {every : Bool} (a b : ExportState J) → GoesOn verdict a b → IsOfKind verdict every a → journal b.cursor.0 ≡ journal a.cursor.0
  here_on {every} a b goes kind = (goes every kind.key kind.exporting).here ∙ sym kind.exporting.here

  pub passed_by : (state : ExportState J) (cursor : (TableId × Seat TableOpening) × Bool) → state.cursor.1 ≡ false → journal cursor.0 ≡ journal state.cursor.0 → cursor.1 ≡ state.cursor.1
      → IsPrefix (front state.cursor.0.1) (front cursor.0.1) → GoesOn verdict state (record { exporter = state.exporter; cursor = cursor; marks = state.marks })
  passed_by state cursor closed here mode prefix = λ every key o.
      still_on verdict key state (record { exporter = state.exporter; cursor = cursor; marks = state.marks }) refl here prefix mode
      (λ is. absurd (let e : false ≡ true = sym closed ∙ o.mode ∙ is in cc)) refl refl o
