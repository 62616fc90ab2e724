-- The cursors of one journal. Not modelled: their numbers and positions. From: own.
use Rattle.std.specs.Prelude.{◌≡◌, ℕ, List, Some, slice_get, Bool, false}
use Rattle.atomic_table.specs.Seated.{TableId}
use Rattle.jour_rule.specs.declared.views.Terms.{Terms}
use Rattle.jour_rule.specs.declared.views.View.{View}
use Rattle.jour.specs.Seats.{journal}

-- closed cursors of that journal
abbrev pub AreClosed : TableId × Terms ℕ → List ((TableId × View ℕ) × Bool) → Type 0
AreClosed here cursors =
    (k : ℕ) (c : (TableId × View ℕ) × Bool) → slice_get cursors k ≡ Some c
    → (journal c.0 ≡ here) × (c.1 ≡ false)
