-- What stands behind a phase, by what stood before and what came.
use Rattle.std.proofs.Common.{◌≡◌, ℕ, Bool, true, false, List, [], ◌∷◌, ◌++◌, Option, Some, None, refl, ap}
use Rattle.std.specs.Prelude.{if◌then◌else◌}
use Rattle.attrs.specs.declared.route.Change.{Change}
use Rattle.export_core.specs.declared.log.LogItem.{LogItem}
use Rattle.export_core.specs.declared.log.LogItem.TheVariants.{Up, Down, Reload, Sent}
use Rattle.core_machine.specs.Histories.{of_those}
use Rattle.core_machine.specs.Signals.{without_sends}

pub those_append : (test : ℕ → Bool) (new old : List Change) → of_those test (new ++ old) ≡ of_those test new ++ of_those test old
those_append test [] old = refl
those_append test (c ∷ new) old = elim (test c.num) as (λ b. (if b then c ∷ of_those test (new ++ old) else of_those test (new ++ old)) ≡ (if b then c ∷ of_those test new else of_those test new) ++ of_those test old) [
  | true ↦ ap (λ l. c ∷ l) (those_append test new old)
  | false ↦ those_append test new old
]

pub sends_append : (new old : List LogItem) → without_sends (new ++ old) ≡ without_sends new ++ without_sends old
sends_append [] old = refl
sends_append (Up h ∷ new) old = ap (λ l. Up h ∷ l) (sends_append new old)
sends_append (Down ∷ new) old = ap (λ l. Down ∷ l) (sends_append new old)
sends_append (Reload ∷ new) old = ap (λ l. Reload ∷ l) (sends_append new old)
sends_append (Sent x ∷ new) old = sends_append new old

-- with the item in an option, or without one
pub by_option : {X : Type 0} (o : Option X) (P : Type 0) → ((x : X) → o ≡ Some x → P) → (o ≡ None → P) → P
by_option None P some none = none refl
by_option (Some x) P some none = some x refl
