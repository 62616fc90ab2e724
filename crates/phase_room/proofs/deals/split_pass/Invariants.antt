use Rattle.std.proofs.Common.{◌≡◌, ℕ, length, Some}
use Rattle.std.specs.Prelude.{slice_get}
use Rattle.jour.specs.Seats.{journal}
use Rattle.phase_legal.specs.Shown.{PassView}
use Rattle.phase_room.proofs.deals.split_pass.Given as goal

abbrev pub invariant-loop : goal.invariant-loop
invariant-loop l =
    (length l.passes.items ≡ l.counter) × (journal l.pass ≡ journal l.fn.pass)
    × ((place : ℕ) (other : PassView) → slice_get l.passes.items place ≡ Some other → journal other ≡ journal l.fn.pass)
