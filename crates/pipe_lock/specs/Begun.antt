-- What a pipe's import lock's value is made of as a phase begins (`Begins`).
-- From: own.
-- Example: in the first phase a pipe is up, since it has done no operation.
use Rattle.std.specs.Prelude.{◌≡◌, ℕ, Bool, []}
use Rattle.atomic_table.specs.Seated.{TableId}
use Rattle.jour_rule.specs.declared.views.View.{View as Seat}
use Rattle.jour.specs.Seats.{front, journal}
use Rattle.core_setup.specs.Protocols.{pipe_is_up}
use Rattle.import_lock.specs.Begun.{IsUnused}
use Rattle.pipe_lock.specs.Terms.{AreTerms, PipeTerms, past_ops}

-- The pipe is up where the operations of earlier phases say so. The turns and the stamps are those
-- of the key, and none has an entry of the phase.
pub record Begins
    (key : PipeTerms) (up : Bool) (list : TableId × Seat ℕ) (out back : TableId × Seat ℕ)
    : Type 0 where
  pub terms : AreTerms key
  pub up_is : up ≡ pipe_is_up (past_ops key)
  pub turns : journal list ≡ key.turns
  pub unturned : front list.1 ≡ []
  pub out_is : journal out ≡ key.out.marks
  pub out_unused : IsUnused out
  pub back_is : journal back ≡ key.back.marks
  pub back_unused : IsUnused back
