-- What a question does to the seats of an actor: its table's pass sees more, and it is answered over
-- what that has then seen (`IsAnswered`). And what a line does to the actor (`Does`).
-- From: own.
-- Example: `@p1 show route` changes the actor's pass of the table that it asks for, and no other
-- seat.
use Rattle.std.specs.Prelude.{◌≡◌, ◌∷◌, ℕ, suc, List, length, Some, slice_get, slice_set}
use Rattle.import_core.specs.declared.operation.Op.{Op}
use Rattle.jour.specs.Seats.{head_of}
use Rattle.show_route.specs.declared.query.Query.{Query}
use Rattle.core_machine.specs.Lines.{Apply, Line, Show}
use Rattle.core_setup.specs.Setup.{Setup}
use Rattle.table_shared.specs.Answers.{InSeen}
use Rattle.phase_legal.specs.Shown.{IsGrown, PassView, Room}
use Rattle.phase_actors.specs.Acting.{IsDoing}
use Rattle.phase_actors.specs.Texts.{IsAnswer}
use Rattle.phase_actors.specs.declared.actor.Actor.{Actor}
use Rattle.phase_actors.specs.declared.actor.Told.{Told}

-- the query of a number, and the pass of its table
pub record IsAnswered
    (setup : Setup) (number : ℕ) (passes passes_new : List PassView) (told : Told) : Type 0 where
  pub number_is : told.query ≡ number
  pub query : Query
  pub query_at : slice_get setup.queries number ≡ Some query
  pub table : told.table ≡ query.table
  pub pass : PassView
  pub pass_at : slice_get passes query.table ≡ Some pass
  pub pass_new : PassView
  pub passes_are : passes_new ≡ slice_set passes query.table pass_new
  pub pass_grown : IsGrown pass pass_new
  pub position : told.at ≡ head_of pass_new.1
  pub text : InSeen pass_new.1 (λ content. IsAnswer setup query content told.text.items)

-- ---- lines

-- an actor's line that asks for an operation, where it has this number in the script
abbrev pub applying : (actor : ℕ) → (number : ℕ) → (protocol : ℕ) → Op → Line
applying actor number protocol op =
    Apply (record { actor = actor; line = number; protocol = protocol; op = op })

-- an actor's line that asks for a table
abbrev pub showing : (actor : ℕ) → (table : ℕ) → (query : ℕ) → Line
showing actor table query = Show (record { actor = actor; table = table; query = query })

-- where the actor has done its lines before the one of this place, it has done it too
abbrev pub Does : Setup → Room → (place : ℕ) → Line → Actor → Actor → Type 0
Does setup room place line old new =
    (done : List Line) → suc (length done) ≡ place → IsDoing setup room done old
    → IsDoing setup room (line ∷ done) new
