-- What a line does to an actor.
use Rattle.std.proofs.Common.{◌≡◌, ℕ, [], ◌∷◌, ◌++◌, sym, subst}
use Rattle.core_setup.specs.Setup.{Setup}
use Rattle.phase_legal.specs.Shown.{Room}
use Rattle.phase_actors.specs.Acting.{HasDone}
use Rattle.phase_actors.specs.Steps.{Does, IsAnswered, showing}
use Rattle.phase_actors.specs.declared.actor.Actor.{Actor}
use Rattle.phase_actors.specs.declared.actor.Told.{Told}
use Rattle.phase_actors.proofs.Doing.{done_shown}

module _ (setup : Setup) (room : Room) (place : ℕ) where
  module _ (old new : Actor) (number : new.number ≡ old.number) where
    pub does_show : (asker table query : ℕ) (told : Told) → asker ≡ old.number → table ≡ told.table → new.hands.items ≡ old.hands.items → new.replies.items ≡ old.replies.items ++ told ∷ []
        → IsAnswered setup query old.passes.items new.passes.items told → Does setup room place (showing asker table query) old new
    does_show asker table query told mine same hands replies is done at d =
        subst (λ z. HasDone setup room z (showing asker table query ∷ done) new.hands.items new.passes.items new.replies.items) (sym number)
        (subst (λ z. HasDone setup room old.number (showing asker table query ∷ done) new.hands.items new.passes.items z) (sym replies)
        (subst (λ z. HasDone setup room old.number (showing asker table query ∷ done) z new.passes.items (old.replies.items ++ told ∷ [])) (sym hands)
        (done_shown setup room old.number done (record { actor = asker; table = table; query = query }) old.hands.items old.passes.items new.passes.items old.replies.items told mine same is d)))
