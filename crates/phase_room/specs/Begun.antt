-- An actor's hand of a protocol as a phase begins, which has seen nothing yet (`IsNewHand`).
-- From: own.
-- Example: with two actors a protocol has three hands, of which the last one is for starts.
use Rattle.std.specs.Prelude.{◌≡◌, ℕ, []}
use Rattle.atomic_table.specs.Seated.{TableId}
use Rattle.jour_rule.specs.declared.views.Terms.{Terms}
use Rattle.jour.specs.Seats.{front, journal, number_of}
use Rattle.phase_legal.specs.Shown.{HandView}

-- the hand of an actor of a protocol's turns, which has seen none of them
abbrev pub IsNewHand : ℕ → TableId × Terms ℕ → HandView → Type 0
IsNewHand actor turns hand =
    (journal hand ≡ turns) × (number_of hand.1.role ≡ actor) × (front hand.1 ≡ [])
