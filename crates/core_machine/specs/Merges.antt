-- Which order a protocol's operations had (`IsMerge`). Several actors may name one protocol; each
-- one's operations stand in the order of its lines, and otherwise any order may be. Lists are read
-- backwards.
-- From: own.
-- Example: of an actor's `disable`, `enable` and another's `reload` the three orders in which
-- `enable` stands behind `disable`.
use Rattle.std.specs.Prelude.{◌≡◌, ◌==◌, ◌&&◌, ℕ, List, [], ◌∷◌, ◌++◌, if◌then◌else◌}
use Rattle.core_machine.specs.Lines.{Line, Apply, Take, Push, Show, Turn, turn_of}

-- an actor's turns
abbrev pub picked : ℕ → List Turn → List Turn
picked actor [] = []
picked actor (t ∷ earlier) =
    if t.actor == actor then t ∷ picked actor earlier else picked actor earlier

-- the operations that an actor asks of a protocol in these lines
abbrev pub asked : ℕ → ℕ → List Line → List Turn
asked actor i [] = []
asked actor i (Apply x ∷ earlier) =
    if (x.actor == actor) && (x.protocol == i)
    then turn_of x ∷ asked actor i earlier
    else asked actor i earlier
asked actor i (Take n ∷ earlier) = asked actor i earlier
asked actor i (Push n ∷ earlier) = asked actor i earlier
asked actor i (Show q ∷ earlier) = asked actor i earlier

-- The turns of a protocol are those before the lines, and then others, of which each actor has its
-- own lines' operations, in their order.
pub record IsMerge (lines : List Line) (i : ℕ) (others first turns : List Turn) : Type 0 where
  pub all : turns ≡ others ++ first
  pub each : (actor : ℕ) → picked actor others ≡ asked actor i lines
