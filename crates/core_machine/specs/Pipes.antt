-- What a channel reads (`heeds`, `key_of`, `candidate`): the best route of each net, or as a
-- direction of a pipe each source's route, of the sources that it passes (`passes`). So the
-- direction that brought a source's routes to a table never takes them back.
-- From: BIRD User's Guide, "Pipe", which joins two tables by a direction each way.
-- Example: of a pipe from the table `master4` to the table `t`, the direction to `t` passes the
-- sources of `master4`, and the other direction none of them.
use Rattle.std.specs.Prelude.{◌==◌, ℕ, Bool, true, false, List, [], ◌∷◌, length, Option, Some, None, is_some, if◌then◌else◌}
use Rattle.attrs.specs.declared.route.Change.{Change}
use Rattle.attrs.specs.declared.route.Route.{Route}
use Rattle.attrs.specs.History.{Content}
use Rattle.export_core.specs.declared.log.Key.{Key}
use Rattle.export_core.specs.Logs.{Course}
use Rattle.core_machine.specs.Histories.{content_of, front}
use Rattle.core_machine.specs.Rules.{Rules}

-- the channel is a direction of a pipe
abbrev pub is_pipe : Rules → ℕ → Bool
is_pipe rules c = is_some (rules.target c)

-- the last direction of a way
abbrev pub ends_with : ℕ → Option (List ℕ) → Bool
ends_with d None = false
ends_with d (Some []) = false
ends_with d (Some (last ∷ earlier)) = last == d

-- it is by this direction that the source comes to the table
abbrev pub passes_to : Rules → ℕ → ℕ → Option ℕ → Bool
passes_to rules d num None = false
passes_to rules d num (Some table) = ends_with d (rules.hops table num)

-- A direction passes a source: it is by this direction that the source comes to the table that the
-- direction writes.
abbrev pub passes : Rules → ℕ → ℕ → Bool
passes rules d num = passes_to rules d num (rules.target d)

-- whether a change of this source means anything to the channel
abbrev pub heeds : Rules → ℕ → ℕ → Bool
heeds rules c num = if is_pipe rules c then passes rules c num else true

-- the key that a change is of
abbrev pub key_of : Rules → ℕ → Change → Key
key_of rules c x = record { net = x.net; num = (if is_pipe rules c then x.num else 0) }

-- The route of a key that the channel has to send, from a table's content: for a pipe the source's,
-- where the direction passes it, and else the best of the net.
abbrev pub candidate_in : Rules → ℕ → Key → Content → Option Route
candidate_in rules c k content =
    if is_pipe rules c
    then (if passes rules c k.num then content k.net k.num else None)
    else (if k.num == 0 then rules.choose (content k.net) else None)

-- the same after a history
abbrev pub candidate : Rules → ℕ → Key → List Change → Option Route
candidate rules c k history = candidate_in rules c k (content_of history)

-- the history as the channel reads it
abbrev pub course_of : Rules → ℕ → List Change → Course
course_of rules c history = record {
  len = length history;
  best = λ k p. candidate rules c k (front p history);
}
