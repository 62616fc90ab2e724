-- Which tables pipes join (`joined`), and pipes that close no cycle (`IsForest`).
-- From: BIRD User's Guide, "Pipe"; that a pipe which closes a cycle is refused is own.
-- Example: behind pipes between the tables 0 and 2 and between 3 and 2 the tables 0 and 3 are
-- joined, so a pipe between these two is refused. A table is joined to itself without any pipe.
use Rattle.std.specs.Prelude.{◌≡◌, ⊤, ℕ, ◌==◌, ◌<◌, Bool, false, not, ◌&&◌, ◌||◌, List, [], ◌∷◌, ◌++◌}
use Rattle.std.specs.List.{All}
use Rattle.conf_names.specs.declared.joints.Joint.{Joint}

-- Whether one comes from table a to table b by these pipes, whichever way each of them is taken: by
-- the others alone, or by the first one once, in one direction or in the other.
unfoldable pub joined : List Joint → (a b : ℕ) → Bool
joined [] a b = a == b
joined (p ∷ pipes) a b =
    joined pipes a b
    || ((joined pipes a p.table && joined pipes p.peer b)
    || (joined pipes a p.peer && joined pipes p.table b))

-- the pipe's tables are among so many
abbrev pub IsWithin : (tables : ℕ) → Joint → Type 0
IsWithin tables p = (p.table < tables) × (p.peer < tables)

-- each of these pipes joins two tables that those before it don't join
abbrev pub JoinsApart : (before : List Joint) → List Joint → Type 0
JoinsApart before [] = ⊤
JoinsApart before (p ∷ more) =
    (joined before p.table p.peer ≡ false) × JoinsApart (before ++ p ∷ []) more

-- pipes of which none closes a cycle
abbrev pub IsForest : List Joint → Type 0
IsForest pipes = JoinsApart [] pipes

-- Each table stands on one of two sides: the pipe leads from one side to the other, each other one
-- stays on its side. So who crosses by this pipe comes back by it alone.
pub record IsBridge (p : Joint) (others : List Joint) : Type 0 where
  pub side : ℕ → Bool
  pub across : side p.table ≡ not (side p.peer)
  pub along : All (λ (q : Joint). side q.table ≡ side q.peer) others
