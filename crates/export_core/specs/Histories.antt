-- A table's history as a channel's course (`course_of`): the candidate of each key at each
-- position; that a course goes on (`IsLonger`), that entries tell the best (`TellsBest`).
-- From: own.
-- Example: behind a withdrawal the best of the net is none.
use Rattle.std.specs.Prelude.{◌≡◌, ◌&&◌, ℕ, ◌≤◌, List, [], ◌∷◌, ◌++◌, Option, None, fold, map, take, length, if◌then◌else◌}
use Rattle.export_core.specs.Keys.{same_key}
use Rattle.export_core.specs.declared.log.Key.{Key}
use Rattle.attrs.specs.declared.journal.JEntry.{JEntry}
use Rattle.attrs.specs.declared.route.Change.{Change}
use Rattle.attrs.specs.declared.route.Route.{Route}
use Rattle.attrs.specs.History.{after, empty}
pub use Rattle.attrs.specs.Table.{AreRoutesOf, IsBestOf}
use Rattle.export_core.specs.Logs.{Course}
use Rattle.export_core.specs.declared.passing.ExportSpec.{ExportSpec}
use Rattle.export_core.specs.Candidates.{heeds, key_of_entry, told_of}

-- the candidate of a key that entries tell of last
abbrev pub best_after : ExportSpec → Key → List JEntry → Option Route
best_after spec k entries =
    fold
    (λ found e.
    if heeds spec e.num && same_key (key_of_entry spec e) k then told_of spec e else found)
    None entries

abbrev pub course_of : ExportSpec → List JEntry → Course
course_of spec history =
    record { len = length history; best = λ k p. best_after spec k (take p history) }

abbrev pub change_of : JEntry → Change
change_of e = record { net = e.net; num = e.num; new = e.new }

-- each entry tells the best route of its net behind its change
abbrev pub TellsBest : List JEntry → Type 0
TellsBest history =
    (front : List JEntry) (entry : JEntry) (back : List JEntry) → history ≡ front ++ entry ∷ back
    → IsBestOf (after empty (map change_of (front ++ entry ∷ []))) entry.net entry.best

-- a longer course, which agrees on what the shorter one tells
pub record IsLonger (c c' : Course) : Type 0 where
  pub len : c.len ≤ c'.len
  pub best : (k : Key) (p : ℕ) → p ≤ c.len → c'.best k p ≡ c.best k p
