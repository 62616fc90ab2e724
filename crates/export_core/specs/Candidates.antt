-- What stands for a key: for a channel of BGP the best route of a net, for a pipe's direction the
-- route of a net and a source that it passes (`candidate_of`); by which key an entry is told
-- (`key_of_entry`, `heeds`, `told_of`), and what a chunk of a table tells (`IsChunk`, `best_in`).
-- From: BIRD User's Guide, "Pipe"; RFC 4271, section 9.1; ranges are own.
-- Example: an entry of a source that a pipe's direction doesn't pass marks nothing. A chunk from
-- 10.0.0.0/8 to before 11.0.0.0/8 is over 10.1.0.0/16 and not over 11.0.0.0/8.
use Rattle.std.specs.Prelude.{◌≡◌, ◌==◌, ℕ, Bool, true, false, not, ◌&&◌, ◌||◌, List, [], ◌∷◌, Option, Some, None, is_some, slice_get, if◌then◌else◌}
use Rattle.std.specs.List.{list_any}
use Rattle.std.specs.declared.ops.Bound.{Bound}
use Rattle.std.specs.declared.ops.Bound.TheVariants.{Included, Excluded, Unbounded}
use Rattle.bits_ip.specs.Prefix.{Net, precedes, same_net}
use Rattle.export_core.specs.Keys.{key_of}
use Rattle.export_core.specs.declared.log.Key.{Key}
use Rattle.attrs.specs.declared.journal.Chunk.{Chunk}
use Rattle.attrs.specs.declared.route.Route.{Route}
use Rattle.attrs.specs.declared.route.Row.{Row}
use Rattle.attrs.specs.Table.{route_of}
use Rattle.attrs.specs.declared.journal.JEntry.{JEntry}
use Rattle.export_core.specs.declared.passing.ExportSpec.{ExportSpec}
use Rattle.export_core.specs.declared.floors.Floor.{Floor}
use Rattle.export_core.specs.Marks.{at}

-- not before where the range begins
abbrev pub is_from : Option Net → Net → Bool
is_from None k = true
is_from (Some first) k = not (precedes k first)

-- before where the range ends
abbrev pub is_below : Option Net → Net → Bool
is_below None k = true
is_below (Some end) k = precedes k end

-- whether a chunk is over the key's net
abbrev pub covers : Floor → Key → Bool
covers f k = is_from f.from k.net && is_below f.upto k.net

-- the same as bounds of maps: of a net's keys that of the number 0 is the first
abbrev pub first_bound : Option Net → Bound Key
first_bound None = Unbounded
first_bound (Some first) = Included (key_of first)

abbrev pub end_bound : Option Net → Bound Key
end_bound None = Unbounded
end_bound (Some end) = Excluded (key_of end)

-- the range and position of a chunk
abbrev pub floor_of : Chunk → Floor
floor_of chunk = record { from = chunk.from; upto = chunk.upto; at = chunk.at }

-- whether the number stands in the list
abbrev pub among : ℕ → List ℕ → Bool
among num xs = list_any (λ x. x == num) xs

-- whether the channel has keys of this number: a pipe's direction has those of the sources that it
-- passes, another channel 0 alone
abbrev pub has_num : ExportSpec → ℕ → Bool
has_num spec num = if spec.every then among num spec.sources else num == 0

-- whether an entry of this source may mark anything
abbrev pub heeds : ExportSpec → ℕ → Bool
heeds spec num = not spec.every || among num spec.sources

-- the key of an entry, and its candidate behind it
abbrev pub key_of_entry : ExportSpec → JEntry → Key
key_of_entry spec entry =
    record { net = entry.net; num = (if spec.every then entry.num else 0) }

abbrev pub told_of : ExportSpec → JEntry → Option Route
told_of spec entry = if spec.every then entry.new else entry.best

-- the candidate among a net's routes, the best of which stands first
abbrev pub candidate_of : ExportSpec → ℕ → List Route → Option Route
candidate_of spec num routes =
    if has_num spec num
    then (if spec.every then route_of num routes else slice_get routes 0)
    else None

abbrev pub first_of : Option Route → Option Route → Option Route
first_of None o = o
first_of (Some r) o = Some r

-- the candidate that a row tells, or the one that was told before
abbrev pub told_first : Option Route → Option (Option Route) → Option (Option Route)
told_first None o = o
told_first (Some r) o = Some (Some r)

-- the candidate of a key among rows
abbrev pub best_in : ExportSpec → Key → List Row → Option Route
best_in spec k [] = None
best_in spec k (row ∷ rows) =
    if same_net k.net row.net
    then first_of (candidate_of spec k.num row.routes) (best_in spec k rows)
    else best_in spec k rows

-- the range goes forward, and each route stands in it
pub record IsChunk (spec : ExportSpec) (chunk : Chunk) : Type 0 where
  pub forward : (end : Net) → chunk.upto ≡ Some end → is_from chunk.from end ≡ true
  pub within : (k : Key) → covers (floor_of chunk) k ≡ false → best_in spec k chunk.rows ≡ None

-- each key that passes the test is there now, with no candidate where it was not there
abbrev pub AddsNone :
    (Key → Bool) → List (Key × Option Route) → List (Key × Option Route) → Type 0
AddsNone test old new =
    (q : Key) → at q new
    ≡ (if is_some (at q old) then at q old else (if test q then Some None else None))
