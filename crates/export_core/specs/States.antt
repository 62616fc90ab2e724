-- An exporter as its callers see it (`State`), and what it stands for (`StandsFor`).
-- From: own.
-- Example: a new exporter has no marks and stands at position 0 with an empty log.
use Rattle.std.specs.Prelude.{◌≡◌, ◌≢◌, ℕ, ◌-◌, ◌≤◌, max, Bool, true, false, ◌&&◌, List, Option, Some, None, reverse, fold, if◌then◌else◌}
use Rattle.bits_ip.specs.Prefix.{Net}
use Rattle.export_core.specs.declared.log.Key.{Key}
use Rattle.attrs.specs.declared.attributes.Attrs.{Attrs}
use Rattle.attrs.specs.declared.journal.Chunk.{Chunk}
use Rattle.attrs.specs.declared.journal.JEntry.{JEntry}
use Rattle.attrs.specs.declared.judge.Verdict.{Verdict}
use Rattle.attrs.specs.declared.route.Route.{Route}
use Rattle.export_core.specs.declared.floors.FeedState.{FeedState}
use Rattle.export_core.specs.declared.floors.FeedState.TheVariants.{Done, From}
use Rattle.export_core.specs.declared.floors.Floor.{Floor}
use Rattle.export_core.specs.declared.log.LogItem.{LogItem}
use Rattle.export_core.specs.declared.passing.ExportSpec.{ExportSpec}
use Rattle.export_core.specs.Candidates.{covers, is_from, floor_of, best_in, heeds, key_of_entry, told_of}
use Rattle.export_core.specs.Lanes.{Lane, IsLane}
use Rattle.export_core.specs.Logs.{Course, stretch, reloads, account, Follows}
use Rattle.export_core.specs.Marks.{Listed, find}
use Rattle.export_core.specs.Passing.{value_by}

pub record State (J : Type 0) : Type 0 where
  pub spec : ExportSpec
  pub judge : J
  pub position : ℕ
  pub floors : List Floor
  pub feed : FeedState
  -- the feed that goes on, or the last one, is a refresh's
  pub refreshing : Bool
  -- what is marked, in the order of first marking
  pub marks : Listed
  pub log : List LogItem
  -- what stands is being withdrawn, and what of it stands still, in the order of keys
  pub flushing : Bool
  pub left : List Key

-- with one more chunk
abbrev pub higher : Key → ℕ → Floor → ℕ
higher k found f = if covers f k then max f.at found else found

-- up to where a key has been read: the position, or the greatest of the chunks over its net
abbrev pub reach : ℕ → List Floor → Key → ℕ
reach position floors k = fold (higher k) position floors

-- a feed goes on that hasn't reached the key's net
abbrev pub is_ahead : FeedState → Key → Bool
is_ahead Done k = false
is_ahead (From next) k = is_from next k.net

-- where a feed stands after a chunk
abbrev pub feed_after : Option Net → FeedState
feed_after None = Done
feed_after (Some next) = From (Some next)

module _ {J : Type 0} where
  abbrev pub reach_of : State J → Key → ℕ
  reach_of e k = reach e.position e.floors k

  -- what the exporter keeps for one key
  abbrev pub lane_of : State J → Key → Lane
  lane_of e k = record {
    reach = reach_of e k;
    ahead = is_ahead e.feed k;
    coming = is_ahead e.feed k && e.refreshing;
    mark = find k e.marks;
    account = account k (reverse e.log);
  }

  -- Its log follows the history, and while it is up and what stands isn't being withdrawn, each
  -- key's share is right.
  pub record Stands (value : Key → Route → Option Attrs) (c : Course) (e : State J) : Type 0 where
    pub follows : Follows value c (reverse e.log)
    pub lanes :
        e.flushing ≡ false → (h : ℕ) → stretch (reverse e.log) ≡ Some h → (k : Key)
        → IsLane value c k h (reloads (reverse e.log)) (lane_of e k)

  -- what the exporter makes of a route: its gate where it has one, then its filter
  abbrev pub value_for :
      (J → Net → Route → Verdict) → State J → Key → Route → Option Attrs
  value_for verdict e = value_by e.spec (verdict e.judge)

  -- the exporter stands for the history that the course tells of
  abbrev pub StandsFor : (J → Net → Route → Verdict) → Course → State J → Type 0
  StandsFor verdict c e = Stands (value_for verdict e) c e

-- the entry is the history's at this position: it tells the candidate of its key, where the channel
-- heeds its source, and changes no other
pub record IsEntryAt (spec : ExportSpec) (c : Course) (at : ℕ) (entry : JEntry) : Type 0 where
  pub told : at ≤ c.len
  pub best : heeds spec entry.num ≡ true → c.best (key_of_entry spec entry) at ≡ told_of spec entry
  pub others :
      (k : Key) → (heeds spec entry.num ≡ true → k ≢ key_of_entry spec entry)
      → c.best k at ≡ c.best k (at - 1)

-- the chunk has each key's candidate in its range, at its position
pub record IsChunkAt (spec : ExportSpec) (c : Course) (chunk : Chunk) : Type 0 where
  pub told : chunk.at ≤ c.len
  pub best :
      (k : Key) → covers (floor_of chunk) k ≡ true → c.best k chunk.at ≡ best_in spec k chunk.rows
