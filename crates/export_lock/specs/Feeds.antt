-- What a turn of a feed does (`FeedsPart`), and what was sent of a net (`AreOfBest`).
-- Logs and what was sent are read backwards.
-- From: RFC 4271, section 9.2; RFC 2918 for a refresh; feeds by parts are own.
-- Example: a feed of at most one net over 10.0.0.0/8 and 11.0.0.0/8 reads the first, and then goes
-- on from 11.0.0.0/8.
use Rattle.std.specs.Prelude.{◌≡◌, ◌&&◌, ℕ, ◌≤◌, Bool, true, false, List, [], ◌∷◌, map, Option, Some, reverse, ⊤}
use Rattle.attrs.specs.History.{content_at}
use Rattle.attrs.specs.Table.{IsBestOf}
use Rattle.attrs.specs.declared.attributes.Attrs.{Attrs}
use Rattle.attrs.specs.declared.journal.Chunk.{Chunk}
use Rattle.attrs.specs.declared.journal.JEntry.{JEntry}
use Rattle.attrs.specs.declared.route.Route.{Route}
use Rattle.bits_ip.specs.Prefix.{Net}
use Rattle.export_core.specs.Calls.{Feeds}
use Rattle.export_core.specs.Candidates.{covers, floor_of}
use Rattle.export_core.specs.Histories.{change_of}
use Rattle.export_core.specs.Keys.{key_of}
use Rattle.export_core.specs.Logs.{account}
use Rattle.export_core.specs.Passing.{passed}
use Rattle.export_core.specs.States.{reach_of}
use Rattle.export_core.specs.declared.floors.FeedState.{FeedState}
use Rattle.export_core.specs.declared.floors.FeedState.TheVariants.{Done, From}
use Rattle.export_core.specs.declared.log.Key.{Key}
use Rattle.export_core.specs.declared.log.Sending.{Sending}
use Rattle.table_shared.specs.Views.{IsChunk}
use Rattle.export_lock.specs.Kept.{is_running}
use Rattle.export_lock.specs.declared.state.ExportState.{ExportState}

abbrev pub goes_on : FeedState → Bool
goes_on Done = false
goes_on (From net) = true

module _ {J : Type 0} where
  -- the channel is up, a feed of it goes on, and nothing of it is being withdrawn
  abbrev pub is_feeding : ExportState J → Bool
  is_feeding state = is_running state && goes_on state.exporter.feed

  -- The next nets of the table, at most so many, were read at the head that the cursor loaded. Their
  -- keys are read up to there, and what was sent of them before is of no later position.
  pub record FeedsPart (max : ℕ) (old new : ExportState J) : Type 0 where
    pub from : Option Net
    pub chunk : Chunk
    pub goes : old.exporter.feed ≡ From from
    pub is : IsChunk from max old.cursor.0.1 new.cursor.0.1 chunk
    pub feeds : Feeds chunk old.exporter new.exporter
    pub read :
        (k : Key) → covers (floor_of chunk) k ≡ true → reach_of new.exporter k ≡ chunk.at
    pub sent :
        (k : Key) (x : Sending) → (account k (reverse old.exporter.log)).last ≡ Some x
        → x.at ≤ chunk.at

-- Each is what the channel makes of the net's best route at its position, which is none before the
-- last up, at `h`, and none above where the net was read.
abbrev pub AreOfBest :
    (Key → Route → Option Attrs) → List JEntry → Net → (h read : ℕ) → List Sending → Type 0
AreOfBest value history net h read [] = ⊤
AreOfBest value history net h read (x ∷ earlier) =
    ((best : Option Route) × IsBestOf (content_at x.at (map change_of history)) net best
    × (x.value ≡ passed value (key_of net) best))
    × (h ≤ x.at) × (x.at ≤ read)
    × AreOfBest value history net h read earlier
