-- An exporter of export_core beside the machine's channel: at rest (`Matches`), in the midst of a
-- feed (`MatchesFed`), which an exporter takes in parts, and in the midst of the withdrawals of a
-- direction of a pipe that goes down (`MatchesFlushed`). The exporter keeps its marks with their
-- candidates, its log in the order written, ranges of feeds that tell up to where each net has been
-- read, and the sources that it passes as a list; the channel keeps none of these.
-- Not modelled: memory.
-- From: own.
-- Example: a new exporter is a channel that never was up.
use Rattle.std.specs.Prelude.{◌≡◌, ◌&&◌, ◌||◌, ◌+◌, ◌≤◌, ℕ, max, not, Bool, true, false, List, [], ◌∷◌, ◌++◌, map, Option, Some, None, is_some, option_map, reverse, length, if◌then◌else◌}
use Rattle.std.specs.List.Sorted.{IsStrictlySortedBy}
use Rattle.std.specs.Map.{keys_of}
use Rattle.bits_ip.specs.Prefix.{Net}
use Rattle.attrs.specs.declared.journal.Chunk.{Chunk}
use Rattle.attrs.specs.declared.journal.JEntry.{JEntry}
use Rattle.attrs.specs.declared.judge.Verdict.{Verdict}
use Rattle.attrs.specs.declared.route.Change.{Change}
use Rattle.attrs.specs.declared.route.Route.{Route}
use Rattle.export_core.specs.declared.floors.FeedState.TheVariants.{Done}
use Rattle.export_core.specs.declared.log.Key.{Key}
use Rattle.export_core.specs.declared.log.Sending.{Sending}
use Rattle.export_core.specs.declared.marks.Mark.{Mark}
use Rattle.export_core.specs.declared.passing.ExportSpec.{ExportSpec}
use Rattle.export_core.specs.Candidates.{IsChunk, best_in, covers, floor_of}
use Rattle.export_core.specs.Candidates as exporter_keys
use Rattle.export_core.specs.Histories.{change_of}
use Rattle.export_core.specs.Keys.{key_cmp}
use Rattle.export_core.specs.Logs.{account, value_of}
use Rattle.export_core.specs.Marks.{holds}
use Rattle.export_core.specs.Marks as exporter
use Rattle.export_core.specs.States.{State, is_ahead, reach_of, value_for}
use Rattle.core_machine.specs.Channels.{Channel, fed, is_open}
use Rattle.core_machine.specs.Enters.{change_to}
use Rattle.core_machine.specs.Histories.{entry, front}
use Rattle.core_machine.specs.Marks.{AreOnce, Marked, find, marked_keys}
use Rattle.core_machine.specs.Pipes.{candidate, is_pipe, passes}
use Rattle.core_machine.specs.Rules.{Rules, best_of}

-- An exporter goes by what the rules say of its channel: whether it is a direction of a pipe, and
-- then which sources it passes.
pub record IsSpecOf (rules : Rules) (c : ℕ) (spec : ExportSpec) : Type 0 where
  pub every : spec.every ≡ is_pipe rules c
  pub sources :
      is_pipe rules c ≡ true → (num : ℕ) → exporter_keys.among num spec.sources ≡ passes rules c num

-- the exporter's mark of a key
abbrev pub mark_of : Rules → ℕ → List Change → Key → Marked → Mark
mark_of rules c history k m =
    record { at = m.at; candidate = candidate rules c k (front m.at history); due = m.due }

-- what holds of a channel over a table with this head
pub record IsWithin (head : ℕ) (ch : Channel) : Type 0 where
  -- no key is marked twice, and none while the channel is down
  pub once : AreOnce ch.marks
  pub idle : is_open ch ≡ false → ch.marks ≡ []
  -- all its positions are the table's
  pub read : is_open ch ≡ true → (ch.position ≤ head) × (ch.floor ≤ head)
  pub marks : (k : Key) (m : Marked) → find k ch.marks ≡ Some m → m.at ≤ head

-- the change that comes of what a direction of a pipe sends: none where it sends again what stands
abbrev pub change_of_sending : Rules → Sending → Option Change
change_of_sending rules x =
    if x.again then None else Some (change_to rules x.key x.value)

-- the entry is what is read next, and tells the best route of its net behind it
pub record IsNextEntry (rules : Rules) (history : List Change) (ch : Channel) (read : JEntry)
    : Type 0 where
  pub change : entry ch.position history ≡ Some (change_of read)
  pub best : read.best ≡ best_of rules read.net (front (ch.position + 1) history)

-- each entry of a history tells the route that is chosen of its net behind it
abbrev pub TellChosen : Rules → List JEntry → Type 0
TellChosen rules entries =
    (earlier : List JEntry) (read : JEntry) (later : List JEntry)
    → entries ≡ earlier ++ read ∷ later
    → read.best ≡ best_of rules read.net (change_of read ∷ reverse (map change_of earlier))

-- the chunk is of the table's head, and its rows tell the candidates of its range
pub record IsHeadChunk
    (rules : Rules) (c : ℕ) (spec : ExportSpec) (history : List Change) (chunk : Chunk)
    : Type 0 where
  pub at : chunk.at ≡ length history
  pub range : IsChunk spec chunk
  pub best :
      (k : Key) → covers (floor_of chunk) k ≡ true
      → best_in spec k chunk.rows ≡ candidate rules c k history

module _ {J : Type 0} (verdict : J → Net → Route → Verdict) (rules : Rules) (c : ℕ) where
  -- all but up to where nets have been read
  pub record Resembles (history : List Change) (e : State J) (ch : Channel) : Type 0 where
    pub spec : IsSpecOf rules c e.spec
    pub value : (k : Key) (r : Route) → value_for verdict e k r ≡ rules.value c k r
    pub position : e.position ≡ ch.position
    pub order : keys_of e.marks ≡ marked_keys ch.marks
    pub marks :
        (k : Key) → exporter.find k e.marks
        ≡ option_map (mark_of rules c history k) (find k ch.marks)
    pub log : reverse e.log ≡ ch.log

  -- no feed goes on
  pub record MatchesRead (history : List Change) (e : State J) (ch : Channel) : Type 0 where
    pub within : IsWithin (length history) ch
    pub resembles : Resembles history e ch
    pub read : (k : Key) → reach_of e k ≡ max ch.position ch.floor
    pub feed : e.feed ≡ Done

  -- at rest: nothing is being withdrawn either
  pub record Matches (history : List Change) (e : State J) (ch : Channel) : Type 0 where
    pub like : MatchesRead history e ch
    pub rest : e.flushing ≡ false

  -- in the midst of withdrawals, of which these are still to be made
  pub record MatchesFlushed
      (history : List Change) (keys : List Key) (e : State J) (ch : Channel) : Type 0 where
    pub like : MatchesRead history e ch
    pub left : e.left ≡ keys

  -- the keys that a feed of the channel marks
  abbrev pub is_wanted : List Change → Channel → Key → Bool
  is_wanted history ch k =
      is_some (candidate rules c k history)
      || (is_some (find k ch.marks) || is_some (value_of (account k ch.log)))

  -- In the midst of a feed of the channel `ch`: these keys have been fed, which are those that the
  -- feed marks before where it goes on.
  pub record MatchesFed
      (history : List Change) (due : Bool) (keys : List Key) (e : State J) (ch : Channel)
      : Type 0 where
    pub up : is_open ch ≡ true
    pub within : IsWithin (length history) ch
    pub resembles : Resembles history e (fed keys due (length history) ch)
    pub read :
        (k : Key) → reach_of e k
        ≡ (if is_ahead e.feed k
        then max ch.position ch.floor
        else max (max ch.position ch.floor) (length history))
    pub rest : e.flushing ≡ false
    pub refresh : e.refreshing ≡ due
    pub ascend : IsStrictlySortedBy key_cmp keys
    pub are :
        (k : Key) → holds k keys ≡ (not (is_ahead e.feed k) && is_wanted history ch k)
