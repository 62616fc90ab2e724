-- What each call of an exporter does, exactly (`Takes`, `Feeds`, `Pushes`, `FlushesBy`, `begun`,
-- `refreshed`, `ended`, `IsAtRest`).
-- From: RFC 4271, section 9.2; RFC 2918 for a refresh; BIRD User's Guide, "Pipe"; calls are own.
-- Example: a push of a mark whose value stands as sent, and of which no refresh is due, writes
-- nothing. A flush withdraws the first of what stands, and the log has no item of it.
use Rattle.std.specs.Prelude.{◌≡◌, ◌≢◌, ◌<◌, ℕ, Bool, true, false, nat_lt, ◌&&◌, ◌||◌, not, List, [], ◌∷◌, ◌++◌, Option, Some, None, is_some, IsSome, slice_get, drop, option_map, if◌then◌else◌}
use Rattle.std.specs.List.Sorted.{IsStrictlySortedBy}
use Rattle.std.specs.Map.{keys_of}
use Rattle.bits_ip.specs.Prefix.{Net}
use Rattle.export_core.specs.Keys.{key_cmp, same_key}
use Rattle.export_core.specs.declared.log.Key.{Key}
use Rattle.attrs.specs.declared.attributes.Attrs.{Attrs}
use Rattle.attrs.specs.declared.journal.Chunk.{Chunk}
use Rattle.attrs.specs.declared.journal.JEntry.{JEntry}
use Rattle.attrs.specs.declared.judge.Verdict.{Verdict}
use Rattle.attrs.specs.declared.route.Route.{Route}
use Rattle.export_core.specs.declared.exporter.Pushed.{Pushed}
use Rattle.export_core.specs.declared.exporter.Pushed.TheVariants as pushed
use Rattle.export_core.specs.declared.floors.FeedState.TheVariants.{Done, From}
use Rattle.export_core.specs.declared.floors.Floor.{Floor}
use Rattle.export_core.specs.declared.log.LogItem.TheVariants.{Up, Down, Reload, Sent}
use Rattle.export_core.specs.declared.log.Sending.{Sending}
use Rattle.export_core.specs.declared.marks.Mark.{Mark}
use Rattle.export_core.specs.Candidates.{covers, floor_of, best_in, heeds, key_of_entry, told_of}
use Rattle.export_core.specs.declared.passing.ExportSpec.{ExportSpec}
use Rattle.export_core.specs.declared.log.LogItem.{LogItem}
use Rattle.export_core.specs.Marks.{Listed, find, holds, joined}
use Rattle.export_core.specs.Passing.{passed}
use Rattle.export_core.specs.Standing.{is_open, standing_at}
use Rattle.export_core.specs.States.{State, reach, reach_of, higher, feed_after, value_for}

-- the order with one more marked key: it stays as it is where the key has a mark
abbrev pub order_with : Key → Listed → List Key
order_with k m = if is_some (find k m) then keys_of m else keys_of m ++ k ∷ []

abbrev pub mark_of : ExportSpec → ℕ → JEntry → Mark
mark_of spec pos entry = record { at = pos; candidate = told_of spec entry; due = false }

-- The entry's key is marked where the channel heeds its source and the entry stands above what has
-- been read of it; no other mark changes.
abbrev pub MarksAbove : ExportSpec → ℕ → ℕ → JEntry → Listed → Listed → Type 0
MarksAbove spec reached pos entry old new =
    (q : Key) → find q new
    ≡ (if same_key (key_of_entry spec entry) q && (nat_lt reached pos && heeds spec entry.num)
    then Some (joined (find q old) (mark_of spec pos entry))
    else find q old)

-- the value of a mark needs no sending: it stands already, and no refresh is due of it
abbrev pub IsQuiet : Bool → Option Attrs → Option Attrs → Type 0
IsQuiet due value last = (value ≡ last) × (due ≡ true → value ≡ None)

-- it is sent, since it is another value than stands, or since a refresh is due of it
pub record IsNews (due : Bool) (value last : Option Attrs) (again : Bool) : Type 0 where
  pub changed : again ≡ false → value ≢ last
  pub equal : again ≡ true → (value ≡ last) × (due ≡ true) × IsSome value

-- These keys, in their order, are those of which a value stands by the log.
pub record AreStanding (log : List LogItem) (keys : List Key) : Type 0 where
  pub ascend : IsStrictlySortedBy key_cmp keys
  pub are : (k : Key) → holds k keys ≡ is_some (standing_at k log)

module _ {J : Type 0} where
  pub record Takes (pos : ℕ) (entry : JEntry) (e e' : State J) : Type 0 where
    pub spec : e'.spec ≡ e.spec
    pub judge : e'.judge ≡ e.judge
    pub log : e'.log ≡ e.log
    pub feed : e'.feed ≡ e.feed
    pub refreshing : e'.refreshing ≡ e.refreshing
    pub position : e'.position ≡ pos
    pub read : (k : Key) → reach_of e' k ≡ reach pos e.floors k
    -- ranges at or below the position are dropped from the front
    pub lowered : (f : Floor) → slice_get e'.floors 0 ≡ Some f → pos < f.at
    pub marks :
        MarksAbove e.spec (reach_of e (key_of_entry e.spec entry)) pos entry e.marks e'.marks
    pub flushing : e'.flushing ≡ e.flushing
    pub left : e'.left ≡ e.left
    pub order :
        keys_of e'.marks
        ≡ (if nat_lt (reach_of e (key_of_entry e.spec entry)) pos && heeds e.spec entry.num
        then order_with (key_of_entry e.spec entry) e.marks
        else keys_of e.marks)

  -- a stretch begins at a position, with a feed
  abbrev pub begun : ℕ → State J → State J
  begun at e = record {
    spec = e.spec;
    judge = e.judge;
    position = at;
    floors = [];
    feed = From None;
    refreshing = false;
    marks = [];
    log = e.log ++ Up at ∷ [];
    flushing = false;
    left = [];
  }

  -- a refresh begins: a feed whose marks are due
  abbrev pub refreshed : State J → State J
  refreshed e = record {
    spec = e.spec;
    judge = e.judge;
    position = e.position;
    floors = e.floors;
    feed = From None;
    refreshing = true;
    marks = e.marks;
    log = e.log ++ Reload ∷ [];
    flushing = e.flushing;
    left = e.left;
  }

  -- the stretch ends
  abbrev pub ended : State J → State J
  ended e = record {
    spec = e.spec;
    judge = e.judge;
    position = e.position;
    floors = e.floors;
    feed = Done;
    refreshing = e.refreshing;
    marks = [];
    log = e.log ++ Down ∷ [];
    flushing = false;
    left = [];
  }

  -- the chunk marks the key: its net is in the range, and it has a candidate, a mark or a value
  abbrev pub is_chosen : Chunk → State J → Key → Bool
  is_chosen chunk e k =
      covers (floor_of chunk) k
      && (is_some (best_in e.spec k chunk.rows)
      || is_some (find k e.marks)
      || is_some (standing_at k e.log))

  -- These keys, in their order, are those that the chunk marks and that had no mark.
  pub record AreAdded (chunk : Chunk) (e : State J) (added : List Key) : Type 0 where
    pub ascend : IsStrictlySortedBy key_cmp added
    pub are :
        (k : Key) → holds k added ≡ (is_chosen chunk e k && not (is_some (find k e.marks)))

  pub record Feeds (chunk : Chunk) (e e' : State J) : Type 0 where
    pub spec : e'.spec ≡ e.spec
    pub judge : e'.judge ≡ e.judge
    pub log : e'.log ≡ e.log
    pub position : e'.position ≡ e.position
    pub refreshing : e'.refreshing ≡ e.refreshing
    pub flushing : e'.flushing ≡ e.flushing
    pub left : e'.left ≡ e.left
    pub feed : e'.feed ≡ feed_after chunk.upto
    pub read : (k : Key) → reach_of e' k ≡ higher k (reach_of e k) (floor_of chunk)
    pub marks :
        (k : Key) → find k e'.marks
        ≡ (if is_chosen chunk e k
        then Some (joined (find k e.marks) (record {
          at = chunk.at;
          candidate = best_in e.spec k chunk.rows;
          due = e.refreshing;
        }))
        else find k e.marks)
    pub order :
        (added : List Key) × (keys_of e'.marks ≡ keys_of e.marks ++ added) × AreAdded chunk e added

  -- the first mark, which is of this key, is taken out
  pub record Pops (k : Key) (m : Mark) (e e' : State J) : Type 0 where
    pub first : slice_get (keys_of e.marks) 0 ≡ Some k
    pub mark : find k e.marks ≡ Some m
    pub spec : e'.spec ≡ e.spec
    pub judge : e'.judge ≡ e.judge
    pub position : e'.position ≡ e.position
    pub floors : e'.floors ≡ e.floors
    pub feed : e'.feed ≡ e.feed
    pub refreshing : e'.refreshing ≡ e.refreshing
    pub flushing : e'.flushing ≡ e.flushing
    pub order : keys_of e'.marks ≡ drop 1 (keys_of e.marks)
    pub marks :
        (q : Key) → find q e'.marks ≡ (if same_key k q then None else find q e.marks)

  pub record PushesQuietly
      (verdict : J → Net → Route → Verdict) (k : Key) (m : Mark) (e e' : State J) : Type 0 where
    pub pops : Pops k m e e'
    pub log : e'.log ≡ e.log
    pub left : e'.left ≡ e.left
    pub quiet :
        IsQuiet m.due (passed (value_for verdict e) k m.candidate) (standing_at k e.log)

  pub record PushesOut
      (verdict : J → Net → Route → Verdict) (m : Mark) (x : Sending) (e e' : State J)
      : Type 0 where
    pub pops : Pops x.key m e e'
    pub log : e'.log ≡ e.log ++ Sent x ∷ []
    pub at : x.at ≡ m.at
    pub value : x.value ≡ passed (value_for verdict e) x.key m.candidate
    pub news : IsNews m.due x.value (standing_at x.key e.log) x.again

  -- What a push does, by its answer; `told` and `told'` are what the outlet was given.
  abbrev pub Pushes :
      (J → Net → Route → Verdict) → State J → State J → Option (List Sending)
      → Option (List Sending) → Pushed → Type 0
  Pushes verdict e e' told told' pushed.Nothing =
      (e.marks ≡ []) × (e' ≡ e) × (told' ≡ told)
  Pushes verdict e e' told told' pushed.Quiet =
      (k : Key) × (m : Mark) × PushesQuietly verdict k m e e' × (told' ≡ told)
  Pushes verdict e e' told told' pushed.Sent =
      (m : Mark) × (x : Sending) × PushesOut verdict m x e e'
      × (told' ≡ option_map (λ sent. sent ++ x ∷ []) told)

  -- The first of what stands still is withdrawn: the outlet is given a value of none, and the log
  -- no item.
  pub record Flushes (x : Sending) (e e' : State J) : Type 0 where
    pub left : e.left ≡ x.key ∷ e'.left
    pub value : x.value ≡ None
    pub at : x.at ≡ e.position
    pub again : x.again ≡ false
    pub flushing : e'.flushing ≡ true
    pub spec : e'.spec ≡ e.spec
    pub judge : e'.judge ≡ e.judge
    pub position : e'.position ≡ e.position
    pub floors : e'.floors ≡ e.floors
    pub feed : e'.feed ≡ e.feed
    pub refreshing : e'.refreshing ≡ e.refreshing
    pub marks : e'.marks ≡ e.marks
    pub log : e'.log ≡ e.log

  -- What a flush does, by its answer.
  abbrev pub FlushesBy :
      State J → State J → Option (List Sending) → Option (List Sending) → Pushed → Type 0
  FlushesBy e e' told told' pushed.Nothing = (e.left ≡ []) × (e' ≡ e) × (told' ≡ told)
  FlushesBy e e' told told' pushed.Quiet = ⊥
  FlushesBy e e' told told' pushed.Sent =
      (x : Sending) × Flushes x e e' × (told' ≡ option_map (λ sent. sent ++ x ∷ []) told)

  -- up and not being withdrawn, at this position, fed, and without a mark
  pub record IsAtRest (e : State J) (head : ℕ) : Type 0 where
    pub up : is_open e.log ≡ true
    pub stays : e.flushing ≡ false
    pub position : e.position ≡ head
    pub fed : e.feed ≡ Done
    pub unmarked : e.marks ≡ []
