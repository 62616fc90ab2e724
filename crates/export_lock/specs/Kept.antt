-- What an export lock keeps of its value (`IsExports`): the exporter stands for each history that
-- begins with what the cursor has seen, so each key was read up to a position that the cursor has
-- seen, and what was sent of it is of no later one (`IsRead`); the marks of its log are those of the
-- journal of marks, behind those of before, and the log begins with that of before; and the cursor
-- is started while the channel is up.
-- Logs are read backwards, but for the exporter's own, so a log that begins with another ends in it;
-- entries are in their order.
-- From: own.
-- Example: behind an up at 4 the journal of marks has one entry more, and the cursor stands at 4.
-- A net that a feed then reads at 6 is read up to 6, and what was sent of it is of 4, 5 or 6.
use Rattle.std.specs.Prelude.{◌≡◌, ◌&&◌, not, ℕ, ◌+◌, ◌<◌, ◌≤◌, ◌^◌, Bool, true, false, List, ◌++◌, length, reverse, Some}
use mathlib.Core.List.{IsPrefix}
use Rattle.atomic_table.specs.Seated.{TableId}
use Rattle.attrs.specs.declared.journal.JEntry.{JEntry}
use Rattle.attrs.specs.declared.judge.Verdict.{Verdict}
use Rattle.attrs.specs.declared.route.Route.{Route}
use Rattle.bits_ip.specs.Prefix.{Net}
use Rattle.export_core.specs.Histories.{course_of}
use Rattle.export_core.specs.Logs.{account}
use Rattle.export_core.specs.Standing.{is_open}
use Rattle.export_core.specs.States.{StandsFor, reach_of}
use Rattle.export_core.specs.declared.log.Key.{Key}
use Rattle.export_core.specs.declared.log.LogItem.{LogItem}
use Rattle.export_core.specs.declared.log.Sending.{Sending}
use Rattle.jour_rule.specs.Moves.{position_of}
use Rattle.jour_rule.specs.declared.views.Terms.{Terms}
use Rattle.jour_rule.specs.declared.views.View.{View as Seat}
use Rattle.jour.specs.Seats.{front, head_of, journal, known, number_of}
use Rattle.core_machine.specs.Rules.{Fits, Signal}
use Rattle.core_machine.specs.Signals.{without_sends}
use Rattle.table_shared.specs.Opening.{TableOpening}
use Rattle.phase_legal.specs.Stamps.{items_in}
use Rattle.import_lock.specs.Kept.{items_of_stamp}
use Rattle.export_lock.specs.Terms.{BeginsWith, ExportTerms, IsBegun}
use Rattle.export_lock.specs.declared.state.ExportState.{ExportState}

-- up to where a key was read, and where it was sent last
pub record IsRead {J : Type 0} (state : ExportState J) (k : Key) : Type 0 where
  pub seen : reach_of state.exporter k ≤ head_of state.cursor.0.1
  pub sent :
      (x : Sending) → (account k (reverse state.exporter.log)).last ≡ Some x
      → x.at ≤ reach_of state.exporter k

-- the channel is up, and nothing of it is being withdrawn
abbrev pub is_running : {J : Type 0} → ExportState J → Bool
is_running state = state.cursor.1 && not state.exporter.flushing

-- a flush that goes on has all that it had
pub record LeavesFlush {J : Type 0} (old new : ExportState J) : Type 0 where
  pub flushing : new.exporter.flushing ≡ old.exporter.flushing
  pub stays :
      old.exporter.flushing ≡ true
      → (new.exporter.log ≡ old.exporter.log) × (new.exporter.left ≡ old.exporter.left)

-- A cursor went on in its journal, or stayed where it is. Where it knew of an entry behind its
-- position it loaded no head.
pub record ReadsOn (old new : (TableId × Seat TableOpening) × Bool) : Type 0 where
  pub here : journal new.0 ≡ journal old.0
  pub number : number_of new.0.1.role ≡ number_of old.0.1.role
  pub mode : new.1 ≡ old.1
  pub prefix : IsPrefix (front old.0.1) (front new.0.1)
  pub above : known old.0.1 ≤ known new.0.1
  pub sure : position_of old.0.1.role < known old.0.1 → known new.0.1 ≡ known old.0.1

module _ {J : Type 0} (verdict : J → Net → Route → Verdict) where
  -- The exporter is that of a channel, which is a pipe's direction where `every` is true.
  pub record IsExporting (every : Bool) (key : ExportTerms) (state : ExportState J) : Type 0 where
    -- it lets pass what the channel does, and one to a neighbour withdraws nothing
    pub spec : state.exporter.spec ≡ key.exports.spec
    pub filter : verdict state.exporter.judge ≡ key.exports.filter
    pub kind : key.exports.spec.every ≡ every
    pub stays : every ≡ false → state.exporter.flushing ≡ false
    -- its journals are those of the key, and marks have no cursor and one maker
    pub here : journal state.cursor.0 ≡ key.table
    pub start : key.table.1.start ≡ length key.before
    pub family : key.exports.spec.family ≡ key.table.1.opening.family
    pub begun : IsBegun key
    pub marks : journal state.marks ≡ key.marks
    pub makers : key.marks.1.opening ≡ 1
    pub cursors : key.marks.1.cursors ≡ 0
    pub marked :
        without_sends (reverse state.exporter.log)
        ≡ items_in (front state.marks.1) ++ without_sends key.log
    pub log : (more : List LogItem) × (more ++ key.log ≡ reverse state.exporter.log)
    pub mode : state.cursor.1 ≡ is_open state.exporter.log
    pub position :
        is_open state.exporter.log ≡ true
        → state.exporter.position ≡ position_of state.cursor.0.1.role
    pub least : is_open state.exporter.log ≡ true → key.table.1.start ≤ state.exporter.position
    pub stands :
        (history : List JEntry) → BeginsWith key (front state.cursor.0.1) history
        → StandsFor verdict (course_of key.exports.spec history) state.exporter

  -- of a channel to a neighbour
  abbrev pub IsExports : ExportTerms → ExportState J → Type 0
  IsExports key state = IsExporting false key state

  -- it is the value of some lock of a channel
  pub record IsHeld (state : ExportState J) : Type 0 where
    pub every : Bool
    pub key : ExportTerms
    pub exporting : IsExporting every key state

  -- of one of this kind
  pub record IsOfKind (every : Bool) (state : ExportState J) : Type 0 where
    pub key : ExportTerms
    pub exporting : IsExporting every key state

  -- what a lock of a channel keeps is kept, of one to a neighbour or of any
  abbrev pub Goes : ExportState J → ExportState J → Type 0
  Goes old new = (key : ExportTerms) → IsExports key old → IsExports key new

  abbrev pub GoesOn : ExportState J → ExportState J → Type 0
  GoesOn old new =
      (every : Bool) (key : ExportTerms) → IsExporting every key old → IsExporting every key new

  -- it may take a mark under this stamp, which has seen all marks
  pub record IsReady (stamp : TableId × Seat ℕ) (state : ExportState J) : Type 0 where
    pub held : IsHeld state
    pub here : journal stamp ≡ journal state.marks
    pub number : number_of stamp.1.role ≡ 0
    pub told : front stamp.1 ≡ front state.marks.1
    pub end : head_of state.marks.1 + 1 < 2 ^ 63

  -- It is of this kind and reads this table, and where the stamp's marks are all that there are, a
  -- position is left for one more, and the signal fits.
  pub record MayMark
      (every : Bool) (table : TableId × Terms TableOpening) (signal : Signal)
      (stamp : TableId × Seat ℕ) (state : ExportState J) : Type 0 where
    pub held : IsOfKind every state
    pub table_is : journal state.cursor.0 ≡ table
    pub here : journal stamp ≡ journal state.marks
    pub number : number_of stamp.1.role ≡ 0
    pub end :
        items_in (front state.marks.1) ≡ items_of_stamp stamp
        → head_of state.marks.1 + 1 < 2 ^ 63
    pub fits :
        items_in (front state.marks.1) ≡ items_of_stamp stamp
        → Fits signal (is_open state.exporter.log)
