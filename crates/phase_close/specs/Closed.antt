-- What is left of a session once its table is closed too (`IsSessionEnded`): its port has ended there,
-- so that what it made is all that stands there under its number, and what its channel's cursor has
-- seen begins what stands there.
-- Operations are read backwards; entries, records of operations, changes and receipts are in their
-- order.
-- From: own.
-- Example: of two entries of a table the first is of the first session's port, and each channel has
-- seen none, the first, or both.
use Rattle.std.specs.Prelude.{◌≡◌, ℕ, List, map, Option, Some, None, slice_get, ⊤}
use Rattle.atomic_table.specs.Seated.{TableId}
use Rattle.attrs.specs.declared.judge.Verdict.{Verdict}
use Rattle.attrs.specs.declared.route.Change.{Change}
use Rattle.attrs.specs.declared.route.Route.{Route}
use Rattle.bits_ip.specs.Prefix.{Net}
use Rattle.export_core.specs.States.{State}
use Rattle.jour_rule.specs.declared.views.Entry.{Entry}
use Rattle.jour_rule.specs.declared.views.Terms.{Terms}
use Rattle.jour_rule.specs.declared.views.View.{View as Seat}
use Rattle.jour.specs.Seats.{front, journal}
use Rattle.table_shared.specs.Opening.{TableOpening}
use Rattle.table_shared.specs.Phases.{IsHeard, IsRetired as IsPortRetired}
use Rattle.phase_legal.specs.Shown.{HandView}
use Rattle.import_lock.specs.Terms.{ImportTerms}
use Rattle.export_lock.specs.Kept.{GoesOn}
use Rattle.export_lock.specs.Terms.{ExportTerms}
use Rattle.export_lock.specs.declared.state.ExportState.{ExportState}
use Rattle.phase_room.specs.Sessions.{IsChannelOf}
use Rattle.phase_close.specs.Left.{IsChannelLeft, IsImportLeft, IsSessionLeft}
use Rattle.phase_close.specs.declared.seats.SessionEnded.{SessionEnded}
use Rattle.phase_close.specs.declared.session.SessionLeft.{SessionLeft}

-- the journal of a table, and all its entries
abbrev pub TableList : Type 0
TableList = (TableId × Terms TableOpening) × List Entry

abbrev pub list_of : TableId × Seat TableOpening → TableList
list_of closing = (journal closing, front closing.1)

abbrev pub all_lists : List (TableId × Seat TableOpening) → List TableList
all_lists closings = map list_of closings

-- the locks of a session, and the hands of its turns
pub record SessionTerms : Type 0 where
  pub protocol : ImportTerms
  pub channel : Option ExportTerms
  pub hands : List HandView

-- an exporter without its cursor, which had seen what begins the list
abbrev pub AreHeard :
    {J : Type 0} → Terms TableOpening → List Entry → Option (ExportState J) → Option (State J)
    → Type 0
AreHeard terms entries None None = ⊤
AreHeard terms entries (Some state) (Some exporter) =
    (exporter ≡ state.exporter) × IsHeard terms entries state.cursor.0.1
AreHeard terms entries _ _ = ⊥

module _ {J : Type 0} (verdict : J → Net → Route → Verdict) where
  abbrev pub AreLater : Option (ExportState J) → Option (ExportState J) → Type 0
  AreLater None None = ⊤
  AreLater (Some old) (Some new) = GoesOn verdict old new × (new.marks ≡ old.marks)
  AreLater _ _ = ⊥

  -- a session whose channel has gone on by turns that leave its marks
  pub record IsLater (old new : SessionLeft J) : Type 0 where
    pub table : new.table ≡ old.table
    pub importer : new.importer ≡ old.importer
    pub ops : new.ops ≡ old.ops
    pub port : new.port ≡ old.port
    pub channel : AreLater old.channel new.channel

  pub record IsChannelEnded
      (key : ImportTerms) (list : List Entry) (made : List (ℕ × Change)) (entries : List Entry)
      (channel : ExportTerms) (exporter : State J) : Type 0 where
    pub state : ExportState J
    pub exporter_is : exporter ≡ state.exporter
    pub left : IsChannelLeft verdict key list made channel state
    pub heard : IsHeard key.port.1 entries state.cursor.0.1

  abbrev pub AreChannelsEnded :
      ImportTerms → List Entry → List (ℕ × Change) → (entries : List Entry) → Option ExportTerms
      → Option (State J) → Type 0
  AreChannelsEnded key list made entries None None = ⊤
  AreChannelsEnded key list made entries (Some channel) (Some exporter) =
      IsChannelEnded key list made entries channel exporter
  AreChannelsEnded key list made entries _ _ = ⊥

  pub record IsSessionEnded
      (key : SessionTerms) (entries : List Entry) (ended : SessionEnded J) : Type 0 where
    pub list : List Entry
    pub made : List (ℕ × Change)
    pub port : TableId × Seat TableOpening
    pub imports :
        IsImportLeft verdict key.protocol key.hands ended.importer ended.ops.items port list made
    pub retired : IsPortRetired key.protocol.port.1 entries port
    pub channels : AreChannelsEnded key.protocol list made entries key.channel ended.exporter

  -- a session whose table is among these
  pub record IsEnding
      (lists : List TableList) (key : SessionTerms) (left : SessionLeft J) : Type 0 where
    pub left_is : IsSessionLeft verdict key.protocol key.channel key.hands left
    pub channel_is : IsChannelOf key.protocol key.channel
    pub entries : List Entry
    pub there : slice_get lists left.table ≡ Some (key.protocol.port, entries)

  pub record IsEndedOver
      (lists : List TableList) (key : SessionTerms) (ended : SessionEnded J) : Type 0 where
    pub entries : List Entry
    pub there : slice_get lists ended.table ≡ Some (key.protocol.port, entries)
    pub session : IsSessionEnded key entries ended

  -- what was left has ended, with its channel's exporter and its port as they were
  abbrev pub EndsOver : List TableList → SessionLeft J → SessionEnded J → Type 0
  EndsOver lists left ended =
      (ended.table ≡ left.table)
      × ((key : SessionTerms) → IsEnding lists key left → IsEndedOver lists key ended)
      × ((l : TableList) → slice_get lists left.table ≡ Some l
      → AreHeard l.0.1 l.1 left.channel ended.exporter)
      × ((l : TableList) → slice_get lists left.table ≡ Some l
      → IsPortRetired l.0.1 l.1 left.port)
