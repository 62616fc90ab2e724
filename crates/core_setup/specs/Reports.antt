-- What is reported of a printed phase (`IsReport`, `AreReports`): its parts in the order of tables,
-- protocols and channels, each under its name; every field of a report.
-- Not modelled: its text (specs/Report of report).
-- From: own.
-- Example: the worked run of docs/DEFINITIONS.md.
use Rattle.std.specs.Prelude.{◌≡◌, ◌+◌, ℕ, Bool, true, false, List, [], ◌∷◌, ◌++◌, length, map, reverse, Option, Some, None, is_some, slice_get, ⊤}
use Rattle.std.specs.List.Sorted.{IsStrictlySortedBy}
use Rattle.std.specs.Map.{keys_of}
use Rattle.bits_ip.specs.declared.address.Family.{Family}
use Rattle.attrs.specs.declared.attributes.Attrs.{Attrs}
use Rattle.attrs.specs.Table.{Shows}
use Rattle.import_core.specs.Imports.{is_up}
use Rattle.import_core.specs.declared.operation.Op.{Op}
use Rattle.import_core.specs.declared.step.Done.{Done}
use Rattle.export_core.specs.Keys.{key_cmp}
use Rattle.export_core.specs.Marks.{at}
use Rattle.export_core.specs.declared.log.Key.{Key}
use Rattle.report.specs.declared.phase.ChannelReport.{ChannelReport}
use Rattle.report.specs.declared.phase.ExportReport.{ExportReport}
use Rattle.report.specs.declared.phase.JournalReport.{JournalReport}
use Rattle.report.specs.declared.phase.ModeReport.{ModeReport}
use Rattle.report.specs.declared.phase.PhaseReport.{PhaseReport}
use Rattle.report.specs.declared.phase.ProtocolReport.{ProtocolReport}
use Rattle.report.specs.declared.phase.ProtocolState.{ProtocolState}
use Rattle.report.specs.declared.phase.ProtocolState.TheVariants.{Imports, Pipe}
use Rattle.report.specs.declared.phase.ReplyReport.{ReplyReport}
use Rattle.report.specs.declared.phase.Standing.{Standing}
use Rattle.report.specs.declared.phase.TableReport.{TableReport}
use Rattle.show_route.specs.Shown.{IsReply}
use Rattle.show_route.specs.declared.query.Query.{Query}
use Rattle.core_machine.specs.Histories.{content_of, front}
use Rattle.core_machine.specs.Legal.{Joined, Printed, join}
use Rattle.core_machine.specs.Lines.{Reply, ops_of}
use Rattle.core_machine.specs.Replies.{replies_to}
use Rattle.core_machine.specs.Rules.{Rules}
use Rattle.core_machine.specs.SyncState.{Shown}
use Rattle.core_setup.specs.Channels.{Channel, channels}
use Rattle.core_setup.specs.Pairs.{Pairs}
use Rattle.core_setup.specs.Protocols.{rules_of}
use Rattle.core_setup.specs.Queries.{choice_of, sends_of}
use Rattle.core_setup.specs.Setup.{Body, IsPipe, IsSource, Protocol, Setup}

-- ---- operations

-- Each operation with the mark that a route was over the limit in it, behind earlier ones; read
-- backwards.
abbrev pub dones : Rules → ℕ → List Op → List Op → List Done
dones rules i earlier [] = []
dones rules i earlier (op ∷ ops) =
    record { op = op; over = (rules.gives i (ops ++ earlier) op).over } ∷ dones rules i earlier ops

abbrev pub protocol_report : Rules → Joined → Printed → ℕ → Protocol → ProtocolReport
protocol_report rules past p i protocol = record {
  name = protocol.name;
  ops = reverse (dones rules i (ops_of (past.ops i)) (ops_of (p.ops i)));
}

-- ---- tables

abbrev pub journal_report : Joined → Printed → ℕ → List ℕ × Family → JournalReport
journal_report past p number table = record {
  table = table.0;
  from = length (past.history number);
  entries = reverse (p.entries number);
}

pub record IsTableReport
    (p : Printed) (number : ℕ) (table : List ℕ × Family) (report : TableReport) : Type 0 where
  pub name : report.name ≡ table.0
  pub rows : Shows report.rows (p.shown.rows number)

-- ---- protocols at the end of a phase

-- of a pipe whether it is up, and else the mode and how many nets have an accepted route
abbrev pub state_in : Body → Shown → ℕ → ProtocolState
state_in (IsSource p) shown i = Imports (shown.modes i) (shown.accepted i)
state_in (IsPipe p) shown i = Pipe (is_up (shown.modes i))

abbrev pub mode_report : Printed → ℕ → Protocol → ModeReport
mode_report p i protocol =
    record { name = protocol.name; state = state_in protocol.body p.shown i }

-- ---- channels

-- a direction of a pipe writes a table; its routes are told apart by their sources
abbrev pub is_direction : Channel → Bool
is_direction channel = is_some channel.target

abbrev pub channel_report : Printed → ℕ → Channel → ChannelReport
channel_report p c channel = record {
  name = channel.name;
  pipe = is_direction channel;
  items = reverse (p.items c);
}

abbrev pub standing_of : Key × Attrs → Standing
standing_of entry = record { key = entry.0; attrs = entry.1 }

-- These values stand, in the order of keys, and no other.
pub record AreStanding (standing : Key → Option Attrs) (items : List Standing) : Type 0 where
  pub entries : List (Key × Attrs)
  pub items_are : items ≡ map standing_of entries
  pub ascend : IsStrictlySortedBy key_cmp (keys_of entries)
  pub values : (key : Key) → at key entries ≡ standing key

abbrev pub IsStandingReport : Bool → (Key → Option Attrs) → Option (List Standing) → Type 0
IsStandingReport false standing reported = reported ≡ None
IsStandingReport true standing None = ⊥
IsStandingReport true standing (Some items) = AreStanding standing items

pub record IsExportReport (p : Printed) (c : ℕ) (channel : Channel) (report : ExportReport)
    : Type 0 where
  pub name : report.name ≡ channel.name
  pub pipe : report.pipe ≡ is_direction channel
  pub standing : IsStandingReport (p.shown.up c) (p.shown.standing c) report.standing

-- ---- replies

-- the replies to the actors from a number on, each one's in their order
abbrev pub replies_from : ℕ → List (List ℕ) → List Reply → List (List ℕ × Reply)
replies_from number [] replies = []
replies_from number (name ∷ names) replies =
    map (λ r. (name, r)) (reverse (replies_to number replies))
    ++ replies_from (number + 1) names replies

-- a table's name
abbrev pub name_in : Option (List ℕ × Family) → List ℕ
name_in None = []
name_in (Some table) = table.0

abbrev pub table_name : Setup → ℕ → List ℕ
table_name setup number = name_in (slice_get setup.tables number)

abbrev pub protocol_names : Setup → List (List ℕ)
protocol_names setup = map (λ (p : Protocol). p.name) setup.protocols

-- A reply answers the query of its number, over the query's table as it was at the reply's
-- position.
pub record IsReplyReport
    (setup : Setup) (all : Joined) (reply : List ℕ × Reply) (report : ReplyReport) : Type 0 where
  pub query : Query
  pub query_is : slice_get setup.queries reply.1.query ≡ Some query
  pub table_is : reply.1.table ≡ query.table
  pub actor : report.actor ≡ reply.0
  pub table : report.table ≡ table_name setup query.table
  pub at : report.at ≡ reply.1.at
  pub text :
      IsReply (protocol_names setup) (table_name setup query.table) query
      (choice_of setup query) (sends_of setup query)
      (content_of (front reply.1.at (all.history query.table))) report.text

-- ---- the whole

-- the report of a phase with this number, behind those before it
pub record IsReport
    (setup : Setup) (actors : List (List ℕ)) (number : ℕ) (past : Joined) (p : Printed)
    (report : PhaseReport) : Type 0 where
  pub number_is : report.number ≡ number
  pub protocols :
      Pairs (λ i protocol r. r ≡ protocol_report (rules_of setup) past p i protocol)
      0 setup.protocols report.protocols
  pub journals :
      Pairs (λ n table r. r ≡ journal_report past p n table) 0 setup.tables report.journals
  pub channel_logs :
      Pairs (λ c channel r. r ≡ channel_report p c channel) 0 (channels setup) report.channels
  pub replies :
      Pairs (λ n reply r. IsReplyReport setup (join past p) reply r)
      0 (replies_from 0 actors p.replies) report.replies
  pub tables : Pairs (IsTableReport p) 0 setup.tables report.tables
  pub modes :
      Pairs (λ i protocol r. r ≡ mode_report p i protocol) 0 setup.protocols report.modes
  pub exports :
      Pairs (λ c channel r. IsExportReport p c channel r) 0 (channels setup) report.exports

-- the reports of phases, numbered from a number on
abbrev pub AreReports :
    Setup → List (List ℕ) → ℕ → Joined → List Printed → List PhaseReport → Type 0
AreReports setup actors number past [] [] = ⊤
AreReports setup actors number past [] (r ∷ reports) = ⊥
AreReports setup actors number past (p ∷ printed) [] = ⊥
AreReports setup actors number past (p ∷ printed) (r ∷ reports) =
    IsReport setup actors number past p r
    × AreReports setup actors (number + 1) (join past p) printed reports
