-- For private contracts alone: what is reported of the parts of a played phase, and what stands
-- behind each.
use Rattle.std.specs.Prelude.{◌≡◌, ℕ, ◌+◌, ◌-◌, ◌==◌, Bool, true, false, List, [], ◌∷◌, ◌++◌, codes, drop, length, map, Option, Some, None, option_map, slice_get, if◌then◌else◌}
use Rattle.std.specs.declared.alloc.Global.{Global}
use Rattle.std.specs.declared.vec.Vec.{Vec}
use Rattle.attrs.specs.declared.journal.JEntry.{JEntry}
use Rattle.bits_ip.specs.declared.address.Family.{Family}
use Rattle.export_core.specs.Histories.{change_of}
use Rattle.export_core.specs.Standing.{is_open, standing_at}
use Rattle.export_core.specs.States.{State}
use Rattle.import_core.specs.declared.operation.Op.{Op}
use Rattle.import_core.specs.declared.operation.Op.TheVariants.{Start}
use Rattle.import_core.specs.declared.step.Done.{Done}
use Rattle.script_lines.specs.declared.script.Line.{Line}
use Rattle.script_lines.specs.declared.script.Line.TheVariants.{Apply, Push, Show, Take}
use Rattle.report.specs.declared.phase.ChannelReport.{ChannelReport}
use Rattle.report.specs.declared.phase.ExportReport.{ExportReport}
use Rattle.report.specs.declared.phase.JournalReport.{JournalReport}
use Rattle.report.specs.declared.phase.ModeReport.{ModeReport}
use Rattle.report.specs.declared.phase.ProtocolReport.{ProtocolReport}
use Rattle.report.specs.declared.phase.ProtocolState.{ProtocolState}
use Rattle.report.specs.declared.phase.ProtocolState.TheVariants as state
use Rattle.report.specs.declared.phase.ReplyReport.{ReplyReport}
use Rattle.report.specs.declared.phase.TableReport.{TableReport}
use Rattle.core_setup.specs.Channels.{family_or_first}
use Rattle.core_setup.specs.Pairs.{Pairs}
use Rattle.core_setup.specs.Reports.{IsStandingReport}
use Rattle.sys_run.specs.declared.parts.TableParts.{TableParts}
use Rattle.import_lock.specs.declared.state.OpRecord.{OpRecord}
use Rattle.table_shared.specs.declared.close.Phase.{Phase}
use Rattle.phase_actors.specs.declared.actor.Told.{Told}
use Rattle.phase_close.specs.declared.seats.SessionEnded.{SessionEnded}
use Rattle.phase_open.specs.declared.standing.StandingChannel.{StandingChannel}
use Rattle.phase_open.specs.declared.standing.StandingProtocol.{StandingProtocol}
use Rattle.phase_open.specs.declared.standing.StandingTable.{StandingTable}
use Rattle.pipe_close.specs.declared.end.PipeEnded.{PipeEnded}
use Rattle.room_ends.specs.declared.ended.MemberEnded.{MemberEnded}
use Rattle.room_ends.specs.declared.ended.MemberEnded.TheVariants as ended
use Rattle.room_open.specs.declared.standing.StandingMember.{StandingMember}
use Rattle.room_open.specs.declared.standing.StandingMember.TheVariants as standing
use Rattle.room_open.specs.declared.standing.StandingPipe.{StandingPipe}
use Rattle.room_report.specs.Described.{MayStand}
use Rattle.room_report.specs.declared.naming.ChannelKind.{ChannelKind}
use Rattle.room_report.specs.declared.naming.ChannelKind.TheVariants.{Export, Import, Own}
use Rattle.room_report.specs.declared.numbers.ChannelNumbers.{ChannelNumbers}
use Rattle.room_report.specs.declared.numbers.ChannelNumbers.TheVariants as kinds

-- ---- names and lines by number

abbrev pub name_or_none : Option (List ℕ) → List ℕ
name_or_none None = []
name_or_none (Some name) = name

abbrev pub name_of : Option TableParts → List ℕ
name_of None = []
name_of (Some table) = table.name

abbrev pub line_before : List Line → ℕ → Option Line
line_before lines place = if place == 0 then None else slice_get lines (place - 1)

abbrev pub op_asked : Line → Op
op_asked (Take channel count) = Start
op_asked (Push channel count) = Start
op_asked (Apply actor line protocol op) = op
op_asked (Show actor query) = Start

abbrev pub op_in : Option Line → Op
op_in None = Start
op_in (Some line) = op_asked line

abbrev pub done_in : List Line → OpRecord → Done
done_in lines turn = record { op = op_in (line_before lines turn.line); over = turn.over }

-- ---- reports of tables, protocols and actors

-- the reports of these items, by number
abbrev pub Reports : {X Y : Type 0} → (ℕ → X → Y) → List X → List Y → Type 0
Reports report items reports = Pairs (λ number item r. r ≡ report number item) 0 items reports

abbrev pub journal_of : List TableParts → ℕ → Phase → JournalReport
journal_of tables number phase = record {
  table = name_of (slice_get tables number);
  from = phase.from;
  entries = map change_of phase.entries;
}

abbrev pub rows_of : List TableParts → ℕ → Phase → TableReport
rows_of tables number phase =
    record { name = name_of (slice_get tables number); rows = phase.rib.rows }

abbrev pub reply_of : List TableParts → List ℕ → Told → ReplyReport
reply_of tables actor told = record {
  actor = actor;
  table = name_of (slice_get tables told.table);
  at = told.at;
  text = told.text.items;
}

-- the replies to the actors from a number on
abbrev pub replies_told :
    List TableParts → List (List ℕ) → ℕ → List (Vec Told Global) → List ReplyReport
replies_told tables actors number [] = []
replies_told tables actors number (told ∷ more) =
    map (reply_of tables (name_or_none (slice_get actors number))) told.items
    ++ replies_told tables actors (number + 1) more

-- how many items of a log were there
abbrev pub length_of : Option ℕ → ℕ
length_of None = 0
length_of (Some count) = count

-- what stood of a table
abbrev pub list_in : Option (Vec JEntry Global) → List JEntry
list_in None = []
list_in (Some list) = list.items

-- what a protocol without channels has
abbrev pub numbers_or_none : Option ChannelNumbers → ChannelNumbers
numbers_or_none None = kinds.Own None
numbers_or_none (Some told) = told

abbrev pub own_in : ChannelNumbers → Option ℕ
own_in (kinds.Own number) = number
own_in (kinds.Pipe out back) = None

abbrev pub directions_in : ChannelNumbers → ℕ × ℕ
directions_in (kinds.Own number) = (0, 0)
directions_in (kinds.Pipe out back) = (out, back)

-- ---- a channel beside its protocol

abbrev pub text_of : ChannelKind → List ℕ
text_of Own = []
text_of Export = codes ".export"
text_of Import = codes ".import"

abbrev pub with_target : ChannelKind → Bool
with_target Own = false
with_target Export = true
with_target Import = true

-- a channel, with its protocol's number
pub record Served (J : Type 0) : Type 0 where
  pub owner : ℕ
  pub kind : ChannelKind
  pub exporter : State J

module _ {J : Type 0} where
  -- ---- reports of protocols

  abbrev pub ops_in : MemberEnded J → List OpRecord
  ops_in (ended.Own session) = session.ops.items
  ops_in (ended.Pipe pipe) = pipe.ops.items

  abbrev pub operations_of :
      List (List ℕ) → List Line → ℕ → MemberEnded J → ProtocolReport
  operations_of names lines number member = record {
    name = name_or_none (slice_get names number);
    ops = map (done_in lines) (ops_in member);
  }

  abbrev pub state_of : MemberEnded J → ProtocolState
  state_of (ended.Own session) =
      state.Imports session.importer.imports.mode (length session.importer.imports.accepted)
  state_of (ended.Pipe pipe) = state.Pipe pipe.up

  abbrev pub mode_of : List (List ℕ) → ℕ → MemberEnded J → ModeReport
  mode_of names number member =
      record { name = name_or_none (slice_get names number); state = state_of member }

  -- ---- reports of channels

  abbrev pub lane : ℕ → ChannelKind → State J → Served J
  lane number kind exporter = record { owner = number; kind = kind; exporter = exporter }

  abbrev pub own_served : ℕ → Option (State J) → List (Served J)
  own_served number None = []
  own_served number (Some exporter) = lane number Own exporter ∷ []

  abbrev pub pipe_served : ℕ → PipeEnded J → List (Served J)
  pipe_served number pipe = lane number Export pipe.out ∷ lane number Import pipe.back ∷ []

  abbrev pub served_in : ℕ → MemberEnded J → List (Served J)
  served_in number (ended.Own session) = own_served number session.exporter
  served_in number (ended.Pipe pipe) = pipe_served number pipe

  -- the channels of protocols from a number on
  abbrev pub served : ℕ → List (MemberEnded J) → List (Served J)
  served number [] = []
  served number (member ∷ more) = served_in number member ++ served (number + 1) more

  module _ {Y : Type 0} (R : ℕ → Served J → Y → Type 0) where
    -- one for each channel, by its number
    abbrev pub Serves : List (MemberEnded J) → List Y → Type 0
    Serves members reports = Pairs R 0 (served 0 members) reports

    -- one more for each of these channels
    abbrev pub Adds : List (Served J) → List Y → List Y → Type 0
    Adds [] old new = new ≡ old
    Adds (s ∷ more) old new =
        (report : Y) × Adds more (old ++ report ∷ []) new × R (length old) s report

  abbrev pub log_of : List (List ℕ) → List ℕ → ℕ → Served J → ChannelReport
  log_of names logged number s = record {
    name = name_or_none (slice_get names s.owner) ++ text_of s.kind;
    pipe = with_target s.kind;
    items = drop (length_of (slice_get logged number)) s.exporter.log;
  }

  abbrev pub IsLogOf : List (List ℕ) → List ℕ → ℕ → Served J → ChannelReport → Type 0
  IsLogOf names logged number s report = report ≡ log_of names logged number s

  pub record IsExportOf (names : List (List ℕ)) (number : ℕ) (s : Served J) (report : ExportReport)
      : Type 0 where
    pub name : report.name ≡ name_or_none (slice_get names s.owner) ++ text_of s.kind
    pub pipe : report.pipe ≡ with_target s.kind
    pub standing :
        MayStand s.exporter
        → IsStandingReport (is_open s.exporter.log) (λ k. standing_at k s.exporter.log)
        report.standing

  -- ---- lengths of logs

  abbrev pub own_lengths : Option (State J) → List ℕ
  own_lengths None = []
  own_lengths (Some exporter) = length exporter.log ∷ []

  abbrev pub pipe_lengths : PipeEnded J → List ℕ
  pipe_lengths pipe = length pipe.out.log ∷ length pipe.back.log ∷ []

  abbrev pub lengths_in : MemberEnded J → List ℕ
  lengths_in (ended.Own session) = own_lengths session.exporter
  lengths_in (ended.Pipe pipe) = pipe_lengths pipe

  abbrev pub all_lengths : List (MemberEnded J) → List ℕ
  all_lengths [] = []
  all_lengths (member ∷ more) = lengths_in member ++ all_lengths more

  -- ---- what stands behind the phase

  abbrev pub channel_of : Option ℕ → Option (State J) → Option (StandingChannel J)
  channel_of number None = None
  channel_of None (Some exporter) = None
  channel_of (Some number) (Some exporter) =
      Some (record { number = number; exporter = exporter })

  abbrev pub protocol_behind : Option ℕ → SessionEnded J → StandingProtocol J
  protocol_behind number session = record {
    table = session.table;
    importer = session.importer;
    channel = channel_of number session.exporter;
  }

  abbrev pub pipe_behind : ℕ × ℕ → PipeEnded J → StandingPipe J
  pipe_behind told pipe = record {
    primary = pipe.primary;
    peer = pipe.peer;
    up = pipe.up;
    out = record { number = told.0; exporter = pipe.out };
    back = record { number = told.1; exporter = pipe.back };
  }

  abbrev pub member_behind : ChannelNumbers → MemberEnded J → StandingMember J
  member_behind told (ended.Own session) = standing.Own (protocol_behind (own_in told) session)
  member_behind told (ended.Pipe pipe) = standing.Pipe (pipe_behind (directions_in told) pipe)

  abbrev pub IsMemberBehind :
      List ChannelNumbers → ℕ → MemberEnded J → StandingMember J → Type 0
  IsMemberBehind told number member stands =
      stands ≡ member_behind (numbers_or_none (slice_get told number)) member

pub record IsTableOf
    (family : Family) (stood : List JEntry) (phase : Phase) (stands : StandingTable)
    : Type 0 where
  pub family_is : stands.family ≡ family
  pub rows : stands.rows ≡ phase.rib
  pub before : stands.before.items ≡ stood ++ phase.entries

abbrev pub IsTableBehind :
    List TableParts → List (Vec JEntry Global) → ℕ → Phase → StandingTable → Type 0
IsTableBehind tables before number phase stands =
    IsTableOf
    (family_or_first
    (option_map (λ (table : TableParts). table.family) (slice_get tables number)))
    (list_in (slice_get before number)) phase stands
