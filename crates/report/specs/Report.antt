-- The report's text (`report_text`): a function of what each phase reports; every byte of it. In the
-- quiet form (`quiet_text`) a phase is its number and what stands at its end. A part has a line or more; indentation is tabs, fields are separated by one space, each line ends
-- with a newline.
-- Not modelled: where what is reported comes from.
-- From: own; attributes are written as specs/Text of attrs says.
-- Example: crates/birdcore/stdout is the text of the worked run of docs/DEFINITIONS.md.
use Rattle.std.specs.Prelude.{ℕ, ◌+◌, Bool, true, false, if◌then◌else◌, List, [], ◌∷◌, ◌++◌, length, map, Option, Some, None, codes, decimal}
use Rattle.std.specs.List.{flat_map}
use Rattle.bits_ip.specs.Text.{net_text}
use Rattle.attrs.specs.Text.{attrs_text}
use Rattle.attrs.specs.Table.{count_routes}
use Rattle.attrs.specs.declared.attributes.Attrs.{Attrs}
use Rattle.attrs.specs.declared.route.Route.{Route}
use Rattle.attrs.specs.declared.route.Change.{Change}
use Rattle.attrs.specs.declared.route.Row.{Row}
use Rattle.text.specs.Lines.{lines_of}
use Rattle.text.specs.Names.{name_of}
use Rattle.import_core.specs.declared.mode.Mode.{Mode}
use Rattle.import_core.specs.declared.mode.Mode.TheVariants.{Idle, Up as IsUp, Disabled, Limited}
use Rattle.export_core.specs.declared.log.Key.{Key}
use Rattle.export_core.specs.declared.log.LogItem.{LogItem}
use Rattle.export_core.specs.declared.log.LogItem.TheVariants.{Up, Down, Reload, Sent}
use Rattle.export_core.specs.declared.log.Sending.{Sending}
use Rattle.report.specs.Operation.{done_text}
use Rattle.report.specs.declared.phase.ProtocolReport.{ProtocolReport}
use Rattle.report.specs.declared.phase.JournalReport.{JournalReport}
use Rattle.report.specs.declared.phase.ChannelReport.{ChannelReport}
use Rattle.report.specs.declared.phase.ReplyReport.{ReplyReport}
use Rattle.report.specs.declared.phase.TableReport.{TableReport}
use Rattle.report.specs.declared.phase.ModeReport.{ModeReport}
use Rattle.report.specs.declared.phase.ProtocolState.{ProtocolState}
use Rattle.report.specs.declared.phase.ProtocolState.TheVariants.{Imports, Pipe}
use Rattle.report.specs.declared.phase.ExportReport.{ExportReport}
use Rattle.report.specs.declared.phase.Standing.{Standing}
use Rattle.report.specs.declared.phase.PhaseReport.{PhaseReport}
use Rattle.report.specs.declared.phase.Form.{Form}
use Rattle.report.specs.declared.phase.Form.TheVariants as forms

-- a line behind one tab, and behind two
abbrev pub line1 : List ℕ → List ℕ
line1 text = 9 ∷ text ++ 10 ∷ []

abbrev pub line2 : List ℕ → List ℕ
line2 text = 9 ∷ 9 ∷ text ++ 10 ∷ []

-- what stands in a place: a route's attributes, and a dash where none is
abbrev pub standing_text : Option Route → List ℕ
standing_text None = codes "-"
standing_text (Some route) = attrs_text route.attrs

-- protocol NAME, and its operations
abbrev pub protocol_text : ProtocolReport → List ℕ
protocol_text p =
    codes "protocol " ++ p.name ++ codes "\n"
    ++ flat_map (λ done. line1 (done_text done)) p.ops

-- POS NET SOURCE ATTRS
abbrev pub entry_text : List (List ℕ) → ℕ → Change → List ℕ
entry_text names position c =
    line1
    (decimal position ++ 32 ∷ net_text c.net ++ 32 ∷ name_of names c.num ++ 32 ∷ standing_text c.new)

-- entries at the positions behind this one
abbrev pub entries_text : List (List ℕ) → ℕ → List Change → List ℕ
entries_text names position [] = []
entries_text names position (c ∷ cs) =
    entry_text names (position + 1) c ++ entries_text names (position + 1) cs

-- journal TABLE FROM TO, and its entries
abbrev pub journal_text : List (List ℕ) → JournalReport → List ℕ
journal_text names j =
    codes "journal " ++ j.table ++ 32 ∷ decimal j.from ++ 32 ∷ decimal (j.from + length j.entries)
    ++ codes "\n"
    ++ entries_text names j.from j.entries

-- A channel's key and a space: NET, and of a pipe NET SOURCE.
abbrev pub key_text : List (List ℕ) → Bool → Key → List ℕ
key_text names pipe key =
    net_text key.net ++ 32 ∷ (if pipe then name_of names key.num ++ 32 ∷ [] else [])

-- what is sent: attributes, and a dash for a withdrawal
abbrev pub value_text : Option Attrs → List ℕ
value_text None = codes "-"
value_text (Some attrs) = attrs_text attrs

-- the word before a value that a refresh sends once more
abbrev pub again_text : Bool → List ℕ
again_text true = codes "again "
again_text false = []

-- POS NET ATTRS, and of a pipe POS NET SOURCE ATTRS
abbrev pub sending_text : List (List ℕ) → Bool → Sending → List ℕ
sending_text names pipe s =
    again_text s.again ++ decimal s.at ++ 32 ∷ key_text names pipe s.key ++ value_text s.value

abbrev pub log_item_text : List (List ℕ) → Bool → LogItem → List ℕ
log_item_text names pipe (Up position) = codes "up " ++ decimal position
log_item_text names pipe Down = codes "down"
log_item_text names pipe Reload = codes "reload"
log_item_text names pipe (Sent sending) = sending_text names pipe sending

-- channel CH, and its log
abbrev pub channel_text : List (List ℕ) → ChannelReport → List ℕ
channel_text names c =
    codes "channel " ++ c.name ++ codes "\n"
    ++ flat_map (λ item. line1 (log_item_text names c.pipe item)) c.items

-- reply ACTOR TABLE POS, and the lines of its text
abbrev pub reply_block : ReplyReport → List ℕ
reply_block r =
    codes "reply " ++ r.actor ++ 32 ∷ r.table ++ 32 ∷ decimal r.at ++ codes "\n"
    ++ flat_map line1 (lines_of r.text)

-- NET SOURCE ATTRS, for each route of a net
abbrev pub row_text : List (List ℕ) → Row → List ℕ
row_text names row =
    flat_map
    (λ route. line2
    (net_text row.net ++ 32 ∷ name_of names route.src.num ++ 32 ∷ attrs_text route.attrs))
    row.routes

-- table TABLE NETS ROUTES, and its routes
abbrev pub table_text : List (List ℕ) → TableReport → List ℕ
table_text names t =
    line1
    (codes "table " ++ t.name ++ 32 ∷ decimal (length t.rows) ++ 32 ∷ decimal (count_routes t.rows))
    ++ flat_map (row_text names) t.rows

abbrev pub mode_text : Mode → List ℕ
mode_text Idle = codes "idle"
mode_text IsUp = codes "up"
mode_text Disabled = codes "disabled"
mode_text Limited = codes "limited"

-- MODE ACCEPTED, and of a pipe up or down
abbrev pub state_text : ProtocolState → List ℕ
state_text (Imports mode accepted) = mode_text mode ++ 32 ∷ decimal accepted
state_text (Pipe true) = codes "up"
state_text (Pipe false) = codes "down"

-- protocol NAME, and what it has come to
abbrev pub mode_line : ModeReport → List ℕ
mode_line m = line1 (codes "protocol " ++ m.name ++ 32 ∷ state_text m.state)

-- NET ATTRS, and of a pipe NET SOURCE ATTRS
abbrev pub standing_line : List (List ℕ) → Bool → Standing → List ℕ
standing_line names pipe s = line2 (key_text names pipe s.key ++ attrs_text s.attrs)

-- export CH COUNT and what stands as sent, or export CH down
abbrev pub standing_block : List (List ℕ) → Bool → List ℕ → Option (List Standing) → List ℕ
standing_block names pipe name None = line1 (codes "export " ++ name ++ codes " down")
standing_block names pipe name (Some sent) =
    line1 (codes "export " ++ name ++ 32 ∷ decimal (length sent))
    ++ flat_map (standing_line names pipe) sent

abbrev pub export_text : List (List ℕ) → ExportReport → List ℕ
export_text names e = standing_block names e.pipe e.name e.standing

-- the names of the protocols by number
abbrev pub names_of : PhaseReport → List (List ℕ)
names_of phase = map (λ p. p.name) phase.protocols

abbrev pub phase_text : PhaseReport → List ℕ
phase_text phase =
    codes "phase " ++ decimal phase.number ++ codes "\n"
    ++ flat_map protocol_text phase.protocols
    ++ flat_map (journal_text (names_of phase)) phase.journals
    ++ flat_map (channel_text (names_of phase)) phase.channels
    ++ flat_map reply_block phase.replies
    ++ codes "state\n"
    ++ flat_map (table_text (names_of phase)) phase.tables
    ++ flat_map mode_line phase.modes
    ++ flat_map (export_text (names_of phase)) phase.exports

-- the quiet form: the phase's number, and what stands at its end
abbrev pub quiet_text : PhaseReport → List ℕ
quiet_text phase =
    codes "phase " ++ decimal phase.number ++ codes "\n"
    ++ codes "state\n"
    ++ flat_map (table_text (names_of phase)) phase.tables
    ++ flat_map mode_line phase.modes
    ++ flat_map (export_text (names_of phase)) phase.exports

abbrev pub text_in : Form → PhaseReport → List ℕ
text_in forms.Whole = phase_text
text_in forms.Quiet = quiet_text

-- each phase, and `end` behind the last
abbrev pub report_text : Form → List PhaseReport → List ℕ
report_text form phases = flat_map (text_in form) phases ++ codes "end\n"
