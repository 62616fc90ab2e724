-- Scripts as the machine reads them (`line_of`, `phase_of`): lines with the numbers of actors,
-- protocols, channels and queries, backwards. A `show route` asks for the table of its query. And
-- which lines can be played (`AsksWhatIs`, `FitsLine`).
-- Not modelled: texts and names (specs/Script of script_lines).
-- From: own.
-- Example: `!take p2 1`, where p1 is static and has no channel, is of channel 0.
use Rattle.std.specs.Prelude.{◌<◌, ℕ, List, map, reverse, Option, Some, None, slice_get, ⊤}
use Rattle.core_machine.specs.Lines as machine
use Rattle.core_setup.specs.Announced.{FitsProtocol}
use Rattle.core_setup.specs.Setup.{Setup}
use Rattle.script_lines.specs.declared.script.Line.{Line}
use Rattle.script_lines.specs.declared.script.Line.TheVariants as lines
use Rattle.show_route.specs.declared.query.Query.{Query}

-- the table of a query
abbrev pub table_in : Option Query → ℕ
table_in None = 0
table_in (Some query) = query.table

abbrev pub asked_table : List Query → ℕ → ℕ
asked_table queries number = table_in (slice_get queries number)

abbrev pub line_of : List Query → Line → machine.Line
line_of queries (lines.Take channel count) =
    machine.Take (record { channel = channel; number = count })
line_of queries (lines.Push channel count) =
    machine.Push (record { channel = channel; number = count })
line_of queries (lines.Apply actor line protocol op) =
    machine.Apply (record { actor = actor; line = line; protocol = protocol; op = op })
line_of queries (lines.Show actor query) =
    machine.Show (record { actor = actor; table = asked_table queries query; query = query })

-- the lines of a phase, read backwards
abbrev pub phase_of : List Query → List Line → List machine.Line
phase_of queries phase = reverse (map (line_of queries) phase)

-- what the line asks is among so many queries
abbrev pub AsksWhatIs : ℕ → Line → Type 0
AsksWhatIs queries (lines.Take channel count) = ⊤
AsksWhatIs queries (lines.Push channel count) = ⊤
AsksWhatIs queries (lines.Apply actor line protocol op) = ⊤
AsksWhatIs queries (lines.Show actor query) = query < queries

-- what the line announces to a protocol is of the family of the protocol's table
abbrev pub FitsLine : Setup → Line → Type 0
FitsLine setup (lines.Take channel count) = ⊤
FitsLine setup (lines.Push channel count) = ⊤
FitsLine setup (lines.Apply actor line protocol op) = FitsProtocol setup protocol op
FitsLine setup (lines.Show actor query) = ⊤
