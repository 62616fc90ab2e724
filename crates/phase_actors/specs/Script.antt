-- What the lines of a phase name: a protocol or a query that is there (`NamesWhatIs`). The journal of
-- a table is of the table's family (`IsTableOf`).
-- Not modelled: lines that drive a channel by hand, which actors pass by.
-- From: own.
-- Example: `@p1 add 10.0.0.0/8` names what is there where p1 is played.
use Rattle.std.specs.Prelude.{◌≡◌, ◌<◌, ℕ, List, length, ⊤}
use Rattle.atomic_table.specs.Seated.{TableId}
use Rattle.bits_ip.specs.declared.address.Family.{Family}
use Rattle.jour_rule.specs.declared.views.Terms.{Terms}
use Rattle.script_lines.specs.declared.script.Line.{Line}
use Rattle.script_lines.specs.declared.script.Line.TheVariants as lines
use Rattle.core_setup.specs.Setup.{Setup}
use Rattle.table_shared.specs.Opening.{TableOpening}

-- the journal of a table is of its family
abbrev pub IsTableOf : List ℕ × Family → TableId × Terms TableOpening → Type 0
IsTableOf table journal = journal.1.opening.family ≡ table.1

-- there is a protocol of this number
abbrev pub NamesProtocol : Setup → ℕ → Type 0
NamesProtocol setup protocol = protocol < length setup.protocols

-- the line names a protocol or a query that is there
abbrev pub NamesWhatIs : Setup → Line → Type 0
NamesWhatIs setup (lines.Take channel count) = ⊤
NamesWhatIs setup (lines.Push channel count) = ⊤
NamesWhatIs setup (lines.Apply actor line protocol op) = NamesProtocol setup protocol
NamesWhatIs setup (lines.Show actor query) = query < length setup.queries
