-- What is asked of phases that are given to be played or run: their lines ask for what there is
-- (`AskWhatIs`), name what there is (`NameSome`) and fit the tables (`FitTables`).
-- From: own.
-- Example: the worked run of docs/DEFINITIONS.md.
use Rattle.std.specs.Prelude.{ℕ, List}
use Rattle.std.specs.List.{All}
use Rattle.core_setup.specs.Setup.{Setup}
use Rattle.script_lines.specs.declared.script.Line.{Line}
use Rattle.sys_run.specs.Scripts.{AsksWhatIs, FitsLine}
use Rattle.sys_threads.specs.Running.{NamesSome}

-- each line of these phases asks for what there is, of so many queries
abbrev pub AskWhatIs : ℕ → List (List Line) → Type 0
AskWhatIs queries phases = All (All (AsksWhatIs queries)) phases

-- the line is of one of so many actors, and names a protocol or a query that is there
abbrev pub LineNamesSome : ℕ → Setup → Line → Type 0
LineNamesSome actors setup line = NamesSome actors setup line

-- so is each line of these phases
abbrev pub NameSome : Setup → ℕ → List (List Line) → Type 0
NameSome setup actors phases = All (All (LineNamesSome actors setup)) phases

-- what each line of these phases announces is of the family of its protocol's table
abbrev pub FitTables : Setup → List (List Line) → Type 0
FitTables setup phases = All (All (FitsLine setup)) phases
