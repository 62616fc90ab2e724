-- The words of the command line, as a command (`command_of`), which files it names (`files_of`), how
-- many changes a journal is to hold (`cells_in`), and how much of a report is written (`form_of`).
-- From: own; numbers as Rust's `u64` reads them.
-- Example: `check a`, `check a b`, `play a b`, `play a b --journal +5`, both plays with `-q` behind
-- them, and all four with `run` for `play` are commands; `play a`, `check a b -q`, `play -q a b`,
-- `--journal 0` and `--journal 4097` are none.
use Rattle.std.specs.Prelude.{◌&&◌, ◌==◌, not, nat_le, ℕ, Bool, true, List, [], ◌∷◌, length, map, String, Option, Some, None, codes, if◌then◌else◌}
use Rattle.std.specs.Str.{all_ascii_digits, bytes_eq}
use Rattle.std.specs.Str.Parse.{digits_value, without_leading_plus}
use Rattle.std.specs.String.{string_bytes}
use Rattle.std.specs.declared.alloc.Global.{Global}
use Rattle.report.specs.declared.phase.Form.{Form}
use Rattle.report.specs.declared.phase.Form.TheVariants.{Whole, Quiet}
use Rattle.birdcore_top.specs.declared.words.Asked.{Asked}
use Rattle.birdcore_top.specs.declared.words.Asked.TheVariants as asked

pub data Command : Type 0 where
  -- play CONF SCRIPT: the names of the two files, how many changes the journal of a table holds for
  -- the channels that are still to take them, and how much of the report is written
  Play : (conf : List ℕ) → (script : List ℕ) → (cells : ℕ) → (form : Form) → Command
  -- run CONF SCRIPT, with the same: but which channel works when, and in which order lines of
  -- several actors come, isn't the script's to say
  Run : (conf : List ℕ) → (script : List ℕ) → (cells : ℕ) → (form : Form) → Command
  -- check CONF, or check CONF SCRIPT
  Check : (conf : List ℕ) → (script : Option (List ℕ)) → Command

-- ---- files

abbrev pub conf_of : Command → List ℕ
conf_of (Play conf script cells form) = conf
conf_of (Run conf script cells form) = conf
conf_of (Check conf script) = conf

abbrev pub script_of : Command → Option (List ℕ)
script_of (Play conf script cells form) = Some script
script_of (Run conf script cells form) = Some script
script_of (Check conf script) = script

-- their names, in the order in which they are read
abbrev pub files_of : Command → List (List ℕ)
files_of (Play conf script cells form) = conf ∷ script ∷ []
files_of (Run conf script cells form) = conf ∷ script ∷ []
files_of (Check conf None) = conf ∷ []
files_of (Check conf (Some script)) = conf ∷ script ∷ []

-- ---- what is written

-- how much of each phase
abbrev pub form_of : Option Command → Form
form_of None = Whole
form_of (Some (Play conf script cells form)) = form
form_of (Some (Run conf script cells form)) = form
form_of (Some (Check conf script)) = Whole

-- ---- words

-- how many it holds where nothing is said, and at most
abbrev pub usual_cells : ℕ
usual_cells = 256

abbrev pub most_cells : ℕ
most_cells = 4096

-- decimal digits, perhaps behind a plus sign, of a number from 1 to the most
abbrev pub spells_cells : List ℕ → Bool
spells_cells word =
    let digits = without_leading_plus word in
    (not (length digits == 0) && all_ascii_digits digits)
    && (nat_le 1 (digits_value 10 digits) && nat_le (digits_value 10 digits) most_cells)

abbrev pub cells_in : List ℕ → Option ℕ
cells_in word =
    if spells_cells word then Some (digits_value 10 (without_leading_plus word)) else None

-- the name of a file: a word that a minus sign begins is an option, but for that sign alone
abbrev pub is_file : List ℕ → Bool
is_file (first ∷ next ∷ word) = not (first == 45)
is_file word = true

-- one file behind the command's name
abbrev pub asked_of_one : List ℕ → List ℕ → Option Command
asked_of_one word conf =
    if bytes_eq word (codes "check") && is_file conf then Some (Check conf None) else None

-- a command that writes reports, by its name
abbrev pub played_by : List ℕ → List ℕ → List ℕ → ℕ → Form → Option Command
played_by word conf script cells form =
    if bytes_eq word (codes "play") then Some (Play conf script cells form)
    else (if bytes_eq word (codes "run") then Some (Run conf script cells form) else None)

-- two files
abbrev pub asked_of_two : List ℕ → List ℕ → List ℕ → Option Command
asked_of_two word conf script =
    if is_file conf && is_file script
    then (if bytes_eq word (codes "check") then Some (Check conf (Some script))
    else played_by word conf script usual_cells Whole)
    else None

-- two files and an option, which is the last word
abbrev pub asked_of_three : List ℕ → List ℕ → List ℕ → List ℕ → Option Command
asked_of_three word conf script last =
    if bytes_eq last (codes "-q") && (is_file conf && is_file script)
    then played_by word conf script usual_cells Quiet
    else None

abbrev pub played_with : List ℕ → List ℕ → List ℕ → Form → Option ℕ → Option Command
played_with word conf script form None = None
played_with word conf script form (Some cells) = played_by word conf script cells form

-- two files, an option and its value
abbrev pub asked_of_four : List ℕ → List ℕ → List ℕ → List ℕ → List ℕ → Option Command
asked_of_four word conf script option number =
    if bytes_eq option (codes "--journal") && (is_file conf && is_file script)
    then played_with word conf script Whole (cells_in number)
    else None

-- the same with one more behind it
abbrev pub asked_of_five :
    List ℕ → List ℕ → List ℕ → List ℕ → List ℕ → List ℕ → Option Command
asked_of_five word conf script option number last =
    if (bytes_eq option (codes "--journal") && bytes_eq last (codes "-q"))
    && (is_file conf && is_file script)
    then played_with word conf script Quiet (cells_in number)
    else None

-- the command that these words are, and none where they are misused
abbrev pub command_in : List (List ℕ) → Option Command
command_in (word ∷ conf ∷ []) = asked_of_one word conf
command_in (word ∷ conf ∷ script ∷ []) = asked_of_two word conf script
command_in (word ∷ conf ∷ script ∷ last ∷ []) = asked_of_three word conf script last
command_in (word ∷ conf ∷ script ∷ option ∷ number ∷ []) =
    asked_of_four word conf script option number
command_in (word ∷ conf ∷ script ∷ option ∷ number ∷ last ∷ []) =
    asked_of_five word conf script option number last
command_in words = None

abbrev pub command_of : List (String Global) → Option Command
command_of words = command_in (map string_bytes words)

-- for the contracts of private functions: the command that is asked for so
abbrev pub command_asked : Asked → Command
command_asked (asked.Play conf script cells form) = Play conf.now script.now cells form
command_asked (asked.Run conf script cells form) = Run conf.now script.now cells form
command_asked (asked.CheckOne conf) = Check conf.now None
command_asked (asked.CheckBoth conf script) = Check conf.now (Some script.now)
