-- What a command and its files come to (`Outcome`, by `IsPossible` and `IsRequired`): the one thing
-- that the program has to answer; which files decide it (`files_read`). A check comes to what a play
-- of the same files does, but that they are accepted in place of played; and so does a run, but that
-- a `!` line of its script is refused.
-- Not modelled: what files hold that isn't told: `IsPossible` asks nothing of them, and
-- `IsRequired` is false of all that rests on them. Over a shelf that tells its files both say the
-- same (the law `files_have_one_outcome`).
-- From: own.
-- Example: a refused configuration decides alone, whatever the script is, and alike for all
-- commands.
use Rattle.std.specs.Prelude.{◌≡◌, ℕ, ◌≤◌, ◌⊎◌, Bool, true, false, List, [], ◌∷◌, length, Option, Some, None, IfSome, IsSomeAnd}
use Rattle.conf_ast.specs.declared.kind.ConfKind.{ConfKind}
use Rattle.outside_io.specs.Whole.{limit, IsLong}
use Rattle.core_setup.specs.Setup.{Setup}
use Rattle.script_lines.specs.declared.faults.ScriptKind.{ScriptKind}
use Rattle.script_lines.specs.declared.script.Line.{Line}
use Rattle.show_route.specs.declared.query.Query.{Query}
use Rattle.sys_build.specs.Scripts as script_answers
use Rattle.sys_build.specs.Scripts.{Answers}
use Rattle.sys_build.specs.Setups.{IsPlayable, setup_of}
use Rattle.conf_system.specs.Policies.{Filter}
use Rattle.conf_system.specs.System.{System}
use Rattle.conf_system.specs.Texts.{IsRefusedAt, IsSystem}
use Rattle.birdcore_top.specs.Command.{Command, Play, Run, Check, conf_of, files_of, usual_cells}

pub data Outcome : Type 0 where
  Misused : Outcome  -- the words are no command
  OverLimit : List ℕ → Outcome  -- the file of this name is over the limit
  Refused : ℕ → ℕ → ConfKind → Outcome  -- the configuration is refused in this line and column
  BadLine : ℕ → ScriptKind → Outcome  -- this line of the script is refused
  Played : Setup → List (List ℕ) → List (List Line) → Outcome  -- actors and phases are played
  Accepted : Outcome  -- what was to be checked is accepted

-- ---- files

-- the bytes held under each name, where they are told
abbrev pub Held : Type 0
Held = List ℕ → Option (List ℕ)

-- How something is said of a file: as far as it is told (IfSome), or of one that is (IsSomeAnd).
abbrev pub Knowledge : Type 1
Knowledge = Option (List ℕ) → (List ℕ → Type 0) → Type 0

-- the file is within the limit, and this holds of it
abbrev pub Within : (List ℕ → Type 0) → List ℕ → Type 0
Within P file = (length file ≤ limit) × P file

-- the file is accepted, and comes to this
abbrev pub Configures : System → List ℕ → Type 0
Configures system = Within (λ file. IsSystem file system)

abbrev pub IsAccepted : List ℕ → Type 0
IsAccepted file = (system : System) × Configures system file

-- what an accepted file within the limit comes to
abbrev pub IsConfigured : System → Type 0
IsConfigured system = (file : List ℕ) × Configures system file

-- ---- outcomes

-- what the configuration of this name gives without the script
abbrev pub ConfGives : Knowledge → List ℕ → Option (List ℕ) → Outcome → Type 0
ConfGives known name conf (OverLimit word) = (word ≡ name) × known conf IsLong
ConfGives known name conf (Refused line column kind) =
    known conf (Within (λ file. IsRefusedAt file line column kind))
ConfGives known name conf _ = ⊥

-- A script, which may schedule or may not, is played: its phases and actors, over what the
-- configuration gives to play with the script's queries and what its conditions accept. Some text is
-- this script, and the file is, where it is told.
pub record IsPlayed
    (known : Knowledge) (system : System) (schedule : Bool) (cells : ℕ)
    (script : Option (List ℕ)) (setup : Setup) (actors : List (List ℕ))
    (phases : List (List Line)) : Type 0 where
  pub queries : List Query
  pub conditions : List Filter
  pub setup_is : setup ≡ setup_of system cells conditions queries
  pub text : List ℕ
  pub is_script :
      Answers system schedule text (script_answers.Accepted phases actors queries conditions)
  pub told : known script (Within (λ file. Answers system schedule file
      (script_answers.Accepted phases actors queries conditions)))

-- what the script of this name gives over a configuration
abbrev pub ScriptGives :
    Knowledge → System → (schedule : Bool) → ℕ → List ℕ → Option (List ℕ) → Outcome → Type 0
ScriptGives known system schedule cells name script (OverLimit word) =
    (word ≡ name) × known script IsLong
ScriptGives known system schedule cells name script (BadLine line kind) =
    known script (Within (λ text. Answers system schedule text (script_answers.Refused line kind)))
ScriptGives known system schedule cells name script (Played setup actors phases) =
    IsPlayed known system schedule cells script setup actors phases
ScriptGives known system schedule cells name script _ = ⊥

-- The configuration comes first, and the script only where the configuration is accepted.
abbrev pub PlayGives :
    Knowledge → (schedule : Bool) → List ℕ → List ℕ → ℕ → Held → Outcome → Type 0
PlayGives known schedule conf script cells held o =
    ConfGives known conf (held conf) o
    ⊎ ((system : System) × IsPlayable system × known (held conf) (Configures system)
    × ScriptGives known system schedule cells script (held script) o)

-- What can be played is accepted, and what can't is refused as it is then.
abbrev pub IsCheckOf : (Outcome → Type 0) → Outcome → Type 0
IsCheckOf play Accepted = (setup : Setup) × (actors : List (List ℕ))
    × (phases : List (List Line)) × play (Played setup actors phases)
IsCheckOf play (Played setup actors phases) = ⊥
IsCheckOf play o = play o

-- what a configuration gives that is checked alone
abbrev pub CheckGives : Knowledge → List ℕ → Option (List ℕ) → Outcome → Type 0
CheckGives known name conf Accepted = known conf IsAccepted
CheckGives known name conf o = ConfGives known name conf o

-- what a command gives over files, and words that are none
abbrev pub Gives : Knowledge → Option Command → Held → Outcome → Type 0
Gives known None held o = o ≡ Misused
Gives known (Some (Play conf script cells form)) held o =
    PlayGives known true conf script cells held o
Gives known (Some (Run conf script cells form)) held o =
    PlayGives known false conf script cells held o
Gives known (Some (Check conf None)) held o = CheckGives known conf (held conf) o
Gives known (Some (Check conf (Some script))) held o =
    IsCheckOf (PlayGives known true conf script usual_cells held) o

-- This may be due, as far as the files are told,
abbrev pub IsPossible : Option Command → Held → Outcome → Type 0
IsPossible = Gives IfSome

-- and is, by files that are told.
abbrev pub IsRequired : Option Command → Held → Outcome → Type 0
IsRequired = Gives IsSomeAnd

-- the names of the files that decide an outcome, in the order in which they are read
abbrev pub files_read : Command → Outcome → List (List ℕ)
files_read command Misused = []
files_read command (OverLimit name) = conf_of command ∷ name ∷ []
files_read command (Refused line column kind) = conf_of command ∷ []
files_read command (BadLine line kind) = files_of command
files_read command (Played setup actors phases) = files_of command
files_read command Accepted = files_of command
