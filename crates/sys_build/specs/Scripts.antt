-- What a text is as a script over a system (`Answers`): a script whose conditions ask for what these
-- filters accept, or where and why it is refused. Its lines are read by the names that the system
-- has (script_lines); conditions, which stand behind `where`, are judged here, and as the last of a
-- line: the first line counts that is refused for any kind. Some scripts may schedule, by `!` lines,
-- and of others such a line is refused.
-- Not modelled: what is done with queries (core_setup).
-- From: own.
-- Example: of `@x show route where 1` alone the line 1 is refused as an expression, and so it is of
-- these and a line `@y nope`; of `@y nope` and these the line 1 is refused as Syntax.
use Rattle.std.specs.Prelude.{◌≡◌, ◌⊎◌, ⊤, ℕ, Bool, List, [], ◌∷◌, ◌++◌}
use Rattle.show_route.specs.declared.query.Query.{Query}
use Rattle.script_lines.specs.Script as lines
use Rattle.script_lines.specs.declared.faults.ScriptKind.{ScriptKind}
use Rattle.script_lines.specs.declared.faults.ScriptKind.TheVariants.{Expression}
use Rattle.script_lines.specs.declared.script.Condition.{Condition}
use Rattle.script_lines.specs.declared.script.Line.{Line}
use Rattle.sys_build.specs.Names.{named_of}
use Rattle.sys_build.specs.declared.scripts.ReadFault.{ReadFault}
use Rattle.sys_build.specs.declared.scripts.ReadFault.TheVariants as faults
use Rattle.conf_system.specs.Conditions.{IsCondition, RefusesCondition}
use Rattle.conf_system.specs.Policies.{Filter}
use Rattle.conf_system.specs.System.{System}

-- each of these conditions asks for the routes that the filter in its place accepts
abbrev pub AreAsked : System → List Condition → List Filter → Type 0
AreAsked system [] [] = ⊤
AreAsked system (condition ∷ more) (filter ∷ filters) =
    IsCondition system condition.text filter × AreAsked system more filters
AreAsked system _ _ = ⊥

-- Of these conditions the one of this line is refused, and it is the first.
pub record IsFirstRefused (system : System) (conditions : List Condition) (line : ℕ) : Type 0 where
  pub front : List Condition
  pub filters : List Filter
  pub bad : Condition
  pub rest : List Condition
  pub whole : conditions ≡ front ++ bad ∷ rest
  pub front_are : AreAsked system front filters
  pub bad_is : RefusesCondition system bad.text
  pub line_is : line ≡ bad.line

-- The text is a script of these phases, actors and queries, whose conditions ask for what these
-- filters accept.
pub record IsScriptOf
    (system : System) (schedule : Bool) (text : List ℕ) (phases : List (List Line))
    (actors : List (List ℕ)) (queries : List Query) (filters : List Filter) : Type 0 where
  pub conditions : List Condition
  pub lines_are :
      lines.Answers (named_of system schedule) text
      (lines.Accepted phases actors queries conditions)
  pub asked : AreAsked system conditions filters

-- The line of this number is refused for what its words say, and the conditions before it are
-- conditions.
pub record IsRefusedByWords
    (system : System) (schedule : Bool) (text : List ℕ) (line : ℕ) (kind : ScriptKind)
    : Type 0 where
  pub conditions : List Condition
  pub filters : List Filter
  pub lines_are :
      lines.Answers (named_of system schedule) text (lines.Refused line kind conditions)
  pub asked : AreAsked system conditions filters

-- the conditions of lines that aren't refused for their words: of all, or of those before one that is
abbrev pub conditions_in : lines.Answer → List Condition
conditions_in (lines.Accepted phases actors queries conditions) = conditions
conditions_in (lines.Refused number kind conditions) = conditions

-- The line of this number is refused for its condition, and no line before it is.
pub record IsRefusedByCondition
    (system : System) (schedule : Bool) (text : List ℕ) (line : ℕ) : Type 0 where
  pub answer : lines.Answer
  pub lines_are : lines.Answers (named_of system schedule) text answer
  pub first : IsFirstRefused system (conditions_in answer) line

-- the line of this number is refused for this kind, and it is the first that is
abbrev pub IsRefusedOf : System → (schedule : Bool) → List ℕ → ℕ → ScriptKind → Type 0
IsRefusedOf system schedule text line kind =
    IsRefusedByWords system schedule text line kind
    ⊎ ((kind ≡ Expression) × IsRefusedByCondition system schedule text line)

-- What is answered of a text.
pub data Answer : Type 0 where
  Accepted : (phases : List (List Line)) → (actors : List (List ℕ)) → (queries : List Query)
      → (filters : List Filter) → Answer
  Refused : (line : ℕ) → (kind : ScriptKind) → Answer

-- This is the answer, of a script that may schedule or may not.
abbrev pub Answers : System → (schedule : Bool) → List ℕ → Answer → Type 0
Answers system schedule text (Accepted phases actors queries filters) =
    IsScriptOf system schedule text phases actors queries filters
Answers system schedule text (Refused line kind) = IsRefusedOf system schedule text line kind

-- The fault tells the answer, but for want of memory.
abbrev pub Tells : System → (schedule : Bool) → List ℕ → ReadFault → Type 0
Tells system schedule text (faults.Refused line kind) =
    Answers system schedule text (Refused line kind)
Tells system schedule text faults.Memory = ⊤

-- ---- for private contracts

-- the fault tells that this condition is refused, but for want of memory
abbrev pub TellsOne : System → Condition → ReadFault → Type 0
TellsOne system condition (faults.Refused line kind) =
    (kind ≡ Expression) × RefusesCondition system condition.text × (line ≡ condition.line)
TellsOne system condition faults.Memory = ⊤

-- the fault tells the first of these conditions that is refused, but for want of memory
abbrev pub TellsFirst : System → List Condition → ReadFault → Type 0
TellsFirst system conditions (faults.Refused line kind) =
    (kind ≡ Expression) × IsFirstRefused system conditions line
TellsFirst system conditions faults.Memory = ⊤
