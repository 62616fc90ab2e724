-- Which texts are accepted (`IsSystem`), and where and why others are refused (`IsRefusedAt`): for
-- want of a token, by the grammar, or when they are checked.
-- From: own.
-- Example: a text with a bad token is refused there, whatever its statements before say.
use Rattle.std.specs.Prelude.{◌≡◌, ◌⊎◌, ℕ, List, Option, Some, None, ⊤}
use Rattle.conf_tree.specs.Position.{IsPlace}
use Rattle.conf_tree.specs.Read.{IsConfigText, IsRefusedText}
use Rattle.conf_tree.specs.View.{statements_tree}
use Rattle.conf_ast.specs.declared.kind.ConfKind.{ConfKind}
use Rattle.conf_ast.specs.declared.configurations.Statement.{Statement}
use Rattle.conf_ast.specs.Configurations as conf
use Rattle.conf_ast.specs.Configurations.{configuration_of}
use Rattle.conf_names.specs.declared.refusal.Refusal.{Refusal}
use Rattle.conf_check.specs.Behind.{at_start}
use Rattle.conf_check.specs.Refused.{refusal_of}
use Rattle.conf_system.specs.System.{System, system_in}
use Rattle.conf_system.specs.declared.read.SystemFault.{SystemFault}
use Rattle.conf_system.specs.declared.read.SystemFault.TheVariants as faults

-- the refusal of a configuration, which counts when nothing is refused before
unfoldable pub refused_in : (text : List ℕ) → List conf.Declaration → Option Refusal
refused_in text ds = refusal_of (at_start text) ds

-- The text is a configuration of these statements, in which nothing is refused.
pub record IsAcceptedText (text : List ℕ) (ds : List conf.Declaration) : Type 0 where
  pub statements : List Statement
  pub tree : IsConfigText text (statements_tree statements)
  pub are : configuration_of statements ≡ ds
  pub accepted : refused_in text ds ≡ None

-- the text is accepted and comes to this
abbrev pub IsSystem : List ℕ → System → Type 0
IsSystem text system = (ds : List conf.Declaration) × IsAcceptedText text ds
    × (system ≡ system_in text ds)

-- The text is a configuration by its grammar, and is refused at this byte when it is checked.
pub record IsRefusedWhenChecked (text : List ℕ) (at : ℕ) (kind : ConfKind) : Type 0 where
  pub statements : List Statement
  pub tree : IsConfigText text (statements_tree statements)
  pub refused : refused_in text (configuration_of statements)
      ≡ Some (record { at = at; kind = kind })

-- the text is refused so, in this line and column
abbrev pub IsRefusedAt : List ℕ → ℕ → ℕ → ConfKind → Type 0
IsRefusedAt text line column kind = (at : ℕ)
    × (IsRefusedText text at kind ⊎ IsRefusedWhenChecked text at kind)
    × IsPlace text at line column

abbrev pub IsFault : List ℕ → SystemFault → Type 0
IsFault text (faults.Refused line column kind) = IsRefusedAt text line column kind
IsFault text faults.Memory = ⊤
