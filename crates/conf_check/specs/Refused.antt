-- Which refusal of a configuration counts (`refusal_of`): the first of the first statement that is
-- refused. The bytes of statements follow each other, so it is the first by place of all that there
-- are.
-- From: own.
-- Example: a later statement's refusal is never told where an earlier one has one.
use Rattle.std.specs.Prelude.{◌≡◌, List, [], ◌∷◌, Option, Some, None, ⊤}
use Rattle.conf_ast.specs.declared.kind.ConfFault.{ConfFault}
use Rattle.conf_ast.specs.declared.kind.ConfFault.TheVariants as faults
use Rattle.conf_ast.specs.Configurations as conf
use Rattle.conf_names.specs.declared.refusal.Refusal.{Refusal}
use Rattle.conf_names.specs.Known.{Known}
use Rattle.conf_names.specs.Refusals.{first_in}
use Rattle.conf_rules.specs.Statements.{refusals}
use Rattle.conf_check.specs.Behind.{behind_one}

abbrev pub or_later : Option Refusal → Option Refusal → Option Refusal
or_later None later = later
or_later (Some r) later = Some r

-- the refusal of these statements behind what is declared
abbrev pub refusal_of : Known → List conf.Declaration → Option Refusal
refusal_of known [] = None
refusal_of known (d ∷ ds) =
    or_later (first_in None (refusals known d)) (refusal_of (behind_one known d) ds)

-- The fault tells this refusal. Want of memory may come wherever something is checked, and tells
-- nothing.
abbrev pub IsFault : ConfFault → Option Refusal → Type 0
IsFault (faults.Refused at kind) first = first ≡ Some (record { at = at; kind = kind })
IsFault faults.Memory first = ⊤
