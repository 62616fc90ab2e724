-- For the laws: all that is refused of a configuration (`gathered`), each statement over what is
-- declared before it.
-- From: own.
-- Example: two statements of one unknown name are two refusals.
use Rattle.std.specs.Prelude.{List, [], ◌∷◌, ◌++◌}
use Rattle.conf_ast.specs.Configurations as conf
use Rattle.conf_names.specs.declared.refusal.Refusal.{Refusal}
use Rattle.conf_names.specs.Known.{Known}
use Rattle.conf_rules.specs.Statements.{refusals}
use Rattle.conf_check.specs.Behind.{behind_one}

-- what is refused of each of these statements, over what is declared before it
abbrev pub gathered : Known → List conf.Declaration → List Refusal
gathered known [] = []
gathered known (d ∷ ds) = refusals known d ++ gathered (behind_one known d) ds
