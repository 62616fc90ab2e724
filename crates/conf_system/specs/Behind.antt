-- For the laws: what there is behind statements of a configuration: for the rules, where filters
-- run, and where their steps are counted (`scene_behind`, `context_behind`, `counts_behind`).
-- From: own.
-- Example: behind `define n = 5;` a filter sees the constant `n`, whatever the route.
use Rattle.std.specs.Prelude.{ℕ, List, []}
use Rattle.conf_ast.specs.Configurations as conf
use Rattle.filt_meaning.specs.Configuration as meaning
use Rattle.filt_meaning.specs.Names.{Around, Context}
use Rattle.filt_types.specs.Scenes.{Scene}
use Rattle.filt_steps.specs.Configured as counted
use Rattle.filt_steps.specs.Steps.{Counts}
use Rattle.conf_check.specs.Behind.{at_start, behind}

-- what the rules of filters see
abbrev pub scene_behind : (text : List ℕ) → (before : List conf.Declaration) → Scene
scene_behind text before = (behind (at_start text) before).scene

-- what filters see that run there, whatever is around the route
abbrev pub context_behind : (text : List ℕ) → Around → (before : List conf.Declaration) → Context
context_behind text around before = meaning.behind (meaning.at_start text around) before

-- what functions take there
abbrev pub counts_behind : (text : List ℕ) → Around → (before : List conf.Declaration) → Counts
counts_behind text around before =
    counted.counts_behind (meaning.at_start text around) [] before
