-- What a condition asks for that stands in a text of its own, as `where` of `show route` does
-- (`asked_behind`): the routes that it accepts, seen from behind the whole configuration.
-- From: BIRD User's Guide, "Remote control", `show route`; "Filters".
-- Example: over `define A = 5;` the condition `bgp_med = A` asks for the routes of that MED; `A`
-- alone is no truth value and `B` no name: both are refused.
use Rattle.std.specs.Prelude.{ℕ, List, [], ◌∷◌}
use Rattle.conf_ast.specs.Configurations as conf
use Rattle.conf_ast.specs.Filters.{Expression}
use Rattle.filt_meaning.specs.Configuration.{filter_where, verdict_where}
use Rattle.filt_types.specs.declared.refusal.Refusal.{Refusal}
use Rattle.filt_types.specs.Scenes.{Scene}
use Rattle.filt_types.specs.Refused.{of_filter}
use Rattle.conf_check.specs.Behind.{at_start, behind}
use Rattle.conf_system.specs.Policies.{Filter}

-- Nothing where the condition is refused, else the routes that this filter accepts.
pub data Asked : Type 0 where
  Refuses : Asked
  Asks : Filter → Asked

abbrev pub unless_refused : List Refusal → Filter → Asked
unless_refused [] f = Asks f
unless_refused (r ∷ more) f = Refuses

-- the same names over another text
abbrev pub scene_over : Scene → (text : List ℕ) → Scene
scene_over scene text = record {
  text = text;
  constants = scene.constants;
  functions = scene.functions;
  others = scene.others;
}

-- A condition is refused as the filter `where` of it would be at its place in the configuration.
unfoldable pub asked_behind : (text : List ℕ) → (names : List (List ℕ)) → List conf.Declaration
    → (condition_text : List ℕ) → Expression → Asked
asked_behind text names ds condition_text e =
    unless_refused
    (of_filter (scene_over (behind (at_start text) ds).scene condition_text) 0 (filter_where e))
    (verdict_where text ds names condition_text e)
