-- What is refused of whole filters and functions, which are refused too where they are too heavy
-- (`of_filter`, `of_function`), and what the declaration of a function says of it (`signature_in`).
-- From: BIRD User's Guide, "Filters"; the limit of weight: own.
-- Example: a function that weighs over 10,000,000 is refused at its name.
use Rattle.std.specs.Prelude.{ℕ, List, ◌++◌, map}
use Rattle.conf_ast.specs.declared.filters.Parameter.{Parameter}
use Rattle.conf_ast.specs.Configurations.{Routine}
use Rattle.conf_ast.specs.Filters.{Statements}
use Rattle.filt_meaning.specs.Names.{sort_of_type}
use Rattle.filt_types.specs.declared.refusal.Refusal.{Refusal}
use Rattle.filt_types.specs.Scenes.{Scene, Signature}
use Rattle.filt_types.specs.Statements.{in_filter, in_function, sort_given}
use Rattle.filt_types.specs.Weight.{block_weight, capped, too_heavy}

-- what is refused of a filter with these statements, which is refused at this place if it is too
-- heavy
abbrev pub of_filter : Scene → (at : ℕ) → Statements → List Refusal
of_filter scene at ss = too_heavy at (block_weight scene ss) ++ in_filter scene ss

-- what is refused of a function, which is refused at its name if it is too heavy
abbrev pub of_function : Scene → Routine → List Refusal
of_function scene f = too_heavy f.name.at (block_weight scene f.body) ++ in_function scene f

-- what a function takes, gives and weighs, as its declaration says
abbrev pub signature_in : Scene → Routine → Signature
signature_in scene f = record {
  parameters = map (λ (p : Parameter). sort_of_type p.variable_type) f.parameters;
  gives = sort_given f.gives;
  weight = capped (block_weight scene f.body);
}
