-- What a scope declares, as the rules of types and the meaning of filters see it (`context_of`):
-- constants with their values, functions with what their checked trees do.
-- From: own.
-- Example: behind `define A = 5;` the constant `A` is 5.
use Rattle.std.specs.Prelude.{ℕ, List, [], ◌∷◌, ◌++◌, map, Vec}
use Rattle.std.specs.Global.{Global}
use Rattle.std.specs.HashMap.{values}
use Rattle.filt_meaning.specs.declared.fixed.Fixed.{Fixed}
use Rattle.filt_meaning.specs.Seen.{val_of_fixed}
use Rattle.filt_meaning.specs.Values.{Val}
use Rattle.filt_meaning.specs.Names.{Around, Context, Doing}
use Rattle.filt_meaning.specs.declared.scope.Scope.{Scope}
use Rattle.filt_meaning.specs.declared.scope.TFunction.{TFunction}
use Rattle.filt_meaning.specs.Trees.{Tables, tables, judged}

-- the constants, with their values
abbrev pub constants_in : Scope → List (List ℕ × Val)
constants_in scope = map (λ e. (e.0.items, val_of_fixed e.1)) scope.constants.entries

-- the names of the functions, by their numbers
abbrev pub function_names : Scope → List (List ℕ)
function_names scope = map (λ e. e.0.items) scope.functions.entries

abbrev pub constant_values : Scope → List Fixed
constant_values scope = map (λ e. e.1) scope.constants.entries

abbrev pub function_trees : Scope → List TFunction
function_trees scope = map (λ e. e.1) scope.functions.entries

-- what its constants are and its functions do, around a route
abbrev pub tables_of : Around → Scope → Tables
tables_of around scope = tables around (constant_values scope) (function_trees scope)

-- names and what they stand for, in one order
abbrev pub named : {A : Type 0} → List (List ℕ) → List A → List (List ℕ × A)
named [] more = []
named (n ∷ ns) [] = []
named (n ∷ ns) (a ∷ more) = (n, a) ∷ named ns more

-- what the meaning of filters sees at a place where the scope declares what there is, and these
-- variables are seen
abbrev pub context_of : List ℕ → Around → Scope → List (List ℕ) → Context
context_of text around scope variables = record {
  text = text;
  around = around;
  constants = constants_in scope;
  functions = named (function_names scope) (tables_of around scope).functions;
  variables = variables;
}
