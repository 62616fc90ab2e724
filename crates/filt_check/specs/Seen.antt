-- For private contracts alone: parts of checked trees beside what they stand for.
use Rattle.std.specs.Prelude.{ℕ, List, [], ◌∷◌, ◌++◌, map, Option, Some, None, Result}
use Rattle.std.specs.Prelude.{Vec}
use Rattle.std.specs.Global.{Global}
use Rattle.conf_ast.specs.declared.filters.Arm.{Arm}
use Rattle.conf_ast.specs.declared.filters.Parameter.{Parameter}
use Rattle.conf_ast.specs.declared.filters.Stmt.{Stmt}
use Rattle.conf_ast.specs.Filters.{statement_of, statements_of}
use Rattle.filt_meaning.specs.declared.value.Failure.{Failure}
use Rattle.filt_meaning.specs.declared.value.Sort.{Sort}
use Rattle.filt_meaning.specs.Operators.{and_then}
use Rattle.filt_meaning.specs.Values.{Val}
use Rattle.filt_meaning.specs.Flow.{Accepted, Rejected, Run}
use Rattle.filt_meaning.specs.Items.{among, set_of}
use Rattle.filt_meaning.specs.Meaning.{Act, act, acts, all_declared, arm, choice, in_turn, nothing}
use Rattle.filt_meaning.specs.Meaning.{stop}
use Rattle.filt_meaning.specs.Names.{Context, Variable, sort_of_type}
use Rattle.filt_meaning.specs.declared.tree.TArm.{TArm}
use Rattle.filt_meaning.specs.declared.tree.TStmt.{TStmt}
use Rattle.filt_meaning.specs.Trees.{Tables, body, set_of_labels}
use Rattle.filt_check.specs.declared.collect.Declared.{Declared}

-- ---- variables that statements declare

abbrev pub name_of : Declared → List ℕ
name_of v = v.name.now

abbrev pub sort_of : Declared → Sort
sort_of v = v.sort

abbrev pub variable_of : Declared → Variable
variable_of v = (v.name.now, v.sort)

abbrev pub variables_of : List Declared → List Variable
variables_of vs = map variable_of vs

abbrev pub sorts_in : List Variable → List Sort
sorts_in vs = map (λ (v : Variable). v.1) vs

abbrev pub arm_declares : List ℕ → Arm Stmt → List Variable
arm_declares text a = all_declared text (statements_of a.body.items)

abbrev pub arms_declare : List ℕ → List (Arm Stmt) → List Variable
arms_declare text [] = []
arms_declare text (a ∷ more) = arm_declares text a ++ arms_declare text more

abbrev pub otherwise_declares : List ℕ → Option (Vec Stmt Global) → List Variable
otherwise_declares text None = []
otherwise_declares text (Some body) = all_declared text (statements_of body.items)

abbrev pub parameter_sort : Parameter → Sort
parameter_sort p = sort_of_type p.variable_type

abbrev pub parameter_sorts : List Parameter → List Sort
parameter_sorts parameters = map parameter_sort parameters

-- ---- parts of statements

abbrev pub acts_in : Context → List Stmt → List Act
acts_in c ss = map (λ s. act (statement_of s) c) ss

-- the set of an arm's labels, and what is done where it has the value
abbrev pub Branch : Type 0
Branch = Result Val Failure × Act

abbrev pub arm_in : Context → Arm Stmt → Branch
arm_in c a = (set_of c a.labels.items, acts (statements_of a.body.items) c)

abbrev pub arms_in : Context → List (Arm Stmt) → List Branch
arms_in c arms = map (arm_in c) arms

abbrev pub arm_seen : Tables → TArm TStmt → Branch
arm_seen t a = (set_of_labels a.labels, body t a.body.items)

abbrev pub arms_seen : Tables → List (TArm TStmt) → List Branch
arms_seen t arms = map (arm_seen t) arms

abbrev pub otherwise_in : Context → Option (Vec Stmt Global) → Act
otherwise_in c None = nothing
otherwise_in c (Some body) = acts (statements_of body.items) c

-- the first arm that has the value, and none behind it
abbrev pub picked : List Branch → (otherwise : Act) → Val → Act
picked [] otherwise v = otherwise
picked (a ∷ more) otherwise v =
    arm (and_then a.0 (λ set. among set v)) a.1 (picked more otherwise v)

-- what accepts where a value holds, and rejects elsewhere
abbrev pub where_act : Run Val → Act
where_act a = in_turn (choice a (stop Accepted) nothing) (in_turn (stop Rejected) nothing)
