-- What is refused in statements, and which variables are seen behind them (`check`, a line for each
-- form); what is refused in filters and functions (`in_filter`, `in_function`). How to read it:
-- docs/DEFINITIONS.md.
-- From: BIRD User's Guide, "Filters"; where the guide is silent, own.
-- Example: `if 1 then accept;` is refused at the 1, `net = 10.0.0.0/8;` at `net`.
use Rattle.std.specs.Prelude.{ℕ, Bool, true, false, not, ◌&&◌, ◌||◌, if◌then◌else◌, List, [], ◌∷◌}
use Rattle.std.specs.Prelude.{◌++◌, length, remove, Option, Some, None}
use Rattle.conf_ast.specs.declared.named.Name.{Name}
use Rattle.conf_ast.specs.declared.attribute.Attribute.TheVariants as attributes
use Rattle.conf_ast.specs.declared.attribute.Constant.{Constant}
use Rattle.conf_ast.specs.declared.filters.Item.{Item}
use Rattle.conf_ast.specs.declared.filters.Method.{Method}
use Rattle.conf_ast.specs.declared.filters.Parameter.{Parameter}
use Rattle.conf_ast.specs.declared.filters.Target.{Target}
use Rattle.conf_ast.specs.declared.filters.Target.TheVariants as targets
use Rattle.conf_ast.specs.declared.filters.VariableType.{VariableType}
use Rattle.conf_ast.specs.declared.filters.VariableType.TheVariants as types
use Rattle.conf_ast.specs.Configurations.{Routine}
use Rattle.conf_ast.specs.Filters.{Expression, Statement, Braced, Nothing, Declare, Assign}
use Rattle.conf_ast.specs.Filters.{ChangeBy, Clear, Unset, If, IfElse, Case, CaseElse, For, Accept}
use Rattle.conf_ast.specs.Filters.{Reject, Return, Print, Printn, Call, Statements, NoStatements}
use Rattle.conf_ast.specs.Filters.{AndStatements, Arms, NoArms, AndArms}
use Rattle.filt_meaning.specs.declared.value.Sort.{Sort}
use Rattle.filt_meaning.specs.declared.value.Sort.TheVariants as sorts
use Rattle.filt_meaning.specs.Sorts.{one_bool, one_list}
use Rattle.filt_meaning.specs.Values.{Val}
use Rattle.filt_meaning.specs.Names.{sort_of_type}
use Rattle.filt_types.specs.declared.refusal.Cause.TheVariants as causes
use Rattle.filt_types.specs.declared.refusal.Refusal.{Refusal}
use Rattle.filt_types.specs.Expressions.{Judgement, judge, judge_all, all_refusals, call}
use Rattle.filt_types.specs.Expressions.{constant_word, is_other, is_taken, of_two, wanted, wants}
use Rattle.filt_types.specs.Items.{NoneYet, One, Common, common, differ, all_items, sorts_of_items}
use Rattle.filt_types.specs.Items.{is_empty}
use Rattle.filt_types.specs.Refusals.{refused_if}
use Rattle.filt_meaning.specs.Rules.{method, same_sort, one_of_cases, sort_of_attribute}
use Rattle.filt_meaning.specs.Rules.{is_assignable, can_be_unset, is_assigned_dest}
use Rattle.filt_types.specs.Scenes.{Scene, Variable, Variables, variable_of, constant_of}
use Rattle.filt_types.specs.Scenes.{function_of, declaring, declared}

-- Where statements stand: what the configuration declares before them, and the sort of what the
-- function gives that they are of, if it gives something. A filter gives nothing.
pub record Around : Type 0 where
  pub scene : Scene
  pub gives : Option Sort

-- What is found of statements: the variables that are seen behind them, and what is refused.
pub record Checked : Type 0 where
  pub variables : Variables
  pub refusals : List Refusal

-- the variables stay
abbrev pub plainly : Variables → List Refusal → Checked
plainly vs refusals = record { variables = vs; refusals = refusals }

-- with these refusals before
abbrev pub behind : List Refusal → Checked → Checked
behind refusals c = record { variables = c.variables; refusals = refusals ++ c.refusals }

-- one after the other
abbrev pub in_turn : Checked → (Variables → Checked) → Checked
in_turn first second = behind first.refusals (second first.variables)

-- ---- targets

abbrev pub place_of : Target → ℕ
place_of (targets.Name n) = n.at
place_of (targets.Attribute at a) = at

-- What stands as a target: something of a sort that can be assigned to, something that can't be
-- (a constant, a loop's variable, some attributes), or nothing that is known.
pub data Aim : Type 0 where
  Holds : Sort → Aim
  IsFixed : Aim
  Unknown : Aim

abbrev pub aim_of_variable : Variable → Aim
aim_of_variable v = if v.of_loop then IsFixed else Holds v.sort

abbrev pub aim_of_name : Option Variable → Option Val → Aim
aim_of_name (Some v) constant = aim_of_variable v
aim_of_name None (Some v) = IsFixed
aim_of_name None None = Unknown

abbrev pub aim : Scene → Variables → Target → Aim
aim scene vs (targets.Name n) = aim_of_name (variable_of scene vs n) (constant_of scene n)
aim scene vs (targets.Attribute at a) =
    if is_assignable a then Holds (sort_of_attribute a) else IsFixed

-- the target as an operand: the sort of what it holds
abbrev pub operand : (at : ℕ) → Sort → Judgement
operand at sort = record { at = at; sort = Some sort; refusals = [] }

-- what is refused of a target where nothing else is
abbrev pub refused_target : (at : ℕ) → Aim → List Refusal
refused_target at (Holds sort) = []
refused_target at IsFixed = record { at = at; cause = causes.NotAssignable } ∷ []
refused_target at Unknown = record { at = at; cause = causes.UnknownName } ∷ []

-- ---- assignments

-- a value for what holds values of a sort; a target that is refused is refused alone
abbrev pub assigned : (at : ℕ) → Aim → Judgement → List Refusal
assigned at (Holds sort) j = wanted (same_sort sort) j
assigned at IsFixed j = refused_target at IsFixed ++ j.refusals
assigned at Unknown j = refused_target at Unknown ++ j.refusals

-- of the constants of `dest` three can be assigned, and nothing else
abbrev pub is_dest_word : Option Constant → Bool
is_dest_word None = false
is_dest_word (Some c) = is_assigned_dest c

abbrev pub any_sort : Sort → Bool
any_sort sort = true

abbrev pub no_sort : Sort → Bool
no_sort sort = false

abbrev pub assigned_dest : Expression → Judgement → List Refusal
assigned_dest e j =
    if is_dest_word (constant_word e) then j.refusals else wanted no_sort j

abbrev pub assign : Scene → Variables → Target → Expression → List Refusal
assign scene vs (targets.Attribute at attributes.Dest) e = assigned_dest e (judge scene vs e)
assign scene vs target e = assigned (place_of target) (aim scene vs target) (judge scene vs e)

-- a method of what the target holds
abbrev pub changed : (at : ℕ) → Aim → Method → Judgement → List Refusal
changed at (Holds sort) m j = (of_two at (method m.kind) (operand at sort) j).refusals
changed at IsFixed m j = refused_target at IsFixed ++ j.refusals
changed at Unknown m j = refused_target at Unknown ++ j.refusals

-- the target holds a list
abbrev pub cleared : (at : ℕ) → Aim → List Refusal
cleared at (Holds sort) = wants one_list (operand at sort)
cleared at IsFixed = refused_target at IsFixed
cleared at Unknown = refused_target at Unknown

-- ---- declarations

-- the first value of a variable; the variable isn't seen in it
abbrev pub initial : Scene → Variables → VariableType → Option Expression → List Refusal
initial scene vs t None = []
initial scene vs t (Some e) = wanted (same_sort (sort_of_type t)) (judge scene vs e)

abbrev pub declare : Scene → Variables → VariableType → Name → Option Expression → Checked
declare scene vs t n e = record {
  variables = vs ++ declared scene n (sort_of_type t) false ∷ [];
  refusals = declaring scene vs n ++ initial scene vs t e;
}

-- ---- `case`

-- the sort of the value, where labels can be of it
abbrev pub of_value : Option Sort → Common
of_value None = NoneYet
of_value (Some sort) = if one_of_cases sort then One sort else NoneYet

abbrev pub labels : Arms → List Item
labels NoArms = []
labels (AndArms items ss more) = items ++ labels more

-- an arm without labels, which the grammar doesn't have
abbrev pub lacks_labels : Arms → Bool
lacks_labels NoArms = false
lacks_labels (AndArms items ss more) = is_empty items || lacks_labels more

-- labels of another sort than the value, or of more than one, are refused at the word `case`
abbrev pub cases : Scene → (at : ℕ) → Judgement → Arms → List Refusal
cases scene at j as_arms =
    wanted one_of_cases j ++ all_items scene (labels as_arms)
    ++ refused_if
    (lacks_labels as_arms
    || differ (common (of_value j.sort) (sorts_of_items scene (labels as_arms))))
    at causes.Mismatch

-- ---- `for`

-- the sort of the lists that have elements of such a type
abbrev pub lists_of : VariableType → Option Sort
lists_of types.Int = Some sorts.Path
lists_of types.Pair = Some sorts.Clist
lists_of _ = None

-- the list is one, though of other elements, or no list has such elements
abbrev pub is_other_list : Option Sort → Option Sort → Bool
is_other_list None list = true
is_other_list (Some sort) list = is_taken one_list list && is_other (same_sort sort) list

abbrev pub over_list : (at : ℕ) → VariableType → Judgement → List Refusal
over_list at t j =
    wanted one_list j ++ refused_if (is_other_list (lists_of t) j.sort) at causes.Mismatch

-- the variable is seen in the body alone
abbrev pub without : ℕ → Checked → Checked
without place c = record { variables = remove c.variables place; refusals = c.refusals }

-- ---- `return`

-- A value that may not be given is refused at `return`, and so is one of another sort than the
-- function's.
abbrev pub returned : (at : ℕ) → (gives : Option Sort) → Judgement → List Refusal
returned at None j = record { at = at; cause = causes.Mismatch } ∷ j.refusals
returned at (Some sort) j =
    j.refusals ++ refused_if (is_other (same_sort sort) j.sort) at causes.Mismatch

abbrev pub return : Around → Variables → (at : ℕ) → Option Expression → List Refusal
return around vs at None = []
return around vs at (Some e) = returned at around.gives (judge around.scene vs e)

-- ---- statements

abbrev mutual
  pub check : Around → Variables → Statement → Checked
  check around vs (Braced ss) = plainly vs (check_all around vs ss).refusals
  check around vs Nothing = plainly vs []
  check around vs (Declare t n e) = declare around.scene vs t n e
  check around vs (Assign target e) = plainly vs (assign around.scene vs target e)
  check around vs (ChangeBy target m place e) =
      plainly vs
      (changed (place_of target) (aim around.scene vs target) m (judge around.scene vs e))
  check around vs (Clear target) =
      plainly vs (cleared (place_of target) (aim around.scene vs target))
  check around vs (Unset place at a) =
      plainly vs (refused_if (not (can_be_unset a)) at causes.NotAssignable)
  check around vs (If e s) =
      behind (wanted one_bool (judge around.scene vs e)) (check around vs s)
  check around vs (IfElse e s t) =
      behind (wanted one_bool (judge around.scene vs e))
      (in_turn (check around vs s) (λ seen. check around seen t))
  check around vs (Case at e as_arms) =
      behind (cases around.scene at (judge around.scene vs e) as_arms)
      (check_arms around vs as_arms)
  check around vs (CaseElse at e as_arms ss) =
      behind (cases around.scene at (judge around.scene vs e) as_arms)
      (in_turn (check_arms around vs as_arms) (λ seen. check_all around seen ss))
  check around vs (For at t n e body) =
      behind (over_list at t (judge around.scene vs e) ++ declaring around.scene vs n)
      (without (length vs)
      (check around (vs ++ declared around.scene n (sort_of_type t) true ∷ []) body))
  check around vs Accept = plainly vs []
  check around vs Reject = plainly vs []
  check around vs (Return at e) = plainly vs (return around vs at e)
  check around vs (Print es) = plainly vs (all_refusals (judge_all around.scene vs es))
  check around vs (Printn es) = plainly vs (all_refusals (judge_all around.scene vs es))
  check around vs (Call n place es) =
      plainly vs (call n (function_of around.scene n) (judge_all around.scene vs es))

  pub check_all : Around → Variables → Statements → Checked
  check_all around vs NoStatements = plainly vs []
  check_all around vs (AndStatements s ss) =
      in_turn (check around vs s) (λ seen. check_all around seen ss)

  -- what stands in one arm is seen in those behind it
  pub check_arms : Around → Variables → Arms → Checked
  check_arms around vs NoArms = plainly vs []
  check_arms around vs (AndArms items ss more) =
      in_turn (check_all around vs ss) (λ seen. check_arms around seen more)

-- ---- filters and functions

-- what is refused in the statements of a filter
abbrev pub in_filter : Scene → Statements → List Refusal
in_filter scene ss = (check_all (record { scene = scene; gives = None }) [] ss).refusals

-- parameters are seen behind themselves
abbrev pub parameters : Scene → Variables → List Parameter → Checked
parameters scene vs [] = plainly vs []
parameters scene vs (p ∷ ps) =
    behind (declaring scene vs p.name)
    (parameters scene (vs ++ declared scene p.name (sort_of_type p.variable_type) false ∷ []) ps)

abbrev pub sort_given : Option VariableType → Option Sort
sort_given None = None
sort_given (Some t) = Some (sort_of_type t)

-- what is refused in a function
abbrev pub in_function : Scene → Routine → List Refusal
in_function scene f =
    (in_turn (parameters scene [] f.parameters)
    (λ seen. check_all (record { scene = scene; gives = sort_given f.gives }) seen f.body)).refusals
