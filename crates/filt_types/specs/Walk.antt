-- For the contracts of the walks here and in filt_rules: what they keep while they go, as the
-- definitions see it. What is refused rests on nothing here.
use Rattle.std.specs.Prelude.{ℕ, Bool, false, not, ◌==◌, ◌+◌, List, [], ◌∷◌, ◌++◌, map, length}
use Rattle.std.specs.Prelude.{if◌then◌else◌, option_map, Option, Some, None, Vec}
use Rattle.std.specs.Borrow.{Bor}
use Rattle.std.specs.Global.{Global}
use Rattle.conf_ast.specs.declared.filters.Access.{Access}
use Rattle.conf_ast.specs.declared.filters.Access.TheVariants as accesses
use Rattle.conf_ast.specs.declared.filters.Arm.{Arm}
use Rattle.conf_ast.specs.declared.filters.Expr.{Expr}
use Rattle.conf_ast.specs.declared.filters.Stmt.{Stmt}
use Rattle.conf_ast.specs.Filters.{Expression, expression_of, expressions_of, statements_of}
use Rattle.conf_ast.specs.Filters.{Arms, NoArms, AndArms, Statements, NoStatements}
use Rattle.filt_meaning.specs.declared.fixed.Fixed.{Fixed}
use Rattle.filt_meaning.specs.Seen.{val_of_fixed}
use Rattle.filt_meaning.specs.declared.value.Sort.{Sort}
use Rattle.filt_meaning.specs.Values.{Val}
use Rattle.filt_meaning.specs.declared.scope.TFunction.{TFunction}
use Rattle.filt_types.specs.declared.items.Common.{Common}
use Rattle.filt_types.specs.declared.items.Common.TheVariants as commons
use Rattle.filt_types.specs.declared.judged.Judged.{Judged}
use Rattle.filt_types.specs.declared.scene.Seen.{Seen}
use Rattle.filt_types.specs.Expressions.{Judgement, all_refusals, arguments_wanted, between}
use Rattle.filt_types.specs.Expressions.{is_taken, judge, judge_all, of_one, wants}
use Rattle.filt_types.specs.Items as items
use Rattle.filt_meaning.specs.Rules.{method, property, same_sort}
use Rattle.filt_types.specs.declared.refusal.Cause.TheVariants as causes
use Rattle.filt_types.specs.declared.refusal.Refusal.{Refusal}
use Rattle.filt_types.specs.Refusals.{refused_if}
use Rattle.filt_types.specs.Scenes.{Scene, Signature, Variables}
use Rattle.filt_types.specs.Seen.{scene_in, signature_of, variables_in}
use Rattle.filt_types.specs.Weight.{weight}

-- a judgement without what is refused
abbrev pub said_of : Judgement → Judged
said_of j = record { at = j.at; sort = j.sort }

-- the judgements of expressions at a place
abbrev pub judged : Seen → Expression → Judgement
judged seen e = judge (scene_in seen) (variables_in seen) e

abbrev pub judged_of : Seen → Expr → Judgement
judged_of seen e = judged seen (expression_of e)

abbrev pub all_judged : Seen → List Expr → List Judgement
all_judged seen es = judge_all (scene_in seen) (variables_in seen) (expressions_of es)

-- an operand: what is refused in it was noted before
abbrev pub bare : Judged → Judgement
bare judged = record { at = judged.at; sort = judged.sort; refusals = [] }

abbrev pub common_seen : Common → items.Common
common_seen commons.NoneYet = items.NoneYet
common_seen (commons.One sort) = items.One sort
common_seen commons.Many = items.Many

abbrev pub constant_seen : Option (Bor Fixed) → Option Val
constant_seen constant = option_map (λ fixed. val_of_fixed fixed.now) constant

-- ---- parts of chains and cases

abbrev pub access_of : Access Expr → Access Expression
access_of (accesses.Property p) = accesses.Property p
access_of (accesses.Method m place e) = accesses.Method m place (expression_of e)

abbrev pub accesses_of : List (Access Expr) → List (Access Expression)
accesses_of = map access_of

-- an operator and the expression behind it
abbrev pub operand_of : {Op : Type 0} → Op × Expr → Op × Expression
operand_of x = (x.0, expression_of x.1)

abbrev pub operands_of : {Op : Type 0} → List (Op × Expr) → List (Op × Expression)
operands_of = map operand_of

-- what a dot and what stands behind it weigh
abbrev pub access_weight : Scene → Access Expr → ℕ
access_weight scene (accesses.Property p) = 1
access_weight scene (accesses.Method m place x) = 1 + weight scene (expression_of x)

-- the arms of a `case`
abbrev pub arms_of : List (Arm Stmt) → Arms
arms_of [] = NoArms
arms_of (a ∷ more) = AndArms a.labels.items (statements_of a.body.items) (arms_of more)

-- what stands behind `else:`, if anything
abbrev pub else_of : Option (Vec Stmt Global) → Statements
else_of None = NoStatements
else_of (Some body) = statements_of body.items

-- an operand with one thing more behind a dot
abbrev pub with_access : Scene → Variables → Judgement → Access Expression → Judgement
with_access scene vs j (accesses.Property p) = of_one j.at (property p) j
with_access scene vs j (accesses.Method m place e) = between (method m.kind) j (judge scene vs e)

-- what a chain with one part is, where there is one alone
abbrev pub where_alone : {A : Type 0} → Bool → Option A → Option A
where_alone is_alone found = if is_alone then found else None

-- ---- calls

abbrev pub function_seen : Option (Bor TFunction) → Option Signature
function_seen function = option_map (λ f. signature_of f.now) function

abbrev pub front_of : List Sort → Option Sort
front_of [] = None
front_of (sort ∷ more) = Some sort

abbrev pub is_of_parameter : Option Sort → Option Sort → Bool
is_of_parameter None found = false
is_of_parameter (Some sort) found = is_taken (same_sort sort) found

abbrev pub wants_parameter : Option Sort → Judgement → List Refusal
wants_parameter None j = []
wants_parameter (Some sort) j = wants (same_sort sort) j

-- a call of a function that there is, at its name's place
abbrev pub call_at : (at : ℕ) → Signature → List Judgement → List Refusal
call_at at f js =
    refused_if (not (length f.parameters == length js)) at causes.Mismatch
    ++ all_refusals js
    ++ (if length f.parameters == length js then arguments_wanted f.parameters js else [])
