-- For private contracts alone: what the pass over statements keeps while it goes, as the
-- definitions see it. What is refused rests on nothing here.
use Rattle.std.specs.Prelude.{true, not, List, [], ◌∷◌, ◌++◌, length}
use Rattle.conf_ast.specs.declared.named.Name.{Name}
use Rattle.conf_ast.specs.declared.filters.VariableType.{VariableType}
use Rattle.conf_ast.specs.Filters.{Statement, Braced, Declare, Assign, ChangeBy}
use Rattle.conf_ast.specs.Filters.{Clear, Unset, If, IfElse, Case, CaseElse, For, Return, Print}
use Rattle.conf_ast.specs.Filters.{Printn, Call}
use Rattle.filt_meaning.specs.Sorts.{one_bool}
use Rattle.filt_meaning.specs.Names.{sort_of_type}
use Rattle.filt_types.specs.declared.refusal.Cause.TheVariants as causes
use Rattle.filt_types.specs.declared.refusal.Refusal.{Refusal}
use Rattle.filt_rules.specs.declared.statements.Around.{Around}
use Rattle.filt_rules.specs.declared.targets.Aim.{Aim}
use Rattle.filt_rules.specs.declared.targets.Aim.TheVariants as aims
use Rattle.filt_types.specs.Expressions.{judge, judge_all, all_refusals, call, wanted}
use Rattle.filt_types.specs.Refusals.{refused_if}
use Rattle.filt_meaning.specs.Rules.{can_be_unset}
use Rattle.filt_types.specs.Scenes.{Variables, function_of, declaring, declared}
use Rattle.filt_types.specs.Seen.{scene_of}
use Rattle.filt_types.specs.Statements as statements
use Rattle.filt_types.specs.Statements.{Checked, plainly, in_turn, assign, place_of, changed, aim}
use Rattle.filt_types.specs.Statements.{cleared, cases, over_list, without, return, check}
use Rattle.filt_types.specs.Statements.{check_all, check_arms}

abbrev pub around_in : Around → statements.Around
around_in a = record { scene = scene_of a.text.now a.scope.now; gives = a.gives }

abbrev pub aim_seen : Aim → statements.Aim
aim_seen (aims.Holds sort) = statements.Holds sort
aim_seen aims.Fixed = statements.IsFixed
aim_seen aims.Unknown = statements.Unknown

-- what is refused in a statement itself, without the statements in it
abbrev pub own : statements.Around → Variables → Statement → List Refusal
own around vs (Declare t n e) = (statements.declare around.scene vs t n e).refusals
own around vs (Assign target e) = assign around.scene vs target e
own around vs (ChangeBy target m place e) =
    changed (place_of target) (aim around.scene vs target) m (judge around.scene vs e)
own around vs (Clear target) = cleared (place_of target) (aim around.scene vs target)
own around vs (Unset place at a) = refused_if (not (can_be_unset a)) at causes.NotAssignable
own around vs (If e s) = wanted one_bool (judge around.scene vs e)
own around vs (IfElse e s t) = wanted one_bool (judge around.scene vs e)
own around vs (Case at e as_arms) = cases around.scene at (judge around.scene vs e) as_arms
own around vs (CaseElse at e as_arms ss) = cases around.scene at (judge around.scene vs e) as_arms
own around vs (For at t n e body) =
    over_list at t (judge around.scene vs e) ++ declaring around.scene vs n
own around vs (Return at e) = return around vs at e
own around vs (Print es) = all_refusals (judge_all around.scene vs es)
own around vs (Printn es) = all_refusals (judge_all around.scene vs es)
own around vs (Call n place es) = call n (function_of around.scene n) (judge_all around.scene vs es)
own around vs _ = []

-- what is found of the body of a loop, whose variable is seen in it alone
abbrev pub body_seen : statements.Around → Variables → VariableType → Name → Statement → Checked
body_seen around vs t n body =
    without (length vs)
    (check around (vs ++ declared around.scene n (sort_of_type t) true ∷ []) body)

-- what is found of the statements in a statement, and of what it declares
abbrev pub inside : statements.Around → Variables → Statement → Checked
inside around vs (Braced ss) = plainly vs (check_all around vs ss).refusals
inside around vs (Declare t n e) = plainly (statements.declare around.scene vs t n e).variables []
inside around vs (If e s) = check around vs s
inside around vs (IfElse e s t) = in_turn (check around vs s) (λ seen. check around seen t)
inside around vs (Case at e as_arms) = check_arms around vs as_arms
inside around vs (CaseElse at e as_arms ss) =
    in_turn (check_arms around vs as_arms) (λ seen. check_all around seen ss)
inside around vs (For at t n e body) = body_seen around vs t n body
inside around vs _ = plainly vs []
