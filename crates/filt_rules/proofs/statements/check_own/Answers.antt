use Rattle.std.proofs.Common.{List, ap, ◌∙◌, sym}
use Rattle.conf_ast.specs.declared.filters.Arm.{Arm}
use Rattle.conf_ast.specs.declared.filters.Stmt.{Stmt}
use Rattle.filt_types.specs.declared.refusal.Refusal.{Refusal}
use Rattle.conf_ast.specs.Filters.{expression_of, statement_of}
use Rattle.filt_types.specs.Expressions.{judge}
use Rattle.filt_rules.specs.Passes.{own}
use Rattle.filt_types.specs.Walk.{arms_of}
use Rattle.filt_types.specs.Refusals.{first_in}
use Rattle.filt_types.specs.Seen.{scene_in, variables_in}
use Rattle.filt_types.specs.Statements.{Around, cases}
use Rattle.filt_rules.proofs.Checking as g
use Rattle.filt_rules.proofs.statements.check_own.Goals as goal

pub returns-in-Change : goal.returns-in-Change
returns-in-Change c =
    let a : Around = record { scene = scene_in c.args.seen; gives = c.args.gives } in
    let vs = variables_in c.args.seen in
    c.check_change.ensures c.args.gives ∙ ap (λ (rs : List Refusal). first_in c.args.first.now rs) (g.change_first a vs c.in-Change.target c.in-Change.change)
    ∙ sym (ap (λ (x : Stmt). first_in c.args.first.now (own (record { scene = scene_in c.args.seen; gives = c.args.gives }) (variables_in c.args.seen) (statement_of x))) c.in-Change.is)

pub returns-in-Case : goal.returns-in-Case
returns-in-Case c =
    let a : Around = record { scene = scene_in c.args.seen; gives = c.args.gives } in
    c.check_cases.ensures ∙ ap (λ (xs : List (Arm Stmt)). first_in c.args.first.now (cases (scene_in c.args.seen) c.in-Case.at (judge (scene_in c.args.seen) (variables_in c.args.seen) (expression_of c.in-Case.value)) (arms_of xs))) c.deref.ensures.value
    ∙ sym (ap (λ (x : Stmt). first_in c.args.first.now (own (record { scene = scene_in c.args.seen; gives = c.args.gives }) (variables_in c.args.seen) (statement_of x))) c.in-Case.is ∙ ap (λ (rs : List Refusal). first_in c.args.first.now rs) (g.own-Case a (variables_in c.args.seen) c.in-Case.at c.in-Case.value c.in-Case.arms c.in-Case.otherwise))
