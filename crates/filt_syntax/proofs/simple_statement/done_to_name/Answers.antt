use Rattle.std.proofs.Common.{refl, ◌∙◌}
use Rattle.std.proofs.lemmas.Result.{err_from_is_err_and}
use Rattle.conf_lex.proofs.PartShapes.{fails_then}
use Rattle.conf_ast.specs.declared.filters.Target.TheVariants as targets
use Rattle.filt_syntax.specs.StatementReaders.{of_name_at}
use Rattle.filt_syntax.proofs.StatementSteps.{name_assigned, name_changed}
use Rattle.filt_syntax.proofs.StatementTrees.{tree-Assign, tree-Change}
use Rattle.filt_syntax.proofs.simple_statement.done_to_name.Goals as goal

pub returns-in_err-value : goal.returns-in_err-value
returns-in_err-value c =
    let p = err_from_is_err_and c.from_residual.result c.from_residual.ensures.1 in
    rw (p.1, p.2, name_assigned c.args.depth_left c.args.name c.args.words.now c.in-Some.next.now c.in-Some.ensures) (fails_then _ _ _ c.in_err-value.ensures)

pub returns-in-Some : goal.returns-in-Some
returns-in-Some c =
    c.made.ensures (of_name_at c.args.depth_left c.args.name c.args.words.now) (rw (tree-Assign (targets.Name c.args.name) c.in_ok-value.value) (name_assigned c.args.depth_left c.args.name c.args.words.now c.in-Some.next.now c.in-Some.ensures ∙ rw c.in_ok-value.ensures refl))

pub returns-in_err-change-in-Some-after : goal.returns-in_err-change-in-Some-after
returns-in_err-change-in-Some-after c =
    let p = err_from_is_err_and c.from_residual-in_err-change-in-Some-after.result c.from_residual-in_err-change-in-Some-after.ensures.1 in
    rw (p.1, p.2, name_changed c.args.depth_left c.args.name c.args.words.now c.in-Some-after.next.now c.in-Some-after.ensures) (search (fails_then, c.in_err-change-in-Some-after.ensures))

pub returns-in_ok-change-in-Some-after : goal.returns-in_ok-change-in-Some-after
returns-in_ok-change-in-Some-after c =
    c.made-in-Some-after.ensures (of_name_at c.args.depth_left c.args.name c.args.words.now) (rw (tree-Change (targets.Name c.args.name) c.in_ok-change-in-Some-after.change) (name_changed c.args.depth_left c.args.name c.args.words.now c.in-Some-after.next.now c.in-Some-after.ensures ∙ rw c.in_ok-change-in-Some-after.ensures refl))
