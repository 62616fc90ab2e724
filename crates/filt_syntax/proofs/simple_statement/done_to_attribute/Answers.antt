use Rattle.std.proofs.Common.{refl, ◌∙◌}
use Rattle.std.proofs.lemmas.Result.{err_from_is_err_and}
use Rattle.conf_lex.proofs.PartShapes.{fails_then}
use Rattle.conf_ast.specs.declared.filters.Target.TheVariants as targets
use Rattle.filt_syntax.specs.StatementReaders.{stmt_at}
use Rattle.filt_syntax.proofs.StatementSteps.{attribute_assigned, attribute_changed}
use Rattle.filt_syntax.proofs.StatementTrees.{tree-Assign, tree-Change}
use Rattle.filt_syntax.proofs.simple_statement.done_to_attribute.Goals as goal

pub returns-in_err-value : goal.returns-in_err-value
returns-in_err-value c =
    let p = err_from_is_err_and c.from_residual.result c.from_residual.ensures.1 in
    rw (p.1, p.2, attribute_assigned c.args.depth_left c.args.at c.args.attribute c.args.words.now c.args.behind.now c.in-Some.next.now c.requires c.in-Some.ensures) (fails_then _ _ _ c.in_err-value.ensures)

pub returns-in-Some : goal.returns-in-Some
returns-in-Some c =
    c.made.ensures (stmt_at c.args.depth_left c.args.words.now) (rw (tree-Assign (targets.Attribute c.args.at c.args.attribute) c.in_ok-value.value) (attribute_assigned c.args.depth_left c.args.at c.args.attribute c.args.words.now c.args.behind.now c.in-Some.next.now c.requires c.in-Some.ensures ∙ rw c.in_ok-value.ensures refl))

pub returns-in_err-next : goal.returns-in_err-next
returns-in_err-next c =
    let p = err_from_is_err_and c.from_residual-in_err-next.result c.from_residual-in_err-next.ensures.1 in
    rw (p.1, p.2, attribute_changed c.args.depth_left c.args.at c.args.attribute c.args.words.now c.args.behind.now c.requires c.in_default.ensures) (search (fails_then, c.in_err-next.ensures.gives))

pub returns-in_err-change : goal.returns-in_err-change
returns-in_err-change c =
    let p = err_from_is_err_and c.from_residual-in_err-change.result c.from_residual-in_err-change.ensures.1 in
    rw (p.1, p.2, attribute_changed c.args.depth_left c.args.at c.args.attribute c.args.words.now c.args.behind.now c.requires c.in_default.ensures, c.in_ok-next.ensures.gives) (fails_then _ _ _ (fails_then _ _ _ c.in_err-change.ensures))

pub returns : goal.returns
returns c =
    c.made-2.ensures (stmt_at c.args.depth_left c.args.words.now) (rw (tree-Change (targets.Attribute c.args.at c.args.attribute) c.in_ok-change.change) (attribute_changed c.args.depth_left c.args.at c.args.attribute c.args.words.now c.args.behind.now c.requires c.in_default.ensures ∙ rw (c.in_ok-next.ensures.gives, c.in_ok-change.ensures) refl))
