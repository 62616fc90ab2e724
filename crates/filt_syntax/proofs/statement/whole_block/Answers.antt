use Rattle.std.proofs.Common.{refl, ◌∙◌}
use Rattle.std.proofs.lemmas.Result.{err_from_is_err_and}
use Rattle.conf_lex.proofs.PartShapes.{fails_then}
use Rattle.filt_syntax.proofs.CycleSteps.{braces_is, braces_deep, braces_fail}
use Rattle.filt_syntax.proofs.statement.whole_block.Goals as goal

pub returns-in_err-inside : goal.returns-in_err-inside
returns-in_err-inside c =
    let p = err_from_is_err_and c.from_residual.result c.from_residual.ensures.1 in
    rw (p.1, p.2) (braces_fail c.args.depth_left c.args.words.now _ c.in_err-inside.ensures.gives)

pub returns-in_err-below : goal.returns-in_err-below
returns-in_err-below c =
    let p = err_from_is_err_and c.from_residual-in_err-below.result c.from_residual-in_err-below.ensures.1 in
    rw (p.1, p.2, braces_deep c.args.depth_left c.args.words.now c.in_ok-inside.inside.now c.in_err-below.ensures.gives.0 c.in_ok-inside.ensures.gives) (c.in_err-below.ensures.gives.1)

pub returns-in_err-statements : goal.returns-in_err-statements
returns-in_err-statements c =
    let p = err_from_is_err_and c.from_residual-in_err-statements.result c.from_residual-in_err-statements.ensures.1 in
    rw (p.1, p.2, braces_is c.args.depth_left c.in_ok-below.below c.args.words.now c.in_ok-inside.inside.now c.in_ok-below.ensures.gives c.in_ok-inside.ensures.gives) (fails_then _ _ _ c.in_err-statements.ensures)

pub returns : goal.returns
returns c =
    braces_is c.args.depth_left c.in_ok-below.below c.args.words.now c.in_ok-inside.inside.now c.in_ok-below.ensures.gives c.in_ok-inside.ensures.gives ∙ rw c.in_ok-statements.ensures refl
