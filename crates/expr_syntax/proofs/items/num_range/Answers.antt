use Rattle.std.proofs.Common.{◌∙◌}
use Rattle.std.proofs.lemmas.Result.{err_from_is_err_and}
use Rattle.conf_lex.proofs.PartShapes.{optional_alone, optional_pair, optional_first_fails, optional_second_fails}
use Rattle.expr_syntax.proofs.ItemSteps.{part_is}
use Rattle.expr_syntax.proofs.items.num_range.Goals as goal

pub returns-in_err-low : goal.returns-in_err-low
returns-in_err-low c =
    let p = err_from_is_err_and c.from_residual.result c.from_residual.ensures.1 in
    rw (p.1, p.2, part_is 0 c.args.words.now) (search (optional_first_fails, c.in_err-low.ensures.gives))

pub returns-in_err-high-in-Some : goal.returns-in_err-high-in-Some
returns-in_err-high-in-Some c =
    let p = err_from_is_err_and c.from_residual-in_err-high-in-Some.result c.from_residual-in_err-high-in-Some.ensures.1 in
    rw (p.1, p.2, part_is 0 c.args.words.now) (search (optional_second_fails, c.in_ok-low.ensures.gives, c.in-Some.ensures, c.in_err-high-in-Some.ensures.gives))

pub returns-in-None : goal.returns-in-None
returns-in-None c =
    part_is 0 c.args.words.now ∙ search (optional_alone, c.in_ok-low.ensures.gives, c.in-None.ensures)

pub returns-in_ok-high-in-Some : goal.returns-in_ok-high-in-Some
returns-in_ok-high-in-Some c =
    part_is 0 c.args.words.now ∙ search (optional_pair, c.in_ok-low.ensures.gives, c.in-Some.ensures, c.in_ok-high-in-Some.ensures.gives)
