use Rattle.std.proofs.lemmas.Result.{err_from_is_err_and}
use Rattle.conf_lex.specs.Grammar.{TooDeep}
use Rattle.conf_lex.specs.Reading.{Failed}
use Rattle.conf_lex.proofs.PartShapes.{fails_along}
use Rattle.expr_syntax.specs.Readers.{opened_at}
use Rattle.expr_syntax.proofs.Steps.{opened_bad, opened_deep}
use Rattle.expr_syntax.proofs.bracket.open.Goals as goal

pub returns-in_err-below-in-Some : goal.returns-in_err-below-in-Some
returns-in_err-below-in-Some c =
    let p = err_from_is_err_and c.from_residual.result c.from_residual.ensures.1 in
    let e = c.in_err-below-in-Some.field-0.0 in
    rw (p.1, p.2) (λ n. fails_along e (opened_at n c.args.depth_left c.args.words.now) (Failed TooDeep c.args.words.now) (opened_deep c.args.depth_left c.in-Some.at c.args.words.now c.in-Some.inside.now c.in_err-below-in-Some.ensures.gives.0 c.in-Some.ensures n) c.in_err-below-in-Some.ensures.gives.1)

pub returns-in-None : goal.returns-in-None
returns-in-None c = λ n. opened_bad c.args.words.now c.in-None.ensures n c.args.depth_left
