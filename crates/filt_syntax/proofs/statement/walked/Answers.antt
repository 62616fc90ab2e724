use Rattle.std.proofs.Common.{refl}
use Rattle.std.proofs.lemmas.Result.{err_from_is_err_and}
use Rattle.conf_lex.specs.declared.symbol.Symbol.TheVariants as sym
use Rattle.conf_lex.specs.Grammar.{Pair}
use Rattle.conf_lex.specs.Reading.{word, both}
use Rattle.conf_lex.specs.Kind.{symbol}
use Rattle.conf_lex.specs.Leaves.{symbol_leaf}
use Rattle.conf_lex.proofs.PartShapes.{fails_then}
use Rattle.expr_syntax.specs.View.{derivations}
use Rattle.expr_syntax.specs.Readers.{expr_at}
use Rattle.filt_syntax.proofs.CycleSteps.{gives_mapped}
use Rattle.filt_syntax.proofs.statement.walked.Goals as goal

pub returns-in_err-inside : goal.returns-in_err-inside
returns-in_err-inside c =
    let p = err_from_is_err_and c.from_residual.result c.from_residual.ensures.1 in
    rw (p.1, p.2) (fails_then _ _ _ c.in_err-inside.ensures.gives)

pub returns : goal.returns
returns c =
    gives_mapped (λ e. (derivations e).expr) (λ x. Pair (symbol_leaf sym.In) x) c.expression.result (expr_at c.args.depth_left c.in_ok-inside.inside.now) (both (word (symbol sym.In)) (expr_at c.args.depth_left) c.args.words.now)
    (rw c.in_ok-inside.ensures.gives refl) c.expression.ensures
