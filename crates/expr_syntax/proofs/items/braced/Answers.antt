use Rattle.std.proofs.Common.{refl, ◌∙◌}
use Rattle.std.proofs.lemmas.Result.{err_from_is_err_and}
use Rattle.conf_lex.specs.declared.symbol.Symbol.TheVariants as sym
use Rattle.conf_lex.specs.declared.word.Word.TheVariants as words
use Rattle.conf_lex.proofs.PartShapes.{fails_then, closed_got, closed_inside_fails, closed_end_fails}
use Rattle.expr_syntax.specs.ItemReaders.{bounds_at}
use Rattle.expr_syntax.proofs.ItemSteps.{braced_deep, braced_is}
use Rattle.expr_syntax.proofs.items.braced.Goals as goal

pub returns-in_err-_below : goal.returns-in_err-_below
returns-in_err-_below c =
    let p = err_from_is_err_and c.from_residual.result c.from_residual.ensures.1 in
    rw (p.1, p.2, braced_deep c.args.depth_left c.args.words.now c.args.inside.now c.in_err-_below.ensures.gives.0 c.requires) (c.in_err-_below.ensures.gives.1)

pub returns-in_err-low : goal.returns-in_err-low
returns-in_err-low c =
    let p = err_from_is_err_and c.from_residual-in_err-low.result c.from_residual-in_err-low.ensures.1 in
    rw (p.1, p.2, braced_is c.args.depth_left c.in_ok-_below._below c.args.words.now c.args.inside.now c.in_ok-_below.ensures.gives c.requires) (fails_then _ _ _ (closed_inside_fails (words.Symbol sym.OpenBrace) sym.CloseBrace (bounds_at 0) c.args.inside.now _ c.in_err-low.ensures))

pub returns-in_err-rest : goal.returns-in_err-rest
returns-in_err-rest c =
    let p = err_from_is_err_and c.from_residual-in_err-rest.result c.from_residual-in_err-rest.ensures.1 in
    rw (p.1, p.2, braced_is c.args.depth_left c.in_ok-_below._below c.args.words.now c.args.inside.now c.in_ok-_below.ensures.gives c.requires) (fails_then _ _ _ (closed_end_fails (words.Symbol sym.OpenBrace) sym.CloseBrace (bounds_at 0) c.args.inside.now _ c.in_ok-low.rest.now _ c.in_ok-low.ensures c.in_err-rest.ensures.gives))

pub returns : goal.returns
returns c =
    braced_is c.args.depth_left c.in_ok-_below._below c.args.words.now c.args.inside.now c.in_ok-_below.ensures.gives c.requires ∙ rw (closed_got (words.Symbol sym.OpenBrace) sym.CloseBrace refl (bounds_at 0) c.args.inside.now _ c.in_ok-low.rest.now c.in_ok-rest.rest.now c.in_ok-low.ensures c.in_ok-rest.ensures.gives) refl
