use Rattle.std.proofs.Common.{refl, ◌∙◌}
use Rattle.conf_lex.specs.declared.symbol.Symbol.TheVariants as sym
use Rattle.conf_lex.specs.declared.word.Word.TheVariants as words
use Rattle.std.proofs.lemmas.Result.{err_from_is_err_and}
use Rattle.conf_lex.proofs.PartShapes.{fails_then, closed_got, closed_inside_fails, closed_end_fails}
use Rattle.expr_syntax.specs.ItemReaders.{items_at}
use Rattle.conf_syntax.proofs.LiteralSteps.{set_deep, set_is}
use Rattle.conf_syntax.proofs.literal.set.Goals as goal

pub returns-in_err-below : goal.returns-in_err-below
returns-in_err-below c =
    let p = err_from_is_err_and c.from_residual.result c.from_residual.ensures.1 in
    rw (p.1, p.2, set_deep c.args.depth_left c.args.at c.args.words.now c.args.behind.now c.in_err-below.ensures.gives.0 c.requires) (c.in_err-below.ensures.gives.1)

pub returns-in_err-items : goal.returns-in_err-items
returns-in_err-items c =
    let p = err_from_is_err_and c.from_residual-in_err-items.result c.from_residual-in_err-items.ensures.1 in
    rw (p.1, p.2, set_is c.args.depth_left c.in_ok-below.below c.args.at c.args.words.now c.args.behind.now c.in_ok-below.ensures.gives c.requires) (fails_then _ _ _ (closed_inside_fails (words.Placed c.args.at sym.OpenBracket) sym.CloseBracket (items_at c.in_ok-below.below) c.args.behind.now _ c.in_err-items.ensures.tree))

pub returns-in_err-rest : goal.returns-in_err-rest
returns-in_err-rest c =
    let p = err_from_is_err_and c.from_residual-in_err-rest.result c.from_residual-in_err-rest.ensures.1 in
    rw (p.1, p.2, set_is c.args.depth_left c.in_ok-below.below c.args.at c.args.words.now c.args.behind.now c.in_ok-below.ensures.gives c.requires) (fails_then _ _ _ (closed_end_fails (words.Placed c.args.at sym.OpenBracket) sym.CloseBracket (items_at c.in_ok-below.below) c.args.behind.now _ c.in_ok-items.rest.now _ c.in_ok-items.ensures.tree c.in_err-rest.ensures.gives))

pub returns : goal.returns
returns c =
    set_is c.args.depth_left c.in_ok-below.below c.args.at c.args.words.now c.args.behind.now c.in_ok-below.ensures.gives c.requires ∙ rw (closed_got (words.Placed c.args.at sym.OpenBracket) sym.CloseBracket refl (items_at c.in_ok-below.below) c.args.behind.now _ c.in_ok-items.rest.now c.in_ok-rest.rest.now c.in_ok-items.ensures.tree c.in_ok-rest.ensures.gives) refl
