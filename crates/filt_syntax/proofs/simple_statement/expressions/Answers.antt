use Rattle.std.proofs.Common.{◌≡◌, List, [], ◌∷◌, ◌++◌, length, refl, sym as flip, ap, ◌∙◌, arith, rules}
use Rattle.std.proofs.lemmas.Result.{err_from_is_err_and}
use Rattle.std.proofs.lemmas.List.{length-append}
use Rattle.conf_lex.specs.declared.symbol.Symbol.TheVariants as sym
use Rattle.conf_lex.specs.declared.word.Word.{Word}
use Rattle.conf_lex.specs.declared.word.Word.TheVariants as words
use Rattle.conf_lex.specs.Kind.{symbol}
use Rattle.conf_lex.specs.Grammar.{ParseTree}
use Rattle.conf_lex.specs.PartShapes.{links}
use Rattle.conf_lex.proofs.PartShapes.{fails_then, links_more, links_fail, links_end}
use Rattle.expr_syntax.specs.View.{derivations, expr_trees, listed_tree}
use Rattle.expr_syntax.specs.Readers.{expr_at}
use Rattle.filt_syntax.proofs.StatementSteps.{printed_turns, exprs_is, one_more_printed}
use Rattle.expr_syntax.proofs.Steps.{expr_shorter}
use Rattle.filt_syntax.proofs.simple_statement.expressions.Goals as goal

pub returns-in_err-first : goal.returns-in_err-first
returns-in_err-first c =
    let p = err_from_is_err_and c.from_residual.result c.from_residual.ensures.1 in
    rw (p.1, p.2, exprs_is c.args.depth_left c.args.words.now) (fails_then _ _ _ c.in_err-first.ensures)

pub loop-next-init : goal.loop-next-init
loop-next-init c =
    let pushed : c.push_tight.new.list.items ≡ c.in_ok-first.first ∷ [] = search rules in
    record {
      some = rw pushed (omega arith);
      reading = rw pushed (exprs_is c.args.depth_left c.args.words.now ∙ rw c.in_ok-first.ensures refl);
    }

pub returns-in_err-more : goal.returns-in_err-more
returns-in_err-more c =
    let p = err_from_is_err_and c.from_residual-in_err-more.result c.from_residual-in_err-more.ensures.1 in
    rw (p.1, p.2) (rw c.loop-next.invariant.reading (search (links_fail, printed_turns, c.in-Some.ensures, c.in_err-more.ensures)))

pub loop-next-smaller : goal.loop-next-smaller
loop-next-smaller c =
    omega (arith, expr_shorter c.args.depth_left c.in-Some.next.now _ c.in_ok-more.end.now c.in_ok-more.ensures, ap (λ (ws : List Word). length ws) c.in-Some.ensures)

pub loop-next-preserved : goal.loop-next-preserved
loop-next-preserved c =
    let es = c.loop-next.found.items in
    let e = c.in_ok-more.more in
    let end = c.in_ok-more.end.now in
    let pushed : c.push_tight-in-Some.new.list.items ≡ es ++ e ∷ [] = search rules in
    let turn = links_more (symbol sym.Comma) (expr_at c.args.depth_left) (printed_turns c.args.depth_left) (listed_tree (expr_trees es)) c.loop-next.rest.now (words.Symbol sym.Comma) c.in-Some.next.now (derivations e).expr end c.in-Some.ensures refl c.in_ok-more.ensures in
    record {
      some = rw pushed (omega (arith, length-append es (e ∷ [])));
      reading = rw pushed (c.loop-next.invariant.reading ∙ turn ∙ ap (λ (t : ParseTree). links (symbol sym.Comma) (expr_at c.args.depth_left) t end) (flip (one_more_printed es e c.loop-next.invariant.some)));
    }

pub returns : goal.returns
returns c =
    c.loop-next.invariant.reading ∙ search (links_end, printed_turns, c.in_default.ensures)
