use Rattle.std.proofs.Common.{◌≡◌, List, [], ◌∷◌, ◌++◌, length, sym as flip, ap, ◌∙◌, arith, rules}
use Rattle.std.proofs.lemmas.Result.{err_from_is_err_and}
use Rattle.std.proofs.lemmas.List.{length-append}
use Rattle.conf_lex.specs.declared.word.Word.{Word}
use Rattle.conf_lex.specs.Grammar.{ParseTree}
use Rattle.conf_tree.specs.View.{parameter_tree}
use Rattle.conf_tree.proofs.FunctionSteps.{some_first, some_first_fails, parameter_shorter, parameter_row_at, row_more, row_fails, row_end, row_of, row_one, row_tree_is, one_more_parameter}
use Rattle.conf_tree.proofs.function.some_parameters.Goals as goal

pub returns-in_err-first : goal.returns-in_err-first
returns-in_err-first c =
    let p = err_from_is_err_and c.from_residual.result c.from_residual.ensures.1 in
    rw (p.1, p.2) (some_first_fails c.args.words.now _ c.in_err-first.ensures.tree)

pub loop-separator-init : goal.loop-separator-init
loop-separator-init c =
    let p = c.in_ok-first.first in
    let pushed : c.push_tight.new.list.items ≡ p ∷ [] = search rules in
    record {
      some = rw pushed (omega arith);
      reading = rw pushed (some_first c.args.words.now (parameter_tree p) c.in_ok-first.rest.now c.in_ok-first.ensures.tree ∙ ap (λ (t : ParseTree). parameter_row_at t c.in_ok-first.rest.now) (flip (row_one p c.in_ok-first.ensures.separator)));
    }

pub returns-in_err-more : goal.returns-in_err-more
returns-in_err-more c =
    let p = err_from_is_err_and c.from_residual-in_err-more.result c.from_residual-in_err-more.ensures.1 in
    rw (p.1, p.2) (rw c.loop-separator.invariant.reading (row_fails (row_of c.loop-separator.parameters.items) c.loop-separator.rest.now c.in-Some.next.now c.in-Some.separator _ c.in-Some.ensures c.in_err-more.ensures.tree))

pub loop-separator-smaller : goal.loop-separator-smaller
loop-separator-smaller c =
    omega (arith, parameter_shorter c.in-Some.next.now _ c.in_ok-more.end.now c.in_ok-more.ensures.tree, ap (λ (ws : List Word). length ws) c.in-Some.ensures)

pub loop-separator-preserved : goal.loop-separator-preserved
loop-separator-preserved c =
    let ps = c.loop-separator.parameters.items in
    let p = c.in_ok-more.more in
    let s = c.in-Some.separator in
    let end = c.in_ok-more.end.now in
    let pushed : c.push_tight-in-Some.new.list.items ≡ ps ++ p ∷ [] = search rules in
    let turn = row_more (row_of ps) c.loop-separator.rest.now c.in-Some.next.now s p end c.in-Some.ensures c.in_ok-more.ensures.tree in
    record {
      some = rw pushed (omega (arith, length-append ps (p ∷ [])));
      reading = rw pushed (c.loop-separator.invariant.reading ∙ turn ∙ ap (λ (t : ParseTree). parameter_row_at t end) (flip (one_more_parameter ps p s c.loop-separator.invariant.some c.in_ok-more.ensures.separator)));
    }

pub returns : goal.returns
returns c =
    rw (row_tree_is c.loop-separator.parameters.items c.loop-separator.invariant.some) (c.loop-separator.invariant.reading ∙ row_end (row_of c.loop-separator.parameters.items) c.loop-separator.rest.now c.in_default.ensures)
