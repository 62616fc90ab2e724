use Rattle.std.proofs.lemmas.Result.{err_from_is_err_and}
use Rattle.expr_syntax.proofs.Steps.{defined_fails, defined_got}
use Rattle.expr_syntax.proofs.Derived.{derivations-Defined}
use Rattle.conf_lex.specs.declared.word.Word.TheVariants as words
use Rattle.expr_syntax.proofs.bracket.defined.Goals as goal

pub returns-in_err-attribute_at-clause-tree : goal.returns-in_err-attribute_at-clause-tree
returns-in_err-attribute_at-clause-tree c =
    let p = err_from_is_err_and c.from_residual.result c.from_residual.ensures.1 in
    rw (p.1, p.2) (defined_fails c.args.depth_left c.args.at c.args.words.now c.args.next.now c.in_err-attribute_at.field-0.0 c.requires c.in_err-attribute_at.ensures)

pub returns-clause-tree : goal.returns-clause-tree
returns-clause-tree c = rw (derivations-Defined c.args.at c.in_ok-attribute_at.open c.in_ok-attribute_at.attribute_at c.in_ok-attribute_at.attribute) (defined_got c.args.depth_left c.args.at c.in_ok-attribute_at.open c.args.words.now c.args.next.now (words.Attribute c.in_ok-attribute_at.attribute_at c.in_ok-attribute_at.attribute) c.in_ok-attribute_at.rest.now c.requires c.in_ok-attribute_at.ensures)
