use Rattle.std.proofs.Common.{Bool, ◌==◌, refl, ap, ◌∙◌, sym}
use Rattle.conf_ast.specs.declared.filters.Expr.{Expr}
use Rattle.conf_ast.specs.Filters.{expression_of}
use Rattle.filt_types.specs.Expressions as ex
use Rattle.filt_types.specs.Seen.{scene_in, variables_in}
use Rattle.filt_types.specs.Walk.{where_alone}
use Rattle.filt_types.proofs.Alone.{alone-Product, alone-Sum, alone-Logical, alone-Postfix}
use Rattle.filt_types.proofs.Trees.{is-Atom}
use Rattle.filt_types.proofs.expressions.+written.Goals as goal

pub written-returns-in-Postfix : goal.written-returns-in-Postfix
written-returns-in-Postfix t c =
    c.written_alone.ensures ∙ ap (λ (b : Bool). where_alone b (ex.written (scene_in c.args.seen) (variables_in c.args.seen) (expression_of c.deref.result.now))) c.is_empty.ensures
    ∙ ap (λ (x : Expr). where_alone (c.in-Postfix.more.len == 0) (ex.written (scene_in c.args.seen) (variables_in c.args.seen) (expression_of x))) c.deref.ensures
    ∙ sym (ap (λ (x : Expr). ex.written (scene_in c.args.seen) (variables_in c.args.seen) (expression_of x)) c.in-Postfix.is ∙ alone-Postfix (ex.written (scene_in c.args.seen) (variables_in c.args.seen)) (λ a p. refl) (λ a b m place. refl) c.in-Postfix.operand c.in-Postfix.more)

pub written-returns-in-Product : goal.written-returns-in-Product
written-returns-in-Product t c =
    c.written_alone-in-Product.ensures ∙ ap (λ (b : Bool). where_alone b (ex.written (scene_in c.args.seen) (variables_in c.args.seen) (expression_of c.deref-in-Product.result.now))) c.is_empty-in-Product.ensures
    ∙ ap (λ (x : Expr). where_alone (c.in-Product.more.len == 0) (ex.written (scene_in c.args.seen) (variables_in c.args.seen) (expression_of x))) c.deref-in-Product.ensures
    ∙ sym (ap (λ (x : Expr). ex.written (scene_in c.args.seen) (variables_in c.args.seen) (expression_of x)) c.in-Product.is ∙ alone-Product (ex.written (scene_in c.args.seen) (variables_in c.args.seen)) (λ a b op. refl) c.in-Product.operand c.in-Product.more)

pub written-returns-in-Sum : goal.written-returns-in-Sum
written-returns-in-Sum t c =
    c.written_alone-in-Sum.ensures ∙ ap (λ (b : Bool). where_alone b (ex.written (scene_in c.args.seen) (variables_in c.args.seen) (expression_of c.deref-in-Sum.result.now))) c.is_empty-in-Sum.ensures
    ∙ ap (λ (x : Expr). where_alone (c.in-Sum.more.len == 0) (ex.written (scene_in c.args.seen) (variables_in c.args.seen) (expression_of x))) c.deref-in-Sum.ensures
    ∙ sym (ap (λ (x : Expr). ex.written (scene_in c.args.seen) (variables_in c.args.seen) (expression_of x)) c.in-Sum.is ∙ alone-Sum (ex.written (scene_in c.args.seen) (variables_in c.args.seen)) (λ a b op. refl) c.in-Sum.operand c.in-Sum.more)

pub written-returns-in-Logical : goal.written-returns-in-Logical
written-returns-in-Logical t c =
    c.written_alone-in-Logical.ensures ∙ ap (λ (b : Bool). where_alone b (ex.written (scene_in c.args.seen) (variables_in c.args.seen) (expression_of c.deref-in-Logical.result.now))) c.is_empty-in-Logical.ensures
    ∙ ap (λ (x : Expr). where_alone (c.in-Logical.more.len == 0) (ex.written (scene_in c.args.seen) (variables_in c.args.seen) (expression_of x))) c.deref-in-Logical.ensures
    ∙ sym (ap (λ (x : Expr). ex.written (scene_in c.args.seen) (variables_in c.args.seen) (expression_of x)) c.in-Logical.is ∙ alone-Logical (ex.written (scene_in c.args.seen) (variables_in c.args.seen)) (λ a b op. refl) c.in-Logical.operand c.in-Logical.more)

pub written-returns-in-Atom : goal.written-returns-in-Atom
written-returns-in-Atom t c =
    c.written_word.ensures (scene_in c.args.seen) (variables_in c.args.seen) ∙ sym (ap (λ (x : Expr). ex.written (scene_in c.args.seen) (variables_in c.args.seen) (expression_of x)) c.in-Atom.is ∙ ap (ex.written (scene_in c.args.seen) (variables_in c.args.seen)) (is-Atom c.in-Atom.word))
