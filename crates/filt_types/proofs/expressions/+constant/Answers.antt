use Rattle.std.proofs.Common.{Bool, ◌==◌, refl, ap, ◌∙◌, sym}
use Rattle.conf_ast.specs.declared.filters.Expr.{Expr}
use Rattle.conf_ast.specs.Filters.{expression_of}
use Rattle.filt_types.specs.Expressions as ex
use Rattle.filt_types.specs.Walk.{where_alone}
use Rattle.filt_types.proofs.Alone.{alone-Product, alone-Sum, alone-Logical, alone-Postfix}
use Rattle.filt_types.proofs.expressions.+constant.Goals as goal

pub constant_word-returns-in-Postfix : goal.constant_word-returns-in-Postfix
constant_word-returns-in-Postfix t c =
    c.constant_alone.ensures ∙ ap (λ (b : Bool). where_alone b (ex.constant_word (expression_of c.deref-in-Postfix.result.now))) c.is_empty.ensures
    ∙ ap (λ (x : Expr). where_alone (c.in-Postfix.more.len == 0) (ex.constant_word (expression_of x))) c.deref-in-Postfix.ensures
    ∙ sym (ap (λ (x : Expr). ex.constant_word (expression_of x)) c.in-Postfix.is ∙ alone-Postfix (ex.constant_word) (λ a p. refl) (λ a b m place. refl) c.in-Postfix.operand c.in-Postfix.more)

pub constant_word-returns-in-Product : goal.constant_word-returns-in-Product
constant_word-returns-in-Product t c =
    c.constant_alone-in-Product.ensures ∙ ap (λ (b : Bool). where_alone b (ex.constant_word (expression_of c.deref-in-Product.result.now))) c.is_empty-in-Product.ensures
    ∙ ap (λ (x : Expr). where_alone (c.in-Product.more.len == 0) (ex.constant_word (expression_of x))) c.deref-in-Product.ensures
    ∙ sym (ap (λ (x : Expr). ex.constant_word (expression_of x)) c.in-Product.is ∙ alone-Product (ex.constant_word) (λ a b op. refl) c.in-Product.operand c.in-Product.more)

pub constant_word-returns-in-Sum : goal.constant_word-returns-in-Sum
constant_word-returns-in-Sum t c =
    c.constant_alone-in-Sum.ensures ∙ ap (λ (b : Bool). where_alone b (ex.constant_word (expression_of c.deref-in-Sum.result.now))) c.is_empty-in-Sum.ensures
    ∙ ap (λ (x : Expr). where_alone (c.in-Sum.more.len == 0) (ex.constant_word (expression_of x))) c.deref-in-Sum.ensures
    ∙ sym (ap (λ (x : Expr). ex.constant_word (expression_of x)) c.in-Sum.is ∙ alone-Sum (ex.constant_word) (λ a b op. refl) c.in-Sum.operand c.in-Sum.more)

pub constant_word-returns-in-Logical : goal.constant_word-returns-in-Logical
constant_word-returns-in-Logical t c =
    c.constant_alone-in-Logical.ensures ∙ ap (λ (b : Bool). where_alone b (ex.constant_word (expression_of c.deref-in-Logical.result.now))) c.is_empty-in-Logical.ensures
    ∙ ap (λ (x : Expr). where_alone (c.in-Logical.more.len == 0) (ex.constant_word (expression_of x))) c.deref-in-Logical.ensures
    ∙ sym (ap (λ (x : Expr). ex.constant_word (expression_of x)) c.in-Logical.is ∙ alone-Logical (ex.constant_word) (λ a b op. refl) c.in-Logical.operand c.in-Logical.more)
