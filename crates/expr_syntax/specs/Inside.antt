-- For private contracts alone: parts of chains, each as the sign before it and its tree.
use Rattle.conf_lex.specs.declared.word.Word.{Word}
use Rattle.conf_lex.specs.declared.word.Word.TheVariants as words
use Rattle.conf_lex.specs.declared.symbol.Symbol.TheVariants as sym
use Rattle.conf_lex.specs.Grammar.{ParseTree, Right}
use Rattle.conf_ast.specs.declared.filters.Access.{Access}
use Rattle.conf_ast.specs.declared.filters.Access.TheVariants as accesses
use Rattle.conf_ast.specs.declared.filters.MulOp.{MulOp}
use Rattle.conf_ast.specs.declared.filters.AddOp.{AddOp}
use Rattle.conf_ast.specs.declared.filters.LogicalOp.{LogicalOp}
use Rattle.conf_ast.specs.declared.filters.Expr.{Expr}
use Rattle.expr_syntax.specs.View.{mul_op_symbol, add_op_symbol, logical_op_symbol, property_tree}
use Rattle.expr_syntax.specs.View.{method_tree, derivations}

abbrev pub access_of : Access Expr → Word × ParseTree
access_of (accesses.Property p) = (words.Symbol sym.Dot, property_tree p)
access_of (accesses.Method m place e) =
    (words.Symbol sym.Dot, Right (method_tree m place (derivations e).expr))

abbrev pub mul_op_of : MulOp × Expr → Word × ParseTree
mul_op_of x = (words.Symbol (mul_op_symbol x.0), (derivations x.1).unary)

abbrev pub add_op_of : AddOp × Expr → Word × ParseTree
add_op_of x = (words.Symbol (add_op_symbol x.0), (derivations x.1).product)

abbrev pub logical_op_of : LogicalOp × Expr → Word × ParseTree
logical_op_of x = (words.Symbol (logical_op_symbol x.0), (derivations x.1).comparison)
