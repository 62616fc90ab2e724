-- The tree of the grammar that an expression stands for (`derivations`, a line for each variant of
-- `Expr`).
-- Not modelled: types and values, and where an expression lies in memory.
-- From: own; the forms are of BIRD User's Guide, "Filters": "Data types", "Operators", "Route
-- attributes".
-- Example: `1 + 2 * 3` is a sum whose second part is a product.
use Rattle.std.specs.Prelude.{ℕ, List, [], ◌∷◌, map}
use Rattle.conf_lex.specs.declared.symbol.Symbol.{Symbol}
use Rattle.conf_lex.specs.declared.symbol.Symbol.TheVariants as sym
use Rattle.conf_lex.specs.declared.word.Word.{Word}
use Rattle.conf_lex.specs.declared.word.Word.TheVariants as words
use Rattle.conf_ast.specs.declared.named.Name.{Name}
use Rattle.conf_lex.specs.Grammar.{ParseTree, Leaf, NoWords, Pair, Left, Right, Single, Snoc}
use Rattle.conf_lex.specs.Grammar.{Deeper}
use Rattle.conf_lex.specs.Leaves.{symbol_leaf, name_leaf, between}
use Rattle.conf_ast.specs.declared.filters.Atom.{Atom}
use Rattle.conf_ast.specs.declared.filters.Atom.TheVariants as atoms
use Rattle.conf_ast.specs.declared.filters.Property.{Property}
use Rattle.conf_ast.specs.declared.filters.Property.TheVariants as properties
use Rattle.conf_ast.specs.declared.filters.MethodKind.{MethodKind}
use Rattle.conf_ast.specs.declared.filters.MethodKind.TheVariants as methods
use Rattle.conf_ast.specs.declared.filters.Method.{Method}
use Rattle.conf_ast.specs.declared.filters.Access.{Access}
use Rattle.conf_ast.specs.declared.filters.Access.TheVariants as accesses
use Rattle.conf_ast.specs.declared.filters.MulOp.{MulOp}
use Rattle.conf_ast.specs.declared.filters.MulOp.TheVariants as mul_ops
use Rattle.conf_ast.specs.declared.filters.AddOp.{AddOp}
use Rattle.conf_ast.specs.declared.filters.AddOp.TheVariants as add_ops
use Rattle.conf_ast.specs.declared.filters.CompareOp.{CompareOp}
use Rattle.conf_ast.specs.declared.filters.CompareOp.TheVariants as compare_op_ops
use Rattle.conf_ast.specs.declared.filters.LogicalOp.{LogicalOp}
use Rattle.conf_ast.specs.declared.filters.LogicalOp.TheVariants as logical_ops
use Rattle.conf_ast.specs.declared.filters.Expr.{Expr, fold-Expr}
use Rattle.conf_ast.specs.declared.filters.Expr.TheOpen.{Expr-F}
use Rattle.expr_syntax.specs.ItemView.{items_tree, mask_items_tree}

-- ---- the words

abbrev pub property_symbol : Property → Symbol
property_symbol properties.Len = sym.Len
property_symbol properties.First = sym.First
property_symbol properties.Last = sym.Last
property_symbol properties.Ip = sym.Ip

abbrev pub method_symbol : MethodKind → Symbol
method_symbol methods.Prepend = sym.Prepend
method_symbol methods.Add = sym.Add
method_symbol methods.Delete = sym.Delete
method_symbol methods.Filter = sym.Filter

abbrev pub mul_op_symbol : MulOp → Symbol
mul_op_symbol mul_ops.Times = sym.Star
mul_op_symbol mul_ops.Over = sym.Slash

abbrev pub add_op_symbol : AddOp → Symbol
add_op_symbol add_ops.Plus = sym.Plus
add_op_symbol add_ops.Minus = sym.Minus

abbrev pub compare_op_symbol : CompareOp → Symbol
compare_op_symbol compare_op_ops.Equal = sym.Equal
compare_op_symbol compare_op_ops.NotEqual = sym.NotEqual
compare_op_symbol compare_op_ops.Less = sym.Less
compare_op_symbol compare_op_ops.LessOrEqual = sym.LessOrEqual
compare_op_symbol compare_op_ops.Greater = sym.Greater
compare_op_symbol compare_op_ops.GreaterOrEqual = sym.GreaterOrEqual
compare_op_symbol compare_op_ops.Matches = sym.Matches
compare_op_symbol compare_op_ops.MatchesNot = sym.MatchesNot

abbrev pub logical_op_symbol : LogicalOp → Symbol
logical_op_symbol logical_ops.And = sym.And
logical_op_symbol logical_ops.Or = sym.Or

abbrev pub method_word : Method → Word
method_word m = words.Placed m.at (method_symbol m.kind)

abbrev pub atom_word : Atom → Word
atom_word (atoms.Number at value) = words.Number at value
atom_word (atoms.Text at start len) = words.Text at start len
atom_word (atoms.Ip at addr) = words.Ip at addr
atom_word (atoms.Prefix at net) = words.Prefix at net
atom_word (atoms.True at) = words.Placed at sym.True
atom_word (atoms.False at) = words.Placed at sym.False
atom_word (atoms.EmptyPath at) = words.Placed at sym.EmptyPath
atom_word (atoms.EmptyClist at) = words.Placed at sym.EmptyClist
atom_word (atoms.Attribute at attribute) = words.Attribute at attribute
atom_word (atoms.Constant at constant) = words.Constant at constant

-- ---- the trees

-- The trees of an expression as each form, where it is one, and the least form that it is.
pub record Derivations : Type 0 where
  pub precedence : ℕ
  pub primary : ParseTree
  pub postfix : ParseTree
  pub unary : ParseTree
  pub product : ParseTree
  pub sum : ParseTree
  pub comparison : ParseTree
  pub expr : ParseTree

abbrev pub as_expr : ParseTree → Derivations
as_expr t = record {
  precedence = 6;
  primary = NoWords;
  postfix = NoWords;
  unary = NoWords;
  product = NoWords;
  sum = NoWords;
  comparison = NoWords;
  expr = t;
}

abbrev pub as_comparison : ParseTree → Derivations
as_comparison t = record {
  precedence = 5;
  primary = NoWords;
  postfix = NoWords;
  unary = NoWords;
  product = NoWords;
  sum = NoWords;
  comparison = t;
  expr = Single t;
}

-- a form where another may follow, alone
abbrev pub alone : ParseTree → ParseTree
alone t = Pair t (Right NoWords)

abbrev pub as_sum : ParseTree → Derivations
as_sum t = record {
  precedence = 4;
  primary = NoWords;
  postfix = NoWords;
  unary = NoWords;
  product = NoWords;
  sum = t;
  comparison = alone t;
  expr = Single (alone t);
}

abbrev pub as_product : ParseTree → Derivations
as_product t = record {
  precedence = 3;
  primary = NoWords;
  postfix = NoWords;
  unary = NoWords;
  product = t;
  sum = Single t;
  comparison = alone (Single t);
  expr = Single (alone (Single t));
}

abbrev pub as_unary : ParseTree → Derivations
as_unary t = record {
  precedence = 2;
  primary = NoWords;
  postfix = NoWords;
  unary = t;
  product = Single t;
  sum = Single (Single t);
  comparison = alone (Single (Single t));
  expr = Single (alone (Single (Single t)));
}

abbrev pub as_postfix : ParseTree → Derivations
as_postfix t = record {
  precedence = 1;
  primary = NoWords;
  postfix = t;
  unary = Right t;
  product = Single (Right t);
  sum = Single (Single (Right t));
  comparison = alone (Single (Single (Right t)));
  expr = Single (alone (Single (Single (Right t))));
}

abbrev pub as_primary : ParseTree → Derivations
as_primary t = record {
  precedence = 0;
  primary = t;
  postfix = Single t;
  unary = Right (Single t);
  product = Single (Right (Single t));
  sum = Single (Single (Right (Single t)));
  comparison = alone (Single (Single (Right (Single t))));
  expr = Single (alone (Single (Single (Right (Single t)))));
}

-- parts after a tree, each behind its word
abbrev pub parts_after : ParseTree → List (Word × ParseTree) → ParseTree
parts_after t [] = t
parts_after t (x ∷ xs) = parts_after (Snoc t (Pair (Leaf x.0) x.1)) xs

-- the parts of a chain behind its first; a chain without any has no tree of its own, since its
-- first part is that
abbrev pub chain_of : ParseTree → List (Word × ParseTree) → ParseTree
chain_of t [] = NoWords
chain_of t (x ∷ xs) = parts_after t (x ∷ xs)

-- one more, behind a comma
abbrev pub with_next : ParseTree → ParseTree → ParseTree
with_next t next = Snoc t (Pair (symbol_leaf sym.Comma) next)

abbrev pub listed_after : ParseTree → List ParseTree → ParseTree
listed_after t [] = t
listed_after t (x ∷ xs) = listed_after (with_next t x) xs

-- one or more between commas; there is no tree of none
abbrev pub listed_tree : List ParseTree → ParseTree
listed_tree [] = NoWords
listed_tree (x ∷ xs) = listed_after (Single x) xs

-- any number between commas
abbrev pub arguments_tree : List ParseTree → ParseTree
arguments_tree [] = Right NoWords
arguments_tree (x ∷ xs) = Left (listed_after (Single x) xs)

-- parentheses round a tree, with the place of the first of them
abbrev pub in_parentheses : ℕ → ParseTree → ParseTree
in_parentheses at t = between (words.Placed at sym.OpenParenthesis) t sym.CloseParenthesis

abbrev pub second_part : ParseTree → ParseTree
second_part t = Pair (symbol_leaf sym.Comma) t

-- the kinds of primary expressions, in the order of the grammar's line
abbrev pub atom_tree : Word → ParseTree
atom_tree w = Left (Leaf w)

abbrev pub named_tree : Name → ParseTree → ParseTree
named_tree n call = Right (Left (Pair (name_leaf n) call))

abbrev pub group_tree : ℕ → ParseTree → ParseTree
group_tree at inside = Right (Right (Left (in_parentheses at inside)))

abbrev pub set_tree : ℕ → ParseTree → ParseTree
set_tree at items =
    Right (Right (Right (Left
    (between (words.Placed at sym.OpenBracket) items sym.CloseBracket))))

abbrev pub mask_tree : ℕ → ParseTree → ParseTree
mask_tree at items =
    Right (Right (Right (Right (Left (Pair (Pair (Leaf (words.Placed at sym.OpenMask)) items)
    (symbol_leaf sym.CloseMask))))))

abbrev pub defined_tree : ℕ → ℕ → Word → ParseTree
defined_tree at place attribute = Right (Right (Right (Right (Right (Left
    (Pair (Leaf (words.Placed at sym.Defined)) (in_parentheses place (Leaf attribute))))))))

abbrev pub method_call_tree : Method → ℕ → ParseTree → ParseTree → ParseTree
method_call_tree m place a b = Right (Right (Right (Right (Right (Right
    (Pair (Leaf (method_word m)) (in_parentheses place (Pair a (second_part b)))))))))

-- what stands behind a dot
abbrev pub property_tree : Property → ParseTree
property_tree p = Left (symbol_leaf (property_symbol p))

abbrev pub method_tree : Method → ℕ → ParseTree → ParseTree
method_tree m place argument = Pair (Leaf (method_word m)) (in_parentheses place argument)

abbrev pub access_part : Access Derivations → Word × ParseTree
access_part (accesses.Property p) = (words.Symbol sym.Dot, property_tree p)
access_part (accesses.Method m place e) =
    (words.Symbol sym.Dot, Right (method_tree m place e.expr))

abbrev pub mul_op_part : MulOp × Derivations → Word × ParseTree
mul_op_part x = (words.Symbol (mul_op_symbol x.0), x.1.unary)

abbrev pub add_op_part : AddOp × Derivations → Word × ParseTree
add_op_part x = (words.Symbol (add_op_symbol x.0), x.1.product)

abbrev pub logical_op_part : LogicalOp × Derivations → Word × ParseTree
logical_op_part x = (words.Symbol (logical_op_symbol x.0), x.1.comparison)

-- one level, with each expression inside already seen
abbrev pub derivations_step : Expr-F Derivations → Derivations
derivations_step (Expr-F.Atom s) = as_primary (atom_tree (atom_word s))
derivations_step (Expr-F.Name n) = as_primary (named_tree n (Right NoWords))
derivations_step (Expr-F.Call n place es) =
    as_primary (named_tree n (Left (in_parentheses place
    (arguments_tree (map (λ (s : Derivations). s.expr) es.items)))))
derivations_step (Expr-F.Group at e) = as_primary (group_tree at (alone e.value.expr))
derivations_step (Expr-F.Pair at a b) =
    as_primary (group_tree at (Pair a.value.expr (Left (second_part b.value.expr))))
derivations_step (Expr-F.Set at items) = as_primary (set_tree at (items_tree items.items))
derivations_step (Expr-F.Mask at items) = as_primary (mask_tree at (mask_items_tree items.items))
derivations_step (Expr-F.Defined at place attribute_at attribute) =
    as_primary (defined_tree at place (words.Attribute attribute_at attribute))
derivations_step (Expr-F.MethodCall m place a b) =
    as_primary (method_call_tree m place a.value.expr b.value.expr)
derivations_step (Expr-F.Postfix e more) =
    as_postfix (chain_of (Single e.value.primary) (map access_part more.items))
derivations_step (Expr-F.Not at e) =
    as_unary (Left (Deeper (words.Placed at sym.Not) e.value.unary))
derivations_step (Expr-F.Product e more) =
    as_product (chain_of (Single e.value.unary) (map mul_op_part more.items))
derivations_step (Expr-F.Sum e more) =
    as_sum (chain_of (Single e.value.product) (map add_op_part more.items))
derivations_step (Expr-F.Compare op a b) =
    as_comparison (Pair a.value.sum (Left (Pair (symbol_leaf (compare_op_symbol op)) b.value.sum)))
derivations_step (Expr-F.Logical e more) =
    as_expr (chain_of (Single e.value.comparison) (map logical_op_part more.items))

abbrev pub derivations : Expr → Derivations
derivations = fold-Expr Derivations derivations_step

abbrev pub expr_tree : Expr → ParseTree
expr_tree e = (derivations e).expr

-- ---- the parts of chains of expressions

abbrev pub expr_trees : List Expr → List ParseTree
expr_trees es = map expr_tree es
