-- The tree of the n-th of several forms (`nth`, `beyond`), of any number of a form in a row
-- (`row_tree`), and of a semicolon: for the trees of statements, here and in the grammars above.
-- From: own.
-- Example: of the form `a | b | c` the word `b` is `Right (Left ..)`.
use Rattle.std.specs.Prelude.{ℕ, List, [], ◌∷◌}
use Rattle.std.proofs.Common.{zero, suc}
use Rattle.conf_lex.specs.declared.symbol.Symbol.TheVariants as sym
use Rattle.conf_lex.specs.Grammar.{ParseTree, NoWords, Left, Right, Single, Snoc}
use Rattle.conf_lex.specs.Leaves.{symbol_leaf}

abbrev pub semicolon_leaf : ParseTree
semicolon_leaf = symbol_leaf sym.Semicolon

-- a choice of several, one after another: the first, or one of those behind it
abbrev pub nth : ℕ → ParseTree → ParseTree
nth zero t = Left t
nth (suc n) t = Right (nth n t)

-- the last of them
abbrev pub beyond : ℕ → ParseTree → ParseTree
beyond zero t = t
beyond (suc n) t = Right (beyond n t)

-- statements after statements
abbrev pub row_after : ParseTree → List ParseTree → ParseTree
row_after t [] = t
row_after t (s ∷ ss) = row_after (Snoc t s) ss

abbrev pub row_tree : List ParseTree → ParseTree
row_tree ss = row_after (Single NoWords) ss
