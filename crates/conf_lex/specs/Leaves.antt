-- The trees of a name, of a symbol, and of what stands between two words (`name_leaf`,
-- `symbol_leaf`, `between`).
-- From: own.
-- Example: a name's tree has one word, of the sort name.
use Rattle.conf_lex.specs.declared.symbol.Symbol.{Symbol}
use Rattle.conf_lex.specs.declared.word.Word.{Word}
use Rattle.conf_lex.specs.declared.word.Word.TheVariants as words
use Rattle.conf_ast.specs.declared.named.Name.{Name}
use Rattle.conf_lex.specs.Grammar.{ParseTree, Leaf, Pair, Deeper}

abbrev pub name_leaf : Name → ParseTree
name_leaf n = Leaf (words.Name n.at n.start n.len)

abbrev pub symbol_leaf : Symbol → ParseTree
symbol_leaf s = Leaf (words.Symbol s)

-- an opening word, a tree, and a closing symbol
abbrev pub between : Word → ParseTree → Symbol → ParseTree
between first t last = Pair (Deeper first t) (symbol_leaf last)
