-- For private contracts alone: the shapes that the parts of grammars have, as they are read.
use Rattle.std.specs.Prelude.{Bool, false, ◌||◌}
use Rattle.conf_lex.specs.declared.symbol.Symbol.{Symbol}
use Rattle.conf_lex.specs.declared.word.Word.{Word}
use Rattle.conf_lex.specs.Kind.{Kind, symbol}
use Rattle.conf_lex.specs.Grammar.{ParseTree, Pair, Deeper}
use Rattle.conf_lex.specs.Reading.{Reader, Parsed, and_then, word, blank, both, either, all_turns}

-- what goes on after a tree, each part behind a word of these kinds
unfoldable pub links : (Kind → Bool) → Reader → ParseTree → Reader
links p r = all_turns (λ k. p k || false) (both (word p) r)

-- a part, and perhaps another behind a word of these kinds
unfoldable pub with_optional : (Kind → Bool) → Reader → Reader → Reader
with_optional p r s = both r (either (λ k. p k || false) (both (word p) s) blank)

-- what stands behind an opening word, and the closing symbol
unfoldable pub closed : Word → Reader → Symbol → Reader
closed first r last ws =
    and_then (r ws) (λ t rest. and_then (word (symbol last) rest)
    (λ c end. Parsed (Pair (Deeper first t) c) end))
