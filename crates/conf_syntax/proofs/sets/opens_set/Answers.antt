use Rattle.std.proofs.Common.{refl, sym, ◌∙◌}
use Rattle.conf_lex.specs.declared.symbol.Symbol.TheVariants as symbols
use Rattle.conf_lex.proofs.Symbols.{other_word, placed_test}
use Rattle.conf_syntax.proofs.sets.opens_set.Goals as goal

pub returns-in-Placed : goal.returns-in-Placed
returns-in-Placed c = c.eq.ensures ∙ placed_test c.args.word.now _ c.in-Placed.symbol symbols.OpenBracket c.in-Placed.is refl

pub returns-in_default : goal.returns-in_default
returns-in_default c = sym (other_word c.args.word.now symbols.OpenBracket refl c.in_default.not-Placed)
