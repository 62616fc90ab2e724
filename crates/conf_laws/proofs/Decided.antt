-- In a configuration too the next word decides, but for an `else`.
use Rattle.std.proofs.Common.{◌≡◌, refl}
use Rattle.conf_lex.specs.Grammar.{ParseTree, yield, DerivesLongest, Derives}
use Rattle.expr_syntax.specs.Syntax.{rule}
use Rattle.syntax_laws.proofs.Decided.{decided}
use Rattle.conf_syntax.specs.Syntax.{config}
use Rattle.conf_tree.proofs.Tested.{config_checked}

pub sentences : (t : ParseTree) → Derives rule t config → (u : ParseTree) × DerivesLongest rule u config × (yield u ≡ yield t)
sentences = decided config config_checked refl
