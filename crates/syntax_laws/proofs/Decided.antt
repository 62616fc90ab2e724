-- An `else` goes to the nearest `if` that it can go to, and else the next word decides: a tree of the grammar alone has
-- one of the same words that fits.
use Rattle.std.proofs.Common.{◌≡◌, Bool, true, false, refl}
use Rattle.conf_lex.specs.declared.symbol.Symbol.TheVariants as symbols
use Rattle.conf_lex.specs.Kind.{Kind, symbol}
use Rattle.conf_lex.specs.Grammar.{ParseTree, yield, DerivesLongest, Derives}
use Rattle.conf_lex.proofs.Checks.{check}
use Rattle.syntax_laws.proofs.Mended.{takes, decides, mended}
use Rattle.expr_syntax.specs.Syntax.{rule, stmt, block}
use Rattle.expr_syntax.specs.Levels.{Level, Form, group_level, body_level}
use Rattle.expr_syntax.proofs.Tested.{model, after, checked}

abbrev pub is_else : Kind → Bool
is_else k = symbol symbols.Else k

abbrev pub is_body : Level → Bool
is_body body_level = true
is_body _ = false

body_is : (n : Level) → is_body n ≡ true → n ≡ body_level
body_is body_level e = refl
body_is _ e = absurd cc

taking : (n : Level) → takes is_else is_body (rule n) ≡ true
taking group_level = refl
taking _ = refl

-- whether the next word decides in a form, but for such an `else`
abbrev pub is_decided : Form → Bool
is_decided f = decides is_else is_body after f

deciding : (n : Level) → is_decided (rule n) ≡ true
deciding group_level = refl
deciding _ = refl

pub decided : (f : Form) → check model after f ≡ true → is_decided f ≡ true → (t : ParseTree) → Derives rule t f → (u : ParseTree) × DerivesLongest rule u f × (yield u ≡ yield t)
decided f ok one t h = mended rule model after checked is_else is_body body_level body_is taking deciding t f ok one h

pub statements : (t : ParseTree) → Derives rule t stmt → (u : ParseTree) × DerivesLongest rule u stmt × (yield u ≡ yield t)
statements = decided stmt refl refl

pub blocks : (t : ParseTree) → Derives rule t block → (u : ParseTree) × DerivesLongest rule u block × (yield u ≡ yield t)
blocks = decided block refl refl
