-- In an expression the next word always decides: a tree of the grammar alone fits.
use Rattle.std.proofs.Common.{◌≡◌, Bool, true, false, refl}
use Rattle.conf_lex.specs.Grammar.{ParseTree, DerivesLongest, Derives}
use Rattle.expr_syntax.specs.Syntax.{expr, rule}
use Rattle.expr_syntax.specs.Levels.{Level, block_level, body_level, arms_level}
use Rattle.expr_syntax.proofs.Tested.{model, after, checked}
use Rattle.syntax_laws.proofs.Spelled.{strict, spelled_fits}

-- the levels within expressions
abbrev asked : Level → Bool
asked block_level = false
asked body_level = false
asked arms_level = false
asked _ = true

strict_rules : (n : Level) → asked n ≡ true → strict asked after (rule n) ≡ true
strict_rules block_level h = absurd cc
strict_rules body_level h = absurd cc
strict_rules arms_level h = absurd cc
strict_rules _ h = refl

pub expressions_fit : (t : ParseTree) → Derives rule t expr → DerivesLongest rule t expr
expressions_fit t h = spelled_fits rule model after checked asked strict_rules t expr refl refl h
