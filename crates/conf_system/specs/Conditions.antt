-- Which texts are conditions (`IsCondition`), as the one behind `where` of `show route` is, and
-- which are refused (`RefusesCondition`): all tokens of a condition are one expression, and it is
-- checked behind the whole configuration.
-- Not modelled: where a refused text is refused, and when memory runs out.
-- From: BIRD User's Guide, "Remote control", `show route`, and "Filters"; that nothing may stand
-- behind the expression is own.
-- Example: `net.len > 8 # long` is a condition; no text, `@`, `true count`, `1` and `bgp_med = A`
-- without an `A` are refused.
use Rattle.std.specs.Prelude.{◌≡◌, ◌≢◌, ◌⊎◌, ◌<◌, ℕ, List, length}
use Rattle.conf_lex.specs.Grammar.{ParseTree}
use Rattle.conf_scan.specs.Lex.{Lexes, Stops}
use Rattle.conf_scan.specs.declared.token.Token.{Token}
use Rattle.conf_ast.specs.Filters.{Expression, expression_of}
use Rattle.conf_ast.specs.declared.filters.Expr.{Expr}
use Rattle.expr_syntax.specs.Syntax.{expr}
use Rattle.filt_syntax.specs.Tokens.{IsRefusedIn, ParsesAtToken}
use Rattle.expr_syntax.specs.View.{derivations}
use Rattle.filt_syntax.specs.declared.parse.SyntaxFault.{SyntaxFault}
use Rattle.filt_syntax.specs.declared.parse.SyntaxFault.TheVariants.{Memory}
use Rattle.conf_system.specs.Asked.{Asks, Refuses}
use Rattle.conf_system.specs.Policies.{Filter}
use Rattle.conf_system.specs.System.{System}

-- The text's tokens, from the first to the last, are this expression.
pub record IsExpressionText (text : List ℕ) (e : Expression) : Type 0 where
  pub tokens : List Token
  pub lexed : Lexes 0 text tokens
  pub tree : Expr
  pub parsed : ParsesAtToken expr text tokens 0 (derivations tree).expr (length tokens)
  pub is : e ≡ expression_of tree

-- The text has no tokens: at this place none begins.
pub record HasNoTokens (text : List ℕ) : Type 0 where
  pub before : List Token
  pub place : ℕ
  pub stops : Stops 0 text before place

-- No expression stands at the text's first token.
pub record HasNoExpression (text : List ℕ) : Type 0 where
  pub tokens : List Token
  pub lexed : Lexes 0 text tokens
  pub fault : SyntaxFault
  pub refused : IsRefusedIn expr text tokens 0 fault
  pub told : fault ≢ Memory

-- An expression stands there, and tokens are left behind it.
pub record GoesOn (text : List ℕ) : Type 0 where
  pub tokens : List Token
  pub lexed : Lexes 0 text tokens
  pub tree : ParseTree
  pub end : ℕ
  pub parsed : ParsesAtToken expr text tokens 0 tree end
  pub left : end < length tokens

-- the text is no expression
abbrev pub IsNoExpression : List ℕ → Type 0
IsNoExpression text = HasNoTokens text ⊎ HasNoExpression text ⊎ GoesOn text

-- The text is a condition over the system, and asks for the routes that this filter accepts.
abbrev pub IsCondition : System → List ℕ → Filter → Type 0
IsCondition system text filter =
    (e : Expression) × IsExpressionText text e × (system.asked text e ≡ Asks filter)

-- The text is refused as a condition: it is no expression, or one that is refused when it is
-- checked.
abbrev pub RefusesCondition : System → List ℕ → Type 0
RefusesCondition system text =
    IsNoExpression text
    ⊎ ((e : Expression) × IsExpressionText text e × (system.asked text e ≡ Refuses))
