-- An expression that ends with its text.
use Rattle.std.proofs.Common.{◌≡◌, ◌≤◌, ◌+◌, subst, refl, ℕ, List, length, arith}
use Rattle.conf_lex.specs.Grammar.{ParseTree}
use Rattle.conf_scan.specs.Lex.{Lexes}
use Rattle.conf_scan.specs.declared.token.Token.{Token}
use Rattle.conf_ast.specs.Filters.{expression_of}
use Rattle.conf_ast.specs.declared.filters.Expr.{Expr}
use Rattle.expr_syntax.specs.Syntax.{expr}
use Rattle.expr_syntax.specs.View.{derivations}
use Rattle.filt_syntax.specs.Tokens.{ParsesAtToken}
use Rattle.filt_syntax.proofs.RefusedTokens.{below_words}
use Rattle.conf_system.specs.Conditions.{IsExpressionText}

-- the end of what is parsed is no further than that of the tokens
pub ends_within : (text : List ℕ) (tokens : List Token) (t : ParseTree) (end : ℕ) → ParsesAtToken expr text tokens 0 t end → end ≤ length tokens
ends_within text tokens t end parsed =
    let low = below_words text (length tokens) 0 0 tokens (omega arith) parsed.place in
    omega (arith, parsed.ends, low)

-- an expression that ends with the last token
pub all_told : (text : List ℕ) (tokens : List Token) (tree : Expr) (end : ℕ) → Lexes 0 text tokens → ParsesAtToken expr text tokens 0 (derivations tree).expr end → length tokens ≤ end → IsExpressionText text (expression_of tree)
all_told text tokens tree end lexed parsed past =
    let ends : end ≡ length tokens = omega (arith, past, ends_within text tokens (derivations tree).expr end parsed) in
    record {
      tokens = tokens;
      lexed = lexed;
      tree = tree;
      parsed = subst (λ (n : ℕ). ParsesAtToken expr text tokens 0 (derivations tree).expr n) ends parsed;
      is = refl;
    }
