-- For the laws of refusals: that some configuration begins with tokens of a text (`BeginSome`),
-- within 64 levels or with the 65th behind them (`IsConfigOrDeeper`).
-- From: own.
-- Example: behind `route 10.0.0.0` a slash and a length can come.
use Rattle.std.specs.Prelude.{◌≡◌, ◌≤◌, ◌⊎◌, ℕ, List, ◌++◌, length}
use Rattle.conf_scan.specs.Lex.{Lexes}
use Rattle.conf_scan.specs.declared.token.Token.{Token}
use Rattle.conf_lex.specs.Grammar.{ParseTree, yield, DerivesLongest}
use Rattle.expr_syntax.specs.Syntax.{rule}
use Rattle.filt_syntax.specs.declared.parse.SyntaxFault.TheVariants as faults
use Rattle.conf_syntax.specs.Syntax.{config}
use Rattle.conf_words.specs.Significant.{significant_words}
use Rattle.conf_tree.specs.Sentence.{IsRefused}
use Rattle.conf_tree.specs.Read.{IsConfigText}
use Rattle.conf_laws.specs.Alike.{AreAlike}

-- The text is a configuration; or it is refused for its levels alone, at a token behind so many.
abbrev pub IsConfigOrDeeper : List ℕ → List Token → ℕ → ParseTree → Type 0
IsConfigOrDeeper text tokens count tree =
    IsConfigText text tree
    ⊎ ((token : ℕ) × IsRefused text tokens (faults.TooDeep token) × (count ≤ token))

-- Another text begins with tokens like these, kind for kind and byte for byte, and all its words
-- are a configuration of the grammar. It is a configuration, or opens more than 64 levels, and the
-- 65th behind these tokens.
pub record BeginSome (text : List ℕ) (front : List Token) : Type 0 where
  pub other : List ℕ
  pub seen : List Token
  pub more : List Token
  pub tree : ParseTree
  pub lexes : Lexes 0 other (seen ++ more)
  pub alike : AreAlike text front other seen
  pub fits : DerivesLongest rule tree config
  pub reads : yield tree ≡ significant_words other (seen ++ more)
  pub levels : IsConfigOrDeeper other (seen ++ more) (length seen) tree
