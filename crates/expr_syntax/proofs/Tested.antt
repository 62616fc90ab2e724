-- The grammar passes the test.
use Rattle.std.proofs.Common.{◌≡◌, ℕ, Bool, true, false, ◌||◌, refl}
use Rattle.conf_ast.specs.declared.attribute.Attribute.TheVariants as attributes
use Rattle.conf_lex.specs.declared.symbol.Symbol.{Symbol}
use Rattle.conf_lex.specs.declared.symbol.Symbol.TheVariants as symbols
use Rattle.conf_lex.specs.declared.word.Word.TheVariants as words
use Rattle.conf_lex.specs.Kind.{Kind, symbol}
use Rattle.conf_lex.specs.Grammar.{Repeat, ParseTree, Leaf, NoWords, Pair, Left, Right, Single, DerivesLongest}
use Rattle.conf_lex.proofs.Checks.{check, more, Checked, not, all_of, kinds, is_kind, all_in, good, next_of, solid_of}
use Rattle.conf_lex.proofs.Good.{Good, Solid}
use Rattle.conf_lex.proofs.Chains.{Next}
use Rattle.conf_lex.specs.Reading.{read}
use Rattle.expr_syntax.specs.Syntax.{rule}
use Rattle.expr_syntax.specs.Levels.{Level, Form, group_level, operand_level, arguments_level, set_level, block_level, body_level, argument_level, two_level, attribute_level, pair_level, lengths_level, arms_level}

-- what may go on with the trees of each level: nothing but what a closing sign ends, a method or arguments behind an
-- operand, an `else` behind a body
abbrev pub after : Level → Kind → Bool
after operand_level k = symbol symbols.Dot k || symbol symbols.OpenParenthesis k
after set_level k = not (symbol symbols.CloseBracket k)
after block_level k = not (symbol symbols.CloseBrace k)
after body_level k = symbol symbols.Else k
after lengths_level k = not (symbol symbols.CloseBrace k)
after arms_level k = not (symbol symbols.CloseBrace k)
after _ k = not (symbol symbols.CloseParenthesis k)

abbrev number_leaf : ParseTree
number_leaf = Leaf (words.Number 0 0)

abbrev sign_leaf : Symbol → ParseTree
sign_leaf s = Leaf (words.Symbol s)

-- the number 0 as an operand and as an expression
abbrev unary_model : ParseTree
unary_model = Right (Single (Left number_leaf))

abbrev expr_model : ParseTree
expr_model = Single (Pair (Single (Single unary_model)) (Right NoWords))

-- a tree for each level, none of which opens another
abbrev pub model : Level → ParseTree
model group_level = Pair expr_model (Right NoWords)
model operand_level = unary_model
model arguments_level = Right NoWords
model set_level = Single (Left (Pair number_leaf (Right NoWords)))
model block_level = Single NoWords
model body_level = Right (Right (Left (sign_leaf symbols.Semicolon)))
model argument_level = expr_model
model two_level = Pair expr_model (Pair (sign_leaf symbols.Comma) expr_model)
model attribute_level = Leaf (words.Attribute 0 attributes.Net)
model pair_level = Pair (Left (sign_leaf symbols.Star)) (Pair (sign_leaf symbols.Comma) (Left (sign_leaf symbols.Star)))
model lengths_level = Pair number_leaf (Pair (sign_leaf symbols.Comma) number_leaf)
model arms_level = Pair (Right NoWords) (Right NoWords)

fits : (n : Level) → DerivesLongest rule (model n) (rule n)
fits group_level = (((refl, tt, refl)), tt, refl)
fits operand_level = refl
fits arguments_level = tt
fits set_level = (refl, tt, refl)
fits block_level = tt
fits body_level = refl
fits argument_level = (refl, tt, refl)
fits two_level = ((refl, tt, refl), (refl, (refl, tt, refl), refl), refl)
fits attribute_level = refl
fits pair_level = (refl, (refl, refl, refl), refl)
fits lengths_level = (refl, (refl, refl, refl), refl)
fits arms_level = (tt, tt, refl)

checks : (n : Level) → check model after (rule n) ≡ true
checks group_level = refl
checks _ = refl

abbrev implied : Bool → Bool → Bool
implied true b = b
implied false b = true

implied_is : (a b : Bool) → implied a b ≡ true → a ≡ true → b ≡ true
implied_is true b e h = e
implied_is false b e h = absurd cc

abbrev listed_kinds : Level → Bool
listed_kinds n = all_of kinds (λ k. implied (more after (rule n) k) (after n k))

listed_all : (n : Level) → listed_kinds n ≡ true
listed_all group_level = refl
listed_all _ = refl

pub checked : Checked rule model after
checked = record {
  fits = fits;
  checks = checks;
  table = λ n k e. implied_is (more after (rule n) k) (after n k) (all_in (λ j. implied (more after (rule n) j) (after n j)) k kinds (is_kind k) (listed_all n)) e;
}

-- each form that a function reads passes the test
abbrev pub is_checked : Form → Type 0
is_checked f = check model after f ≡ true

pub good_at : (k : ℕ) (f : Form) → check model after f ≡ true → Good rule k f (read rule k f)
good_at = good rule model after checked

pub next_at : (f g : Form) → check model after (Repeat f g) ≡ true → Next rule f g
next_at = next_of rule model after checked

pub solid_at : (f : Form) → check model after f ≡ true → Solid f
solid_at = solid_of rule model after
