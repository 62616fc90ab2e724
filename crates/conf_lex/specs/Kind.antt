-- The sort of a word (`Kind`), which is all that a grammar looks at.
-- Not modelled: places, values, and the bytes of names and texts.
-- From: own.
-- Example: `7` and `8` are of one sort, `if` and `else` of two.
use Rattle.std.specs.Prelude.{Bool, true, false, cond}
use Rattle.conf_lex.specs.Symbols.{is_placed}
use denote.Enum.Bare.{sameb}
use Rattle.conf_ast.specs.contracts.attribute.Attribute as attribute_type
use Rattle.conf_lex.specs.contracts.symbol.Symbol as symbol_type
use Rattle.conf_ast.specs.declared.attribute.Attribute.{Attribute}
use Rattle.conf_lex.specs.declared.symbol.Symbol.{Symbol}
use Rattle.conf_lex.specs.declared.word.Word.{Word}
use Rattle.conf_lex.specs.declared.word.Word.TheVariants as words

pub data Kind : Type 0 where
  IsNumber : Kind
  IsName : Kind
  IsText : Kind
  IsAddress : Kind
  IsPrefix : Kind
  IsNoPrefix : Kind  -- an address, a slash and a number that make no prefix: no form takes it
  IsAttribute : Attribute → Kind
  IsConstant : Kind
  IsSymbol : Symbol → Kind
  -- a symbol with a place that it doesn't carry, or without the one that it does: no text gives it
  IsStray : Kind

abbrev pub kind_of : Word → Kind
kind_of (words.Name at start len) = IsName
kind_of (words.Number at value) = IsNumber
kind_of (words.Text at start len) = IsText
kind_of (words.Ip at addr) = IsAddress
kind_of (words.Prefix at net) = IsPrefix
kind_of (words.BadPrefix at) = IsNoPrefix
kind_of (words.Attribute at a) = IsAttribute a
kind_of (words.Constant at c) = IsConstant
kind_of (words.Symbol s) = cond (is_placed s) IsStray (IsSymbol s)
kind_of (words.Placed at s) = cond (is_placed s) (IsSymbol s) IsStray

-- ---- the tests of a kind

abbrev pub number : Kind → Bool
number IsNumber = true
number _ = false

abbrev pub name : Kind → Bool
name IsName = true
name _ = false

abbrev pub text : Kind → Bool
text IsText = true
text _ = false

abbrev pub address : Kind → Bool
address IsAddress = true
address _ = false

abbrev pub prefix : Kind → Bool
prefix IsPrefix = true
prefix _ = false

abbrev pub symbol : Symbol → Kind → Bool
symbol wanted (IsSymbol s) = sameb symbol_type.the_type s wanted
symbol wanted _ = false

abbrev pub attribute : Attribute → Kind → Bool
attribute wanted (IsAttribute a) = sameb attribute_type.the_type a wanted
attribute wanted _ = false

abbrev pub is_attribute : Kind → Bool
is_attribute (IsAttribute a) = true
is_attribute _ = false

abbrev pub is_constant : Kind → Bool
is_constant IsConstant = true
is_constant _ = false
