-- The levels of nesting of the grammar of filters (`Level`), and forms in a grammar with these
-- levels: brackets, `!`, arguments and bodies.
-- Not modelled here: what stands inside each (`Syntax`), and how many may be open (`Parse`).
-- From: BIRD User's Guide, "Filters": "Introduction", "Data types", "Operators", "Control
-- structures".
-- Example: `(a)` opens one level, `((a))` two, one within the other.
use Rattle.conf_lex.specs.Grammar as grammars

-- by what stands inside
pub data Level : Type 0 where
  group_level : Level  -- "(" here ")" in an expression
  operand_level : Level  -- "!" here
  arguments_level : Level  -- NAME "(" here ")"
  set_level : Level  -- "[" here "]"
  block_level : Level  -- "{" here "}" of statements
  body_level : Level  -- "then" here, "else" here, "do" here
  argument_level : Level  -- "." METHOD "(" here ")"
  two_level : Level  -- METHOD "(" here ")"
  attribute_level : Level  -- "defined" "(" here ")", "unset" "(" here ")"
  pair_level : Level  -- "(" here ")" of an item
  lengths_level : Level  -- "{" here "}" behind a prefix
  arms_level : Level  -- "{" here "}" of a `case`

abbrev pub Form : Type 0
Form = grammars.Form Level
