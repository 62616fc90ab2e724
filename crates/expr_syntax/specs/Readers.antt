-- For private contracts alone, all but `expr_at`, which `parts` and the grammars above name:
-- reading each form of an expression, where k more levels may be opened. The forms are those of
-- `Syntax`, reading is `read` of conf_lex.
-- Not modelled: memory.
-- From: own.
use Rattle.std.specs.Prelude.{ℕ}
use Rattle.conf_lex.specs.declared.symbol.Symbol.TheVariants as sym
use Rattle.conf_ast.specs.declared.named.Name.{Name}
use Rattle.conf_lex.specs.Kind.{symbol}
use Rattle.conf_lex.specs.Grammar.{Terminal, Alt, Nested, Left, Right, Pair}
use Rattle.conf_lex.specs.Leaves.{name_leaf}
use Rattle.conf_lex.specs.Reading.{Reader, Parsed, and_then, read}
use Rattle.expr_syntax.specs.Syntax.{parentheses, optional, expr, comparison, sum, product, unary}
use Rattle.expr_syntax.specs.Syntax.{postfix, primary, vtype}
use Rattle.expr_syntax.specs.Syntax.{method, is_property, call, rule}
use Rattle.expr_syntax.specs.Levels.{Level, Form}

unfoldable pub expr_at : ℕ → Reader
expr_at k = read rule k expr

unfoldable pub comparison_at : ℕ → Reader
comparison_at k = read rule k comparison

unfoldable pub sum_at : ℕ → Reader
sum_at k = read rule k sum

unfoldable pub product_at : ℕ → Reader
product_at k = read rule k product

unfoldable pub unary_at : ℕ → Reader
unary_at k = read rule k unary

unfoldable pub postfix_at : ℕ → Reader
postfix_at k = read rule k postfix

unfoldable pub primary_at : ℕ → Reader
primary_at k = read rule k primary

-- METHOD "(" expr ")"
unfoldable pub method_at : ℕ → Reader
method_at k = read rule k method

-- a property or a method, behind its dot
abbrev pub behind_dot : Form
behind_dot = Alt (Terminal is_property) method

unfoldable pub behind_dot_at : ℕ → Reader
behind_dot_at k = read rule k behind_dot

unfoldable pub level_at : Level → ℕ → Reader
level_at n k = read rule k (parentheses n)

-- its opening parenthesis
unfoldable pub opened_at : Level → ℕ → Reader
opened_at n k = read rule k (Nested (symbol sym.OpenParenthesis) n)

-- what stands inside it
unfoldable pub inside_at : Level → ℕ → Reader
inside_at n k = read rule k (rule n)

-- arguments or none, behind a name
unfoldable pub call_at : ℕ → Reader
call_at k = read rule k (optional call)

-- a name, by the words after it
unfoldable pub named_at : ℕ → Name → Reader
named_at k n ws =
    and_then (call_at k ws) (λ c rest. Parsed (Right (Left (Pair (name_leaf n) c))) rest)

-- the type of a variable
unfoldable pub vtype_at : ℕ → Reader
vtype_at k = read rule k vtype
