-- The grammar of filters (`rule`): a form for each production, with its line in the notation of the
-- grammar above it. A quoted word is the symbol of that spelling; `[ ]` may be left out, `{ }` is
-- any number of times, `|` is a choice. docs/DEFINITIONS.md compares it with BIRD's.
-- Not modelled: which bytes are words (conf_lex), declarations of filters and functions
-- (conf_tree), what names stand for, types, and what expressions and statements do.
-- From: BIRD User's Guide, "Filters": "Introduction", "Data types", "Operators", "Control
-- structures", "Route attributes", "Other statements".
-- Example: `a < b < c` is no expression, since a comparison has one sign; `1 + 2 * 3` is a sum of 1
-- and a product.
use Rattle.std.specs.Prelude.{Bool, ◌||◌}
use Rattle.conf_lex.specs.declared.symbol.Symbol.TheVariants as sym
use Rattle.conf_lex.specs.Kind.{Kind, number, name, text, address, prefix, symbol, is_attribute}
use Rattle.conf_lex.specs.Kind.{is_constant}
use Rattle.conf_lex.specs.Grammar.{Terminal, Epsilon, Seq, Alt, Repeat, Nested}
use Rattle.expr_syntax.specs.Levels.{Level, Form, group_level, operand_level, arguments_level}
use Rattle.expr_syntax.specs.Levels.{set_level, block_level, body_level, argument_level, two_level}
use Rattle.expr_syntax.specs.Levels.{attribute_level, pair_level, lengths_level, arms_level}

-- what may be left out
abbrev pub optional : Form → Form
optional f = Alt f Epsilon

-- one or more, between commas
abbrev pub listed : Form → Form
listed f = Repeat f (Seq (Terminal (symbol sym.Comma)) f)

-- any number of them
abbrev pub many : Form → Form
many f = Repeat Epsilon f

-- what stands inside a level, between its signs
abbrev pub parentheses : Level → Form
parentheses n = Seq (Nested (symbol sym.OpenParenthesis) n) (Terminal (symbol sym.CloseParenthesis))

abbrev pub braces : Level → Form
braces n = Seq (Nested (symbol sym.OpenBrace) n) (Terminal (symbol sym.CloseBrace))

-- ---- sets and masks

-- num = NUMBER | NAME of an int constant
abbrev pub is_num : Kind → Bool
is_num k = number k || name k

-- num_range = num [ ".." num ]
abbrev pub num_range : Form
num_range = Seq (Terminal is_num) (optional (Seq (Terminal (symbol sym.Range)) (Terminal is_num)))

-- num_range | "*"
abbrev pub pair_part : Form
pair_part = Alt (Terminal (symbol sym.Star)) num_range

-- "(" (num_range | "*") "," (num_range | "*") ")"
abbrev pub pair_item : Form
pair_item = parentheses pair_level

-- "+" | "-" | "{" num "," num "}"
abbrev pub lengths : Form
lengths = Alt (Terminal (λ k. symbol sym.Plus k || symbol sym.Minus k)) (braces lengths_level)

-- prefix [ "+" | "-" | "{" num "," num "}" ]
abbrev pub prefix_item : Form
prefix_item = Seq (Terminal prefix) (optional lengths)

-- item = num_range | "(" (num_range | "*") "," (num_range | "*") ")" | prefix [ "+" | "-" | "{" num
-- "," num "}" ]
abbrev pub item : Form
item = Alt num_range (Alt pair_item prefix_item)

-- "[" item { "," item } "]"
abbrev pub set : Form
set = Seq (Nested (symbol sym.OpenBracket) set_level) (Terminal (symbol sym.CloseBracket))

-- num_range | "?" | "*"
abbrev pub mask_atom : Form
mask_atom = Alt (Terminal (λ k. symbol sym.Question k || symbol sym.Star k)) num_range

-- mitem = ( num_range | "?" | "*" ) [ "+" ]
abbrev pub mask_item : Form
mask_item = Seq mask_atom (optional (Terminal (symbol sym.Plus)))

-- "[=" { mitem } "=]"
abbrev pub mask : Form
mask = Seq (Seq (Terminal (symbol sym.OpenMask)) (many mask_item)) (Terminal (symbol sym.CloseMask))

-- ---- expressions

-- "prepend" | "add" | "delete" | "filter"
abbrev pub is_method : Kind → Bool
is_method k = symbol sym.Prepend k || symbol sym.Add k || symbol sym.Delete k || symbol sym.Filter k

-- "len" | "first" | "last" | "ip"
abbrev pub is_property : Kind → Bool
is_property k = symbol sym.Len k || symbol sym.First k || symbol sym.Last k || symbol sym.Ip k

-- NUMBER | "true" | "false" | STRING | IP | prefix | ATTR | CONSTANT | "+empty+" | "-empty-"
abbrev pub is_atom : Kind → Bool
is_atom k = number k || text k || address k || prefix k || symbol sym.True k || symbol sym.False k
    || symbol sym.EmptyPath k || symbol sym.EmptyClist k || is_attribute k || is_constant k

-- "(" [ expr { "," expr } ] ")"
abbrev pub call : Form
call = parentheses arguments_level

-- NAME [ "(" [ expr { "," expr } ] ")" ]; a NAME alone may be a constant
abbrev pub named : Form
named = Seq (Terminal name) (optional call)

-- "(" expr ")" | "(" expr "," expr ")"; a pair of two numbers is one of two expressions
abbrev pub group : Form
group = parentheses group_level

-- "(" ATTR ")"
abbrev pub of_attribute : Form
of_attribute = parentheses attribute_level

-- "defined" "(" ATTR ")"
abbrev pub defined : Form
defined = Seq (Terminal (symbol sym.Defined)) of_attribute

-- ("prepend" | "add" | "delete" | "filter") "(" expr "," expr ")"
abbrev pub method_call : Form
method_call = Seq (Terminal is_method) (parentheses two_level)

-- primary = literal | ATTR | CONSTANT | NAME [ "(" [ expr { "," expr } ] ")" ] | "(" expr ")"
--   | "(" expr "," expr ")" | "defined" "(" ATTR ")"
--   | ("prepend" | "add" | "delete" | "filter") "(" expr "," expr ")" | "+empty+" | "-empty-"
abbrev pub primary : Form
primary = Alt (Terminal is_atom) (Alt named (Alt group (Alt set (Alt mask
    (Alt defined method_call)))))

-- ("prepend" | "add" | "delete" | "filter") "(" expr ")"
abbrev pub method : Form
method = Seq (Terminal is_method) (parentheses argument_level)

-- "." ( "len" | "first" | "last" | "ip" | ("prepend" | "add" | "delete" | "filter") "(" expr ")" )
abbrev pub access : Form
access = Seq (Terminal (symbol sym.Dot)) (Alt (Terminal is_property) method)

-- postfix = primary { access }
abbrev pub postfix : Form
postfix = Repeat primary access

-- unary = "!" unary | postfix
abbrev pub unary : Form
unary = Alt (Nested (symbol sym.Not) operand_level) postfix

abbrev pub is_mul_op : Kind → Bool
is_mul_op k = symbol sym.Star k || symbol sym.Slash k

-- product = unary { ("*" | "/") unary }
abbrev pub product : Form
product = Repeat unary (Seq (Terminal is_mul_op) unary)

abbrev pub is_add_op : Kind → Bool
is_add_op k = symbol sym.Plus k || symbol sym.Minus k

-- sum = product { ("+" | "-") product }
abbrev pub sum : Form
sum = Repeat product (Seq (Terminal is_add_op) product)

-- "=" | "!=" | "<" | "<=" | ">" | ">=" | "~" | "!~"
abbrev pub is_compare_op : Kind → Bool
is_compare_op k = symbol sym.Equal k || symbol sym.NotEqual k || symbol sym.Less k
    || symbol sym.LessOrEqual k || symbol sym.Greater k || symbol sym.GreaterOrEqual k
    || symbol sym.Matches k || symbol sym.MatchesNot k

-- comparison = sum [ compare sum ]
abbrev pub comparison : Form
comparison = Seq sum (optional (Seq (Terminal is_compare_op) sum))

-- "&&" | "||"
abbrev pub is_logical_op : Kind → Bool
is_logical_op k = symbol sym.And k || symbol sym.Or k

-- expr = comparison { ("&&" | "||") comparison }
abbrev pub expr : Form
expr = Repeat comparison (Seq (Terminal is_logical_op) comparison)

-- ---- statements

-- "int" | "pair" | "prefix", of which there are sets
abbrev pub has_sets : Kind → Bool
has_sets k = symbol sym.Int k || symbol sym.Pair k || symbol sym.Prefix k

abbrev pub has_no_sets : Kind → Bool
has_no_sets k = symbol sym.Bool k || symbol sym.Ip k || symbol sym.String k
    || symbol sym.PathType k || symbol sym.MaskType k || symbol sym.Clist k

-- vtype = "int" | "bool" | "ip" | "prefix" | "pair" | "string" | "bgppath" | "bgpmask" | "clist"
--   | "int" "set" | "pair" "set" | "prefix" "set"
abbrev pub vtype : Form
vtype = Alt (Terminal has_no_sets) (Seq (Terminal has_sets) (optional (Terminal (symbol sym.Set))))

abbrev pub semicolon : Form
semicolon = Terminal (symbol sym.Semicolon)

-- "{" { stmt } "}"
abbrev pub block : Form
block = braces block_level

-- vtype NAME [ "=" expr ] ";"
abbrev pub declaration : Form
declaration =
    Seq vtype (Seq (Terminal name)
    (Seq (optional (Seq (Terminal (symbol sym.Equal)) expr)) semicolon))

-- "=" expr ";"
abbrev pub assigned : Form
assigned = Seq (Terminal (symbol sym.Equal)) (Seq expr semicolon)

-- "." ( ("prepend" | "add" | "delete" | "filter") "(" expr ")" | "empty" ) ";"
abbrev pub changed : Form
changed = Seq (Terminal (symbol sym.Dot)) (Seq (Alt (Terminal (symbol sym.Empty)) method) semicolon)

-- NAME "=" expr ";" | NAME "." .. ";" | NAME "(" [ expr { "," expr } ] ")" ";", behind the NAME
abbrev pub done_to_name : Form
done_to_name = Alt assigned (Alt changed (Seq call semicolon))

-- ATTR "=" expr ";" | ATTR "." .. ";"
abbrev pub done_to_attribute : Form
done_to_attribute = Seq (Terminal is_attribute) (Alt assigned changed)

-- "unset" "(" ATTR ")" ";"
abbrev pub unset : Form
unset = Seq (Terminal (symbol sym.Unset)) (Seq of_attribute semicolon)

-- "if" expr "then" stmt [ "else" stmt ]
abbrev pub if_stmt : Form
if_stmt = Seq (Seq (Terminal (symbol sym.If)) expr)
    (Seq (Nested (symbol sym.Then) body_level) (optional (Nested (symbol sym.Else) body_level)))

-- "case" expr "{" { item { "," item } ":" { stmt } } [ "else" ":" { stmt } ] "}"
abbrev pub case_stmt : Form
case_stmt = Seq (Seq (Terminal (symbol sym.Case)) expr) (braces arms_level)

-- "for" vtype NAME "in" expr "do" stmt
abbrev pub for_stmt : Form
for_stmt = Seq (Terminal (symbol sym.For)) (Seq vtype (Seq (Terminal name)
    (Seq (Seq (Terminal (symbol sym.In)) expr) (Nested (symbol sym.Do) body_level))))

-- ("accept" | "reject") ";"
abbrev pub verdict_stmt : Form
verdict_stmt = Seq (Terminal (λ k. symbol sym.Accept k || symbol sym.Reject k)) semicolon

-- "return" [ expr ] ";"
abbrev pub return_stmt : Form
return_stmt = Seq (Terminal (symbol sym.Return)) (Seq (optional expr) semicolon)

-- ("print" | "printn") expr { "," expr } ";"
abbrev pub print_stmt : Form
print_stmt =
    Seq (Terminal (λ k. symbol sym.Print k || symbol sym.Printn k)) (Seq (listed expr) semicolon)

-- a statement that no NAME begins
abbrev pub unnamed_stmt : Form
unnamed_stmt = Alt block (Alt semicolon (Alt declaration (Alt done_to_attribute
    (Alt unset (Alt if_stmt (Alt case_stmt (Alt for_stmt
    (Alt verdict_stmt (Alt return_stmt print_stmt)))))))))

-- stmt = block | ";" | vtype NAME [ "=" expr ] ";" | (NAME | ATTR) "=" expr ";"
--   | (NAME | ATTR) "." ( ("prepend" | "add" | "delete" | "filter") "(" expr ")" | "empty" ) ";"
--   | "unset" "(" ATTR ")" ";" | "if" expr "then" stmt [ "else" stmt ]
--   | "case" expr "{" { item { "," item } ":" { stmt } } [ "else" ":" { stmt } ] "}"
--   | "for" vtype NAME "in" expr "do" stmt | "accept" ";" | "reject" ";" | "return" [ expr ] ";"
--   | ("print" | "printn") expr { "," expr } ";" | NAME "(" [ expr { "," expr } ] ")" ";"
abbrev pub stmt : Form
stmt = Alt (Seq (Terminal name) done_to_name) unnamed_stmt

-- ---- the arms of a `case`, in a row: the labels and the statements behind them

-- { "," item } ":"
abbrev pub label_end : Form
label_end = Seq (many (Seq (Terminal (symbol sym.Comma)) item)) (Terminal (symbol sym.Colon))

-- item { "," item } ":"
abbrev pub label : Form
label = Seq item label_end

-- NUMBER [ ".." num ] | "(" .. ")" | prefix ..: an item that no NAME begins
abbrev pub unnamed_item : Form
unnamed_item =
    Alt (Seq (Terminal number) (optional (Seq (Terminal (symbol sym.Range)) (Terminal is_num))))
    (Alt pair_item prefix_item)

-- a NAME begins a statement or a label: [ ".." num ] { "," item } ":" behind the NAME
abbrev pub label_of_name : Form
label_of_name = Seq (optional (Seq (Terminal (symbol sym.Range)) (Terminal is_num))) label_end

-- a statement or a label
abbrev pub arm_part : Form
arm_part = Alt (Seq (Terminal name) (Alt done_to_name label_of_name))
    (Alt (Seq unnamed_item label_end) unnamed_stmt)

-- { item { "," item } ":" { stmt } } [ "else" ":" { stmt } ]: a label begins the row, and the rest
-- is statements and labels
abbrev pub arms : Form
arms = Seq (optional (Repeat label arm_part))
    (optional (Seq (Terminal (symbol sym.ElseColon)) (many stmt)))

-- what stands inside each level
abbrev pub rule : Level → Form
rule group_level = Seq expr (optional (Seq (Terminal (symbol sym.Comma)) expr))
rule operand_level = unary
rule arguments_level = optional (listed expr)
rule set_level = listed item
rule block_level = many stmt
rule body_level = stmt
rule argument_level = expr
rule two_level = Seq expr (Seq (Terminal (symbol sym.Comma)) expr)
rule attribute_level = Terminal is_attribute
rule pair_level = Seq pair_part (Seq (Terminal (symbol sym.Comma)) pair_part)
rule lengths_level = Seq (Terminal is_num) (Seq (Terminal (symbol sym.Comma)) (Terminal is_num))
rule arms_level = arms
