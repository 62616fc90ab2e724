-- For private contracts alone: reading each of these forms, where k more levels may be opened; the
-- forms are those of Syntax.
use Rattle.std.specs.Prelude.{ℕ}
use Rattle.conf_lex.specs.declared.symbol.Symbol.TheVariants as sym
use Rattle.conf_lex.specs.Kind.{name, address, symbol}
use Rattle.conf_lex.specs.Grammar.{Terminal, Seq, Alt, ParseTree}
use Rattle.conf_lex.specs.Reading.{Reader, Parsed, and_then, word, both}
use Rattle.conf_lex.specs.Reading.{read}
use Rattle.expr_syntax.specs.Syntax.{optional, is_num, semicolon, rule}
use Rattle.expr_syntax.specs.Levels.{Form}
use Rattle.conf_syntax.specs.Syntax.{is_switch, action, ended_options}
use Rattle.conf_syntax.specs.Syntax.{route_target, transport}
use Rattle.conf_syntax.specs.Syntax.{literal}

-- what is read, as a part of a whole
abbrev pub seen_as : Reader → (ParseTree → ParseTree) → Reader
seen_as r whole ws = and_then (r ws) (λ t rest. Parsed (whole t) rest)

unfoldable pub optional_name_at : ℕ → Reader
optional_name_at k = read rule k (optional (Terminal name))

unfoldable pub optional_address_at : ℕ → Reader
optional_address_at k = read rule k (optional (Terminal address))

unfoldable pub optional_switch_at : ℕ → Reader
optional_switch_at k = read rule k (optional (Terminal is_switch))

unfoldable pub optional_number_at : ℕ → Reader
optional_number_at k = read rule k (optional (Terminal is_num))

unfoldable pub optional_semicolon_at : ℕ → Reader
optional_semicolon_at k = read rule k (optional semicolon)

-- "as" num
unfoldable pub as_at : ℕ → Reader
as_at k = read rule k (Seq (Terminal (symbol sym.As)) (Terminal is_num))

-- "time" num
unfoldable pub time_at : ℕ → Reader
time_at k = read rule k (Seq (Terminal (symbol sym.Time)) (Terminal is_num))

-- an action, or nothing
unfoldable pub action_at : ℕ → Reader
action_at k = read rule k (optional action)

-- behind "limit"
unfoldable pub limit_value_at : ℕ → Reader
limit_value_at k =
    read rule k (Alt (Terminal (symbol sym.Off)) (Seq (Terminal is_num) (optional action)))

-- options and the brace behind them
unfoldable pub closed_options : Form → ℕ → Reader
closed_options item k = both (read rule k (ended_options item)) (word (symbol sym.CloseBrace))

unfoldable pub route_target_at : ℕ → Reader
route_target_at k = read rule k route_target

unfoldable pub transport_at : ℕ → Reader
transport_at k = read rule k transport

unfoldable pub literal_at : ℕ → Reader
literal_at k = read rule k literal
