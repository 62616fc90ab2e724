-- The words and signs of the grammars, but for attributes and constants, and how they are spelled
-- (`spellings`, `symbol_of`), each once, in the order of the enum.
-- Not modelled: where they can stand (filt_syntax, conf_tree).
-- From: BIRD User's Guide, "Configuration", "Protocols", "Filters".
-- Example: `next`, `hop` and `self` are three words.
use Rattle.std.specs.Prelude.{ℕ, Bool, true, false, ◌==◌, ◌&&◌, not, nat_le, if◌then◌else◌, Option}
use Rattle.std.specs.Prelude.{Some, None, List, [], ◌∷◌, length, codes, filter}
use Rattle.std.specs.Bool.{nat_eq}
use Rattle.std.specs.Cmp.Lexicographic.{pointwise}
use Rattle.conf_lex.specs.declared.symbol.Symbol.{Symbol}
use Rattle.conf_lex.specs.declared.symbol.Symbol.TheVariants as symbols

-- each spelling and its symbol: words and signs. ElseColon is made of two tokens and isn't here.
abbrev pub spellings : List (List ℕ × Symbol)
spellings =
    (codes "router", symbols.Router) ∷ (codes "id", symbols.Id) ∷ (codes "log", symbols.Log)
    ∷ (codes "define", symbols.Define) ∷ (codes "ipv4", symbols.Ipv4) ∷ (codes "ipv6", symbols.Ipv6)
    ∷ (codes "table", symbols.Table) ∷ (codes "function", symbols.Function)
    ∷ (codes "filter", symbols.Filter) ∷ (codes "protocol", symbols.Protocol)
    ∷ (codes "device", symbols.Device) ∷ (codes "static", symbols.Static)
    ∷ (codes "bgp", symbols.Bgp) ∷ (codes "pipe", symbols.Pipe) ∷ (codes "route", symbols.Route)
    ∷ (codes "via", symbols.Via) ∷ (codes "blackhole", symbols.Blackhole)
    ∷ (codes "unreachable", symbols.Unreachable) ∷ (codes "prohibit", symbols.Prohibit)
    ∷ (codes "local", symbols.Local) ∷ (codes "as", symbols.As)
    ∷ (codes "neighbor", symbols.Neighbor) ∷ (codes "med", symbols.Med)
    ∷ (codes "metric", symbols.Metric) ∷ (codes "interpret", symbols.Interpret)
    ∷ (codes "communities", symbols.Communities) ∷ (codes "default", symbols.Default)
    ∷ (codes "description", symbols.Description) ∷ (codes "password", symbols.Password)
    ∷ (codes "address", symbols.Address) ∷ (codes "hold", symbols.Hold)
    ∷ (codes "time", symbols.Time) ∷ (codes "keepalive", symbols.Keepalive)
    ∷ (codes "connect", symbols.Connect) ∷ (codes "retry", symbols.Retry)
    ∷ (codes "multihop", symbols.Multihop) ∷ (codes "direct", symbols.Direct)
    ∷ (codes "passive", symbols.Passive) ∷ (codes "peer", symbols.Peer)
    ∷ (codes "import", symbols.Import) ∷ (codes "export", symbols.Export)
    ∷ (codes "limit", symbols.Limit) ∷ (codes "action", symbols.Action)
    ∷ (codes "warn", symbols.Warn) ∷ (codes "block", symbols.Block)
    ∷ (codes "disable", symbols.Disable) ∷ (codes "off", symbols.Off) ∷ (codes "next", symbols.Next)
    ∷ (codes "hop", symbols.Hop) ∷ (codes "self", symbols.SelfWord) ∷ (codes "keep", symbols.Keep)
    ∷ (codes "all", symbols.All) ∷ (codes "none", symbols.None) ∷ (codes "where", symbols.Where)
    ∷ (codes "on", symbols.On) ∷ (codes "yes", symbols.Yes) ∷ (codes "no", symbols.No)
    ∷ (codes "prepend", symbols.Prepend) ∷ (codes "add", symbols.Add)
    ∷ (codes "delete", symbols.Delete) ∷ (codes "empty", symbols.Empty)
    ∷ (codes "unset", symbols.Unset) ∷ (codes "if", symbols.If) ∷ (codes "then", symbols.Then)
    ∷ (codes "else", symbols.Else) ∷ (codes "case", symbols.Case) ∷ (codes "for", symbols.For)
    ∷ (codes "in", symbols.In) ∷ (codes "do", symbols.Do) ∷ (codes "accept", symbols.Accept)
    ∷ (codes "reject", symbols.Reject) ∷ (codes "return", symbols.Return)
    ∷ (codes "print", symbols.Print) ∷ (codes "printn", symbols.Printn) ∷ (codes "len", symbols.Len)
    ∷ (codes "first", symbols.First) ∷ (codes "last", symbols.Last) ∷ (codes "ip", symbols.Ip)
    ∷ (codes "defined", symbols.Defined) ∷ (codes "true", symbols.True)
    ∷ (codes "false", symbols.False) ∷ (codes "int", symbols.Int) ∷ (codes "bool", symbols.Bool)
    ∷ (codes "prefix", symbols.Prefix) ∷ (codes "pair", symbols.Pair)
    ∷ (codes "string", symbols.String) ∷ (codes "bgppath", symbols.PathType)
    ∷ (codes "bgpmask", symbols.MaskType) ∷ (codes "clist", symbols.Clist)
    ∷ (codes "set", symbols.Set) ∷ (codes ";", symbols.Semicolon) ∷ (codes "{", symbols.OpenBrace)
    ∷ (codes "}", symbols.CloseBrace) ∷ (codes "(", symbols.OpenParenthesis)
    ∷ (codes ")", symbols.CloseParenthesis) ∷ (codes ",", symbols.Comma)
    ∷ (codes "/", symbols.Slash) ∷ (codes "->", symbols.Arrow) ∷ (codes "=", symbols.Equal)
    ∷ (codes ".", symbols.Dot) ∷ (codes "&&", symbols.And) ∷ (codes "||", symbols.Or)
    ∷ (codes "!", symbols.Not) ∷ (codes "!=", symbols.NotEqual) ∷ (codes "<", symbols.Less)
    ∷ (codes "<=", symbols.LessOrEqual) ∷ (codes ">", symbols.Greater)
    ∷ (codes ">=", symbols.GreaterOrEqual) ∷ (codes "~", symbols.Matches)
    ∷ (codes "!~", symbols.MatchesNot) ∷ (codes "+", symbols.Plus) ∷ (codes "-", symbols.Minus)
    ∷ (codes "*", symbols.Star) ∷ (codes "+empty+", symbols.EmptyPath)
    ∷ (codes "-empty-", symbols.EmptyClist) ∷ (codes "[", symbols.OpenBracket)
    ∷ (codes "]", symbols.CloseBracket) ∷ (codes "[=", symbols.OpenMask)
    ∷ (codes "=]", symbols.CloseMask) ∷ (codes ":", symbols.Colon) ∷ (codes "..", symbols.Range)
    ∷ (codes "?", symbols.Question)
    ∷ []

-- what is spelled so, in a list of spellings
abbrev pub lookup : {X : Type 0} → List ℕ → List (List ℕ × X) → Option X
lookup text [] = None
lookup text (entry ∷ entries) =
    if pointwise nat_eq entry.0 text then Some entry.1 else lookup text entries

-- the symbol that is spelled so, if there is one
unfoldable pub symbol_of : List ℕ → Option Symbol
symbol_of text = lookup text spellings

-- the spellings of so many bytes
abbrev pub spellings_of : ℕ → List (List ℕ × Symbol)
spellings_of n = filter (λ entry. length entry.0 == n) spellings

-- those of no such length from 1 to 8
abbrev pub long_spellings : List (List ℕ × Symbol)
long_spellings =
    filter (λ entry. not (nat_le 1 (length entry.0) && nat_le (length entry.0) 8)) spellings

-- symbols that can be a whole expression, or at which a later check may refuse
abbrev pub is_placed : Symbol → Bool
is_placed symbols.Ipv4 = true
is_placed symbols.Ipv6 = true
is_placed symbols.Filter = true
is_placed symbols.Static = true
is_placed symbols.Bgp = true
is_placed symbols.Pipe = true
is_placed symbols.True = true
is_placed symbols.False = true
is_placed symbols.EmptyPath = true
is_placed symbols.EmptyClist = true
is_placed symbols.OpenMask = true
is_placed symbols.Prepend = true
is_placed symbols.Add = true
is_placed symbols.Delete = true
is_placed symbols.Defined = true
is_placed symbols.Case = true
is_placed symbols.For = true
is_placed symbols.Return = true
is_placed symbols.Not = true
is_placed symbols.OpenBracket = true
is_placed symbols.OpenParenthesis = true
is_placed symbols.Where = true
is_placed _ = false

abbrev pub is_else : Option Symbol → Bool
is_else (Some symbols.Else) = true
is_else _ = false

abbrev pub is_colon : Option Symbol → Bool
is_colon (Some symbols.Colon) = true
is_colon _ = false

abbrev pub is_slash : Option Symbol → Bool
is_slash (Some symbols.Slash) = true
is_slash _ = false
