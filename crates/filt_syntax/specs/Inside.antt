-- For private contracts alone: what is said of refusals while a text is read, of trees in boxes,
-- and of parts of chains.
use Rattle.std.specs.Prelude.{ℕ, ◌-◌, List, [], length, ◌≡◌, Bool, true, false, ◌==◌, Option, Some}
use Rattle.std.specs.Prelude.{None, Vec, Box, ◌⊎◌, ◌+◌, slice_index_or}
use Rattle.conf_lex.specs.declared.word.Word.{Word}
use Rattle.conf_lex.specs.declared.refusal.Refusal.{Refusal}
use Rattle.conf_lex.specs.declared.refusal.Refusal.TheVariants as refusals
use Rattle.filt_syntax.specs.declared.parse.SyntaxFault.{SyntaxFault}
use Rattle.filt_syntax.specs.declared.parse.SyntaxFault.TheVariants as faults
use Rattle.conf_lex.specs.declared.word.Word.TheVariants as words
use Rattle.std.specs.Global.{Global}
use Rattle.conf_lex.specs.declared.symbol.Symbol.TheVariants as sym
use Rattle.conf_lex.specs.Grammar.{ParseTree, NoWords, Pair, Right, Deeper}
use Rattle.conf_lex.specs.Leaves.{between}
use Rattle.conf_ast.specs.declared.filters.Arm.{Arm}
use Rattle.filt_syntax.specs.declared.statement.Branches.{Branches}
use Rattle.conf_ast.specs.declared.filters.Stmt.{Stmt}
use Rattle.filt_syntax.specs.StatementView.{else_tree, arms_row, otherwise_tree, stmt_tree, arms_of}
use Rattle.filt_syntax.specs.StatementView.{otherwise_of}
use Rattle.expr_syntax.specs.Levels.{Form}
use Rattle.filt_syntax.specs.Tokens.{moved, place_of, IsPastOf}

-- the words from the refused one on
abbrev pub refused_words : Refusal → List Word
refused_words refusals.Memory = []
refused_words (refusals.Bad rest) = rest.now
refused_words (refusals.TooDeep rest) = rest.now

-- the same refusal among so many words, by the place of the refused one
abbrev pub fault_of : ℕ → Refusal → SyntaxFault
fault_of n refusals.Memory = faults.Memory
fault_of n (refusals.Bad rest) = faults.Bad (n - length rest.now)
fault_of n (refusals.TooDeep rest) = faults.TooDeep (n - length rest.now)

abbrev pub is_address_word : Word → Bool
is_address_word (words.Ip at addr) = true
is_address_word _ = false

-- whether the parser refuses no word before the end, or one for its levels alone
abbrev pub IsEndBy : SyntaxFault → ℕ → Bool → Type 0
IsEndBy (faults.Bad at) end can = can ≡ (at == end)
IsEndBy (faults.TooDeep at) end can = can ≡ true
IsEndBy (faults.Unsupported at) end can = can ≡ true
IsEndBy faults.Memory end can = ⊥

-- a statement in a box
abbrev pub boxed_tree : Box Stmt Global → ParseTree
boxed_tree s = stmt_tree s.value

-- the arms of a `case`, as a tree, and the statements of "else:", between braces
abbrev pub case_arms : ParseTree → Option (List ParseTree) → ParseTree
case_arms row otherwise =
    between (words.Symbol sym.OpenBrace) (Pair row (otherwise_tree otherwise)) sym.CloseBrace

abbrev pub arms_view : List (Arm Stmt) → Option (Vec Stmt Global) → ParseTree
arms_view arms otherwise = case_arms (arms_row (arms_of arms)) (otherwise_of otherwise)

-- the second branch of an `if`, or nothing
abbrev pub second_tree : Option (Box Stmt Global) → ParseTree
second_tree None = Right NoWords
second_tree (Some s) = else_tree (stmt_tree s.value)

abbrev pub branches_tree : Branches → ParseTree
branches_tree b =
    Pair (Deeper (words.Symbol sym.Then) (stmt_tree b.first.value)) (second_tree b.second)

-- the refusal of these words is told so by their tokens, unless memory ran out
abbrev pub IsToldAs : Form → List Word → List ℕ → ℕ → SyntaxFault → SyntaxFault → Type 0
IsToldAs f words starts end fault told =
    (told ≡ faults.Memory) ⊎ ((past : ℕ) × IsPastOf f words fault past
    × (told ≡ moved (slice_index_or starts (place_of fault) end + past) fault))
