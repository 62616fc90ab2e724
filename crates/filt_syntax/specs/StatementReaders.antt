-- For private contracts alone, all but `block_at`, which `parts` and the grammars
-- above name: reading each form of a statement, where k more levels may be opened. The forms are
-- those of `Syntax`, reading is `read` of conf_lex.
-- Not modelled: memory, but for the lists that an arm is read into.
-- From: own.
use Rattle.std.specs.Prelude.{◌≡◌, ℕ, Bool, true, ◌||◌, ◌<◌, ◌≤◌, List, ◌∷◌, length, map, Option}
use Rattle.std.specs.Prelude.{Result, Ok, Err, Vec}
use Rattle.std.specs.Global.{Global}
use Rattle.std.specs.Borrow.{Bor}
use Rattle.conf_lex.specs.declared.symbol.Symbol.TheVariants as sym
use Rattle.conf_lex.specs.declared.word.Word.{Word}
use Rattle.conf_lex.specs.declared.word.Word.TheVariants as words
use Rattle.conf_ast.specs.declared.named.Name.{Name}
use Rattle.conf_lex.specs.Kind.{Kind, kind_of, number, prefix, symbol}
use Rattle.conf_lex.specs.Grammar.{Terminal, Seq, Alt, Nested, ParseTree, Pair, Left, Right, Deeper}
use Rattle.conf_lex.specs.Grammar.{first_set}
use Rattle.conf_lex.specs.Grammar.{begins}
use Rattle.conf_lex.specs.Leaves.{name_leaf}
use Rattle.conf_lex.specs.Agrees.{AgreesOnError, Agrees}
use Rattle.conf_lex.specs.declared.refusal.Refusal.{Refusal}
use Rattle.conf_ast.specs.declared.filters.Arm.{Arm}
use Rattle.conf_ast.specs.declared.filters.Stmt.{Stmt}
use Rattle.expr_syntax.specs.ItemView.{label_tree}
use Rattle.filt_syntax.specs.StatementView.{stmt_tree, body_after, otherwise_of}
use Rattle.expr_syntax.specs.Rows.{nth}
use Rattle.filt_syntax.specs.Inside.{case_arms}
use Rattle.conf_lex.specs.Reading.{Reader, Parsed, and_then, word, both, all_turns, read}
use Rattle.expr_syntax.specs.Syntax.{braces, optional, listed, many, expr, block, method}
use Rattle.expr_syntax.specs.Syntax.{semicolon, declaration, stmt, unnamed_stmt, done_to_name}
use Rattle.expr_syntax.specs.Syntax.{arm_part, arms, rule}
use Rattle.expr_syntax.specs.Levels.{body_level, arms_level}
use Rattle.expr_syntax.specs.ItemReaders.{label_at}

unfoldable pub stmt_at : ℕ → Reader
stmt_at k = read rule k stmt

unfoldable pub unnamed_at : ℕ → Reader
unnamed_at k = read rule k unnamed_stmt

-- what stands behind the name that begins a statement
unfoldable pub done_at : ℕ → Reader
done_at k = read rule k done_to_name

-- a statement that this name begins, by the words after it
unfoldable pub of_name_at : ℕ → Name → Reader
of_name_at k n ws = and_then (done_at k ws) (λ d rest. Parsed (Left (Pair (name_leaf n) d)) rest)

-- what stands behind the dot of a statement
unfoldable pub change_at : ℕ → Reader
change_at k = read rule k (Seq (Alt (Terminal (symbol sym.Empty)) method) semicolon)

-- a declaration, as a statement
unfoldable pub declaration_at : ℕ → Reader
declaration_at k ws =
    and_then (read rule k declaration ws) (λ t rest. Parsed (Right (nth 2 t)) rest)

-- "=" and an expression, or nothing
unfoldable pub initial_at : ℕ → Reader
initial_at k = read rule k (optional (Seq (Terminal (symbol sym.Equal)) expr))

-- an expression, or nothing
unfoldable pub result_at : ℕ → Reader
result_at k = read rule k (optional expr)

unfoldable pub exprs_at : ℕ → Reader
exprs_at k = read rule k (listed expr)

unfoldable pub block_at : ℕ → Reader
block_at k = read rule k block

-- any number of statements
unfoldable pub stmts_at : ℕ → Reader
stmts_at k = read rule k (many stmt)

-- statements after a tree
unfoldable pub row_at : ℕ → ParseTree → Reader
row_at k = all_turns (first_set stmt) (stmt_at k)

unfoldable pub else_at : ℕ → Reader
else_at k = read rule k (optional (Nested (symbol sym.Else) body_level))

-- what stands behind the condition of an `if`
unfoldable pub branches_at : ℕ → Reader
branches_at k = both (read rule k (Nested (symbol sym.Then) body_level)) (else_at k)

-- what stands behind the list of a `for`
unfoldable pub run_at : ℕ → Reader
run_at k = read rule k (Nested (symbol sym.Do) body_level)

-- what stands behind the value of a `case`
unfoldable pub braced_at : ℕ → Reader
braced_at k = read rule k (braces arms_level)

-- ---- the arms of a `case`

unfoldable pub arm_part_at : ℕ → Reader
arm_part_at k = read rule k arm_part

unfoldable pub arms_at : ℕ → Reader
arms_at k = read rule k arms

unfoldable pub arm_row_at : ℕ → ParseTree → Reader
arm_row_at k = all_turns (first_set arm_part) (arm_part_at k)

unfoldable pub otherwise_at : ℕ → Reader
otherwise_at k = read rule k (optional (Seq (Terminal (symbol sym.ElseColon)) (many stmt)))

-- behind the arms: the statements of "else:", and the closing brace
unfoldable pub arms_end_at : ℕ → ParseTree → Reader
arms_end_at k row ws = and_then (otherwise_at k ws) (λ o rest.
    and_then (word (symbol sym.CloseBrace) rest) (λ c end.
    Parsed (Pair (Deeper (words.Symbol sym.OpenBrace) (Pair row o)) c) end))

-- behind some of the arms: the rest of them and what follows them
unfoldable pub more_arms_at : ℕ → ParseTree → Reader
more_arms_at k t ws = and_then (arm_row_at k t ws) (λ row rest. arms_end_at k (Left row) rest)

-- the same, where a label comes next: what it makes of the row so far
unfoldable pub labelled_at : ℕ → (ParseTree → ParseTree) → Reader
labelled_at k row_with ws = and_then (label_at k ws) (λ l rest. more_arms_at k (row_with l) rest)

-- what goes on with a name as a label
abbrev pub is_behind_name : Kind → Bool
is_behind_name k = symbol sym.Comma k || (symbol sym.Colon k || symbol sym.Range k)

-- what begins an item that no name begins
abbrev pub is_item : Kind → Bool
is_item k = number k || (symbol sym.OpenParenthesis k || prefix k)

-- whether a label comes next: a NAME begins one where no statement goes on behind it
abbrev pub label_next : List Word → Bool
label_next (words.Name at start len ∷ w ∷ ws) = is_behind_name (kind_of w)
label_next ws = begins is_item ws

-- whether the arms end here
abbrev pub arms_over : List Word → Bool
arms_over ws = begins (λ k. symbol sym.ElseColon k || symbol sym.CloseBrace k) ws

-- whether an arm ends here
abbrev pub arm_ends : List Word → Bool
arm_ends ws = label_next ws || arms_over ws

-- an arm was read, which has a word, and behind whatever arms
abbrev pub ArmGives : Result (Arm Stmt × Bor (List Word)) Refusal → ℕ → List Word → Type 0
ArmGives (Ok found) k ws =
    (arm_ends found.1.now ≡ true) × (length found.1.now < length ws)
    × ((row_with : ParseTree → ParseTree) → labelled_at k row_with ws ≡
    more_arms_at k (body_after (row_with (label_tree found.0.labels.items))
    (map stmt_tree found.0.body.items)) found.1.now)
ArmGives (Err e) k ws =
    (row_with : ParseTree → ParseTree) → AgreesOnError e (labelled_at k row_with ws)

-- the statements of an arm were read, behind whatever row
abbrev pub BodyGives : Result (Vec Stmt Global × Bor (List Word)) Refusal → ℕ → List Word → Type 0
BodyGives (Ok found) k ws =
    (arm_ends found.1.now ≡ true) × (length found.1.now ≤ length ws)
    × ((t : ParseTree) → more_arms_at k t ws ≡
    more_arms_at k (body_after t (map stmt_tree found.0.items)) found.1.now)
BodyGives (Err e) k ws = (t : ParseTree) → AgreesOnError e (more_arms_at k t ws)

-- what stands behind the arms was read, behind whatever arms
abbrev pub OtherwiseGives : Result (Option (Vec Stmt Global) × Bor (List Word)) Refusal → ℕ
    → List Word → Type 0
OtherwiseGives result k ws =
    (row : ParseTree) → Agrees (λ o. case_arms row (otherwise_of o)) result (arms_end_at k row ws)
