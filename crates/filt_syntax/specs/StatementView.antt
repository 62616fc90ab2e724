-- The tree of the grammar that a statement stands for; the arms of a `case` are one row of labels
-- and statements (`arms_row`).
-- Not modelled: what a statement does, and where it lies in memory.
-- From: own; the forms are of BIRD User's Guide, "Filters": "Introduction", "Data types", "Control
-- structures", "Route attributes", "Other statements".
-- Example: each variant of `Stmt` names its alternative of the line `stmt`.
use Rattle.std.specs.Prelude.{ℕ, List, [], ◌∷◌, Option, Some, None, map, Vec}
use Rattle.std.specs.Global.{Global}
use Rattle.conf_lex.specs.declared.symbol.Symbol.{Symbol}
use Rattle.conf_lex.specs.declared.symbol.Symbol.TheVariants as sym
use Rattle.conf_lex.specs.declared.word.Word.TheVariants as words
use Rattle.conf_ast.specs.declared.named.Name.{Name}
use Rattle.conf_lex.specs.Grammar.{ParseTree, Leaf, NoWords, Pair, Left, Right, Single, Snoc}
use Rattle.conf_lex.specs.Grammar.{Deeper}
use Rattle.conf_lex.specs.Leaves.{symbol_leaf, name_leaf, between}
use Rattle.conf_ast.specs.declared.attribute.Attribute.{Attribute}
use Rattle.conf_ast.specs.declared.filters.Expr.{Expr}
use Rattle.conf_ast.specs.declared.filters.VariableType.{VariableType}
use Rattle.conf_ast.specs.declared.filters.Target.{Target}
use Rattle.conf_ast.specs.declared.filters.Target.TheVariants as targets
use Rattle.conf_ast.specs.declared.filters.Change.{Change}
use Rattle.conf_ast.specs.declared.filters.Change.TheVariants as changes
use Rattle.conf_ast.specs.declared.filters.Arm.{Arm}
use Rattle.conf_ast.specs.declared.filters.Block.{Block}
use Rattle.conf_ast.specs.declared.filters.Item.{Item}
use Rattle.conf_ast.specs.declared.filters.Stmt.{Stmt, fold-Stmt}
use Rattle.conf_ast.specs.declared.filters.Stmt.TheOpen.{Stmt-F}
use Rattle.expr_syntax.specs.ItemView.{label_tree}
use Rattle.expr_syntax.specs.View.{derivations, in_parentheses, method_tree}
use Rattle.expr_syntax.specs.View.{arguments_tree, listed_tree, expr_trees}
use Rattle.expr_syntax.specs.Rows.{nth, beyond, semicolon_leaf, row_tree}
use Rattle.expr_syntax.specs.Types.{type_tree}

-- ---- parts of statements

-- an expression and a semicolon
abbrev pub ended : Expr → ParseTree
ended e = Pair (derivations e).expr semicolon_leaf

abbrev pub assigned_tree : Expr → ParseTree
assigned_tree e = Pair (symbol_leaf sym.Equal) (ended e)

abbrev pub change_tree : Change → ParseTree
change_tree changes.Empty = Left (symbol_leaf sym.Empty)
change_tree (changes.Method m place e) = Right (method_tree m place (derivations e).expr)

abbrev pub changed_tree : Change → ParseTree
changed_tree c = Pair (symbol_leaf sym.Dot) (Pair (change_tree c) semicolon_leaf)

-- "=" and an expression, or neither
abbrev pub initial_tree : Option Expr → ParseTree
initial_tree None = Right NoWords
initial_tree (Some e) = Left (Pair (symbol_leaf sym.Equal) (derivations e).expr)

abbrev pub result_tree : Option Expr → ParseTree
result_tree None = Right NoWords
result_tree (Some e) = Left (derivations e).expr

-- ---- the kinds of statements, in the order of the grammar's line

abbrev pub of_name : Name → ParseTree → ParseTree
of_name n done = Left (Pair (name_leaf n) done)

abbrev pub block_tree : ParseTree → ParseTree
block_tree body = Right (nth 0 (between (words.Symbol sym.OpenBrace) body sym.CloseBrace))

abbrev pub empty_tree : ParseTree
empty_tree = Right (nth 1 semicolon_leaf)

abbrev pub declare_tree : VariableType → Name → Option Expr → ParseTree
declare_tree v n e =
    Right (nth 2 (Pair (type_tree v) (Pair (name_leaf n) (Pair (initial_tree e) semicolon_leaf))))

abbrev pub of_attribute_tree : ℕ → Attribute → ParseTree → ParseTree
of_attribute_tree at a done = Right (nth 3 (Pair (Leaf (words.Attribute at a)) done))

abbrev pub assign_tree : Target → Expr → ParseTree
assign_tree (targets.Name n) e = of_name n (Left (assigned_tree e))
assign_tree (targets.Attribute at a) e = of_attribute_tree at a (Left (assigned_tree e))

abbrev pub change_stmt_tree : Target → Change → ParseTree
change_stmt_tree (targets.Name n) c = of_name n (Right (Left (changed_tree c)))
change_stmt_tree (targets.Attribute at a) c = of_attribute_tree at a (Right (changed_tree c))

abbrev pub call_tree : Name → ℕ → List Expr → ParseTree
call_tree n place es =
    of_name n (Right (Right (Pair (in_parentheses place (arguments_tree (expr_trees es)))
    semicolon_leaf)))

abbrev pub unset_tree : ℕ → ℕ → Attribute → ParseTree
unset_tree place at a = Right (nth 4 (Pair (symbol_leaf sym.Unset)
    (Pair (in_parentheses place (Leaf (words.Attribute at a))) semicolon_leaf)))

-- the condition, and the branches
abbrev pub chosen_tree : Expr → ParseTree → ParseTree
chosen_tree e both = Right (nth 5 (Pair (Pair (symbol_leaf sym.If) (derivations e).expr) both))

-- the condition, the first branch, and what stands in the place of the second
abbrev pub if_tree : Expr → ParseTree → ParseTree → ParseTree
if_tree e first second = chosen_tree e (Pair (Deeper (words.Symbol sym.Then) first) second)

abbrev pub else_tree : ParseTree → ParseTree
else_tree s = Left (Deeper (words.Symbol sym.Else) s)

abbrev pub case_tree : ℕ → Expr → ParseTree → ParseTree
case_tree at e arms =
    Right (nth 6 (Pair (Pair (Leaf (words.Placed at sym.Case)) (derivations e).expr)
    (between (words.Symbol sym.OpenBrace) arms sym.CloseBrace)))

abbrev pub for_tree : ℕ → VariableType → Name → Expr → ParseTree → ParseTree
for_tree at v n e body =
    Right (nth 7 (Pair (Leaf (words.Placed at sym.For)) (Pair (type_tree v) (Pair (name_leaf n)
    (Pair (Pair (symbol_leaf sym.In) (derivations e).expr) (Deeper (words.Symbol sym.Do) body))))))

abbrev pub verdict_tree : Symbol → ParseTree
verdict_tree s = Right (nth 8 (Pair (symbol_leaf s) semicolon_leaf))

abbrev pub return_tree : ℕ → Option Expr → ParseTree
return_tree at e =
    Right (nth 9 (Pair (Leaf (words.Placed at sym.Return)) (Pair (result_tree e) semicolon_leaf)))

abbrev pub print_tree : Symbol → List Expr → ParseTree
print_tree s es =
    Right (beyond 10 (Pair (symbol_leaf s) (Pair (listed_tree (expr_trees es)) semicolon_leaf)))

-- ---- the arms of a `case`, which are one row of labels and statements

-- a statement in that row
abbrev pub as_part : ParseTree → ParseTree
as_part (Left (Pair n done)) = Left (Pair n (Left done))
as_part (Right t) = Right (Right t)
as_part t = t

-- a label in that row, behind an arm
abbrev pub as_label : ParseTree → ParseTree
as_label (Pair (Left (Pair (Leaf (words.Name at start len)) high)) end) =
    Left (Pair (Leaf (words.Name at start len)) (Right (Pair high end)))
as_label (Pair item end) = Right (Left (Pair item end))
as_label t = t

-- the statements of an arm after a row
abbrev pub body_after : ParseTree → List ParseTree → ParseTree
body_after t [] = t
body_after t (s ∷ ss) = body_after (Snoc t (as_part s)) ss

-- an arm: the items of its label, and its statements
abbrev pub ArmParts : Type 0
ArmParts = List Item × List ParseTree

-- more arms after a row
abbrev pub arms_after : ParseTree → List ArmParts → ParseTree
arms_after t [] = t
arms_after t (a ∷ more) = arms_after (body_after (Snoc t (as_label (label_tree a.0))) a.1) more

-- one or more arms
abbrev pub arms_chain : ArmParts → List ArmParts → ParseTree
arms_chain a more = arms_after (body_after (Single (label_tree a.0)) a.1) more

-- any number of arms
abbrev pub arms_row : List ArmParts → ParseTree
arms_row [] = Right NoWords
arms_row (a ∷ more) = Left (arms_chain a more)

abbrev pub seen_arm : Arm ParseTree → ArmParts
seen_arm a = (a.labels.items, a.body.items)

-- "else:" and statements, or neither
abbrev pub otherwise_tree : Option (List ParseTree) → ParseTree
otherwise_tree None = Right NoWords
otherwise_tree (Some ss) = Left (Pair (symbol_leaf sym.ElseColon) (row_tree ss))

abbrev pub some_items : {A : Type 0} → Option (Vec A Global) → Option (List A)
some_items None = None
some_items (Some v) = Some v.items

-- ---- statements

-- one level, with each statement inside already seen
abbrev pub stmt_step : Stmt-F ParseTree → ParseTree
stmt_step (Stmt-F.Block body) = block_tree (row_tree body.items)
stmt_step Stmt-F.Empty = empty_tree
stmt_step (Stmt-F.Declare v n e) = declare_tree v n e
stmt_step (Stmt-F.Assign target e) = assign_tree target e
stmt_step (Stmt-F.Change target c) = change_stmt_tree target c
stmt_step (Stmt-F.Unset place at a) = unset_tree place at a
stmt_step (Stmt-F.If e s) = if_tree e s.value (Right NoWords)
stmt_step (Stmt-F.IfElse e s t) = if_tree e s.value (else_tree t.value)
stmt_step (Stmt-F.Case at e arms otherwise) =
    case_tree at e (Pair (arms_row (map seen_arm arms.items))
    (otherwise_tree (some_items otherwise)))
stmt_step (Stmt-F.For at v n e body) = for_tree at v n e body.value
stmt_step Stmt-F.Accept = verdict_tree sym.Accept
stmt_step Stmt-F.Reject = verdict_tree sym.Reject
stmt_step (Stmt-F.Return at e) = return_tree at e
stmt_step (Stmt-F.Print es) = print_tree sym.Print es.items
stmt_step (Stmt-F.Printn es) = print_tree sym.Printn es.items
stmt_step (Stmt-F.Call n place es) = call_tree n place es.items

abbrev pub stmt_tree : Stmt → ParseTree
stmt_tree = fold-Stmt ParseTree stmt_step

abbrev pub stmts_tree : List Stmt → ParseTree
stmts_tree ss = row_tree (map stmt_tree ss)

abbrev pub arm_of : Arm Stmt → ArmParts
arm_of a = (a.labels.items, map stmt_tree a.body.items)

abbrev pub arms_of : List (Arm Stmt) → List ArmParts
arms_of arms = map arm_of arms

abbrev pub otherwise_of : Option (Vec Stmt Global) → Option (List ParseTree)
otherwise_of None = None
otherwise_of (Some v) = Some (map stmt_tree v.items)

-- the block of a filter, a function or a policy
abbrev pub block_view : Block → ParseTree
block_view b = between (words.Symbol sym.OpenBrace) (stmts_tree b.statements.items) sym.CloseBrace
