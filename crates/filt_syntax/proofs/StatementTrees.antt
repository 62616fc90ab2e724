-- The trees of statements, by their variants.
use Rattle.std.proofs.Common.{◌≡◌, ℕ, List, [], ◌∷◌, ◌++◌, map, refl, sym as flip, ap, ◌∙◌, rules, Option, Some, None, Box, Vec}
use Rattle.std.specs.Global.{Global}
use Rattle.conf_lex.specs.declared.symbol.Symbol.TheVariants as sym
use Rattle.conf_lex.specs.declared.word.Word.TheVariants as words
use Rattle.conf_ast.specs.declared.named.Name.{Name}
use Rattle.conf_lex.specs.Grammar.{ParseTree, NoWords, Pair, Right, Single, Snoc, Deeper}
use Rattle.conf_ast.specs.declared.attribute.Attribute.{Attribute}
use Rattle.conf_ast.specs.declared.filters.VariableType.{VariableType}
use Rattle.conf_ast.specs.declared.filters.Target.{Target}
use Rattle.conf_ast.specs.declared.filters.Change.{Change}
use Rattle.conf_ast.specs.declared.filters.Expr.{Expr}
use Rattle.conf_ast.specs.declared.filters.Arm.{Arm}
use Rattle.filt_syntax.specs.declared.statement.Branches.{Branches}
use Rattle.conf_ast.specs.declared.filters.Stmt.{Stmt, the_lemmas, fold-Stmt}
use Rattle.conf_ast.specs.declared.filters.Stmt.TheVariants as stmts
use Rattle.conf_ast.specs.declared.filters.Stmt.TheFolds.{map-Stmt}
use Rattle.conf_ast.specs.declared.filters.Stmt.TheOpen.{Stmt-F}
use Rattle.filt_syntax.specs.StatementView.{ArmParts, seen_arm, arm_of, stmt_step, stmt_tree, stmts_tree, block_tree, empty_tree, declare_tree, assign_tree, change_stmt_tree, call_tree, unset_tree, if_tree, chosen_tree, else_tree, case_tree, for_tree, verdict_tree, return_tree, print_tree, arms_row, arms_of, otherwise_tree, otherwise_of}
use Rattle.expr_syntax.specs.Rows.{row_after}
use Rattle.filt_syntax.specs.Inside.{branches_tree, second_tree}

pub tree-Block : (v : Vec Stmt Global) → stmt_tree (stmts.Block v) ≡ block_tree (stmts_tree v.items)
tree-Block v = search (rules, the_lemmas)

pub tree-Empty : stmt_tree stmts.Empty ≡ empty_tree
tree-Empty = search (rules, the_lemmas)

pub tree-Declare : (v : VariableType) (n : Name) (e : Option Expr) → stmt_tree (stmts.Declare v n e) ≡ declare_tree v n e
tree-Declare v n e = search (rules, the_lemmas)

pub tree-Assign : (target : Target) (e : Expr) → stmt_tree (stmts.Assign target e) ≡ assign_tree target e
tree-Assign target e = search (rules, the_lemmas)

pub tree-Change : (target : Target) (c : Change) → stmt_tree (stmts.Change target c) ≡ change_stmt_tree target c
tree-Change target c = search (rules, the_lemmas)

pub tree-Unset : (place at : ℕ) (a : Attribute) → stmt_tree (stmts.Unset place at a) ≡ unset_tree place at a
tree-Unset place at a = search (rules, the_lemmas)

pub tree-If : (e : Expr) (s : Box Stmt Global) (x : Stmt) → s.value ≡ x → stmt_tree (stmts.If e s) ≡ if_tree e (stmt_tree x) (Right NoWords)
tree-If e s x p = rw (← p) (search (rules, the_lemmas))

pub tree-IfElse : (e : Expr) (s t : Box Stmt Global) (x y : Stmt) → s.value ≡ x → t.value ≡ y → stmt_tree (stmts.IfElse e s t) ≡ if_tree e (stmt_tree x) (else_tree (stmt_tree y))
tree-IfElse e s t x y p q = rw (← p, ← q) (search (rules, the_lemmas))

pub tree-one_branch : (e : Expr) (b : Branches) → b.second ≡ None → stmt_tree (stmts.If e b.first) ≡ chosen_tree e (branches_tree b)
tree-one_branch e b is = tree-If e b.first b.first.value refl ∙ ap (λ (s : Option (Box Stmt Global)). chosen_tree e (Pair (Deeper (words.Symbol sym.Then) (stmt_tree b.first.value)) (second_tree s))) (flip is)

pub tree-two_branches : (e : Expr) (b : Branches) (t : Box Stmt Global) → b.second ≡ Some t → stmt_tree (stmts.IfElse e b.first t) ≡ chosen_tree e (branches_tree b)
tree-two_branches e b t is = tree-IfElse e b.first t b.first.value t.value refl refl ∙ ap (λ (s : Option (Box Stmt Global)). chosen_tree e (Pair (Deeper (words.Symbol sym.Then) (stmt_tree b.first.value)) (second_tree s))) (flip is)

arms_by : (g : Arm Stmt → Arm ParseTree) → ((a : Arm Stmt) → seen_arm (g a) ≡ arm_of a) → (arms : List (Arm Stmt)) → map seen_arm (map g arms) ≡ arms_of arms
arms_by g same [] = refl
arms_by g same (a ∷ arms) = rw (same a, arms_by g same arms) refl

case_step : (at : ℕ) (e : Expr) (arms : Vec (Arm Stmt) Global) (o : Option (Vec Stmt Global)) → stmt_step (map-Stmt Stmt ParseTree (fold-Stmt ParseTree stmt_step) (Stmt-F.Case at e arms o)) ≡ case_tree at e (Pair (arms_row (arms_of arms.items)) (otherwise_tree (otherwise_of o)))
case_step at e arms None = ap (λ (r : List ArmParts). case_tree at e (Pair (arms_row r) (Right NoWords))) (arms_by _ (λ a. refl) arms.items)
case_step at e arms (Some v) = ap (λ (r : List ArmParts). case_tree at e (Pair (arms_row r) (otherwise_tree (Some (map stmt_tree v.items))))) (arms_by _ (λ a. refl) arms.items)

pub tree-Case : (at : ℕ) (e : Expr) (arms : Vec (Arm Stmt) Global) (o : Option (Vec Stmt Global)) → stmt_tree (stmts.Case at e arms o) ≡ case_tree at e (Pair (arms_row (arms_of arms.items)) (otherwise_tree (otherwise_of o)))
tree-Case at e arms o = search (rules, the_lemmas, case_step)

pub tree-For : (at : ℕ) (v : VariableType) (n : Name) (e : Expr) (s : Box Stmt Global) (x : Stmt) → s.value ≡ x → stmt_tree (stmts.For at v n e s) ≡ for_tree at v n e (stmt_tree x)
tree-For at v n e s x p = rw (← p) (search (rules, the_lemmas))

pub tree-Accept : stmt_tree stmts.Accept ≡ verdict_tree sym.Accept
tree-Accept = search (rules, the_lemmas)

pub tree-Reject : stmt_tree stmts.Reject ≡ verdict_tree sym.Reject
tree-Reject = search (rules, the_lemmas)

pub tree-Return : (at : ℕ) (e : Option Expr) → stmt_tree (stmts.Return at e) ≡ return_tree at e
tree-Return at e = search (rules, the_lemmas)

pub tree-Print : (v : Vec Expr Global) → stmt_tree (stmts.Print v) ≡ print_tree sym.Print v.items
tree-Print v = search (rules, the_lemmas)

pub tree-Printn : (v : Vec Expr Global) → stmt_tree (stmts.Printn v) ≡ print_tree sym.Printn v.items
tree-Printn v = search (rules, the_lemmas)

pub tree-Call : (n : Name) (at : ℕ) (v : Vec Expr Global) → stmt_tree (stmts.Call n at v) ≡ call_tree n at v.items
tree-Call n at v = search (rules, the_lemmas)

row_more : (t : ParseTree) (ss : List Stmt) (s : Stmt) → row_after t (map stmt_tree (ss ++ s ∷ [])) ≡ Snoc (row_after t (map stmt_tree ss)) (stmt_tree s)
row_more t [] s = refl
row_more t (r ∷ ss) s = row_more (Snoc t (stmt_tree r)) ss s

pub one_more_stmt : (ss : List Stmt) (s : Stmt) → stmts_tree (ss ++ s ∷ []) ≡ Snoc (stmts_tree ss) (stmt_tree s)
one_more_stmt ss s = row_more (Single NoWords) ss s
