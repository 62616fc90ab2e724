-- Statements: back from their trees, and the trees that they are of.
use Rattle.std.proofs.Common.{◌≡◌, ℕ, List, [], ◌∷◌, Option, Some, None, option_map, map, refl, sym as flip, ap, subst, ◌∙◌}
use Rattle.conf_lex.specs.declared.word.Word.{Word}
use Rattle.conf_lex.specs.declared.word.Word.TheVariants as words
use Rattle.conf_lex.specs.declared.symbol.Symbol.{Symbol}
use Rattle.conf_lex.specs.declared.symbol.Symbol.TheVariants as sym
use Rattle.conf_ast.specs.declared.named.Name.{Name}
use Rattle.conf_lex.specs.Kind.{symbol}
use Rattle.conf_lex.specs.Leaves.{symbol_leaf, name_leaf}
use Rattle.conf_lex.specs.Grammar.{Terminal, Seq, Repeat, ParseTree, Leaf, NoWords, Pair, Left, Right, Single, Snoc, Deeper, DerivesLongest}
use Rattle.conf_ast.specs.declared.filters.Arm.{Arm}
use Rattle.conf_ast.specs.declared.attribute.Attribute.{Attribute}
use Rattle.conf_ast.specs.declared.filters.Block.{Block}
use Rattle.conf_ast.specs.declared.filters.Change.{Change}
use Rattle.conf_ast.specs.declared.filters.Change.TheVariants as changes
use Rattle.conf_ast.specs.declared.filters.Expr.{Expr}
use Rattle.conf_ast.specs.declared.filters.Item.{Item}
use Rattle.conf_ast.specs.declared.filters.Item.TheVariants as items
use Rattle.conf_ast.specs.declared.filters.Num.{Num}
use Rattle.conf_ast.specs.declared.filters.Num.TheVariants as nums
use Rattle.conf_ast.specs.declared.filters.Stmt.{Stmt, fold-Stmt}
use Rattle.conf_ast.specs.declared.filters.Stmt.TheOpen.{Stmt-F}
use Rattle.conf_ast.specs.declared.filters.Stmt.TheViews.{roll-Stmt}
use Rattle.conf_ast.specs.declared.filters.Stmt.TheFolds.{map-Stmt, fold-roll-Stmt, ind-Stmt}
use Rattle.conf_ast.specs.declared.filters.Target.{Target}
use Rattle.conf_ast.specs.declared.filters.Target.TheVariants as targets
use Rattle.conf_ast.specs.declared.filters.VariableType.{VariableType}
use Rattle.expr_syntax.specs.Syntax.{rule, expr, stmt, label, arm_part, listed, optional, many, block}
use Rattle.expr_syntax.specs.Levels.{Form}
use Rattle.expr_syntax.specs.ItemView.{label_tree}
use Rattle.expr_syntax.specs.View.{derivations, method_word, expr_tree, listed_tree, arguments_tree, method_tree, in_parentheses}
use Rattle.filt_syntax.specs.StatementView.{stmt_step, stmt_tree, as_part, as_label, body_after, ArmParts, arms_after, arms_row, seen_arm, initial_tree, result_tree, assign_tree, change_stmt_tree, block_view, of_name, of_attribute_tree, block_tree, empty_tree, unset_tree, else_tree, verdict_tree}
use Rattle.expr_syntax.specs.Rows.{row_after, row_tree, semicolon_leaf, nth, beyond}
use Rattle.expr_syntax.specs.Types.{type_tree}
use Rattle.conf_ast.specs.Filters.{Expression, Expressions, NoExpressions, AndExpressions, expression_of, expressions_of, Statement, Braced, Nothing, Declare, Assign, ChangeBy, Clear, Unset, If, IfElse, Case, CaseElse, For, Accept, Reject, Return, Print, Printn, Call, Statements, NoStatements, AndStatements, Arms, NoArms, AndArms, statements, arms, statement_step, statement_of, statements_of, block_of, changed}
use Rattle.ast_laws.proofs.Equations.{two, three, three_maps}
use Rattle.ast_laws.proofs.WordsBack.{place_of, name_from, attribute_from, method_from, attribute_back, method_back}
use Rattle.ast_laws.proofs.ItemsBack.{part_from, item_from, items_from, item_back, rest_back}
use Rattle.ast_laws.proofs.TypesBack.{type_from, type_back}
use Rattle.ast_laws.proofs.ExpressionsBack.{expr_from, arguments_from, listed_from, seen, all_seen, ahead, listed_back, arguments_back, expression_back, made_of, listed_again, arguments_again, expression_again}

-- ---- back from trees

abbrev initial_from : ParseTree → Option Expression
initial_from (Left (Pair equal e)) = Some (expr_from e)
initial_from _ = None

abbrev result_from : ParseTree → Option Expression
result_from (Left e) = Some (expr_from e)
result_from _ = None

abbrev declare_from : ParseTree → Statement
declare_from (Pair v (Pair (Leaf n) (Pair e semicolon))) = Declare (type_from v) (name_from n) (initial_from e)
declare_from _ = Nothing

abbrev assigned_from : Target → ParseTree → Statement
assigned_from target (Pair equal (Pair e semicolon)) = Assign target (expr_from e)
assigned_from target _ = Nothing

abbrev changed_from : Target → ParseTree → Statement
changed_from target (Pair dot (Pair (Left empty) semicolon)) = Clear target
changed_from target (Pair dot (Pair (Right (Pair (Leaf w) (Pair (Deeper v e) c))) semicolon)) = ChangeBy target (method_from w) (place_of v) (expr_from e)
changed_from target _ = Nothing

abbrev named_from : ParseTree → ParseTree → Statement
named_from (Leaf w) (Left t) = assigned_from (targets.Name (name_from w)) t
named_from (Leaf w) (Right (Left t)) = changed_from (targets.Name (name_from w)) t
named_from (Leaf w) (Right (Right (Pair (Pair (Deeper v t) c) semicolon))) = Call (name_from w) (place_of v) (arguments_from t)
named_from _ _ = Nothing

abbrev attribute_target : Word → Target
attribute_target w = targets.Attribute (place_of w) (attribute_from w)

abbrev of_attribute_from : ParseTree → Statement
of_attribute_from (Pair (Leaf w) (Left t)) = assigned_from (attribute_target w) t
of_attribute_from (Pair (Leaf w) (Right t)) = changed_from (attribute_target w) t
of_attribute_from _ = Nothing

abbrev unset_from : ParseTree → Statement
unset_from (Pair unset (Pair (Pair (Deeper v (Leaf w)) c) semicolon)) = Unset (place_of v) (place_of w) (attribute_from w)
unset_from _ = Nothing

abbrev verdict_from : ParseTree → Statement
verdict_from (Pair (Leaf (words.Symbol sym.Accept)) semicolon) = Accept
verdict_from (Pair (Leaf (words.Symbol sym.Reject)) semicolon) = Reject
verdict_from _ = Nothing

abbrev return_from : ParseTree → Statement
return_from (Pair (Leaf w) (Pair e semicolon)) = Return (place_of w) (result_from e)
return_from _ = Nothing

abbrev print_from : ParseTree → Statement
print_from (Pair (Leaf (words.Symbol sym.Print)) (Pair es semicolon)) = Print (listed_from es NoExpressions)
print_from (Pair (Leaf (words.Symbol sym.Printn)) (Pair es semicolon)) = Printn (listed_from es NoExpressions)
print_from _ = Nothing

abbrev mutual
  pub stmt_from : ParseTree → Statement
  stmt_from (Left (Pair n done)) = named_from n done
  stmt_from (Right t) = unnamed_from t
  stmt_from _ = Nothing

  pub unnamed_from : ParseTree → Statement
  unnamed_from (Left (Pair (Deeper v t) c)) = Braced (row_from t NoStatements)
  unnamed_from (Right (Right (Left t))) = declare_from t
  unnamed_from (Right (Right (Right (Left t)))) = of_attribute_from t
  unnamed_from (Right (Right (Right (Right (Left t))))) = unset_from t
  unnamed_from (Right (Right (Right (Right (Right (Left (Pair (Pair if_word e) (Pair (Deeper v s) (Right b))))))))) = If (expr_from e) (stmt_from s)
  unnamed_from (Right (Right (Right (Right (Right (Left (Pair (Pair if_word e) (Pair (Deeper v s) (Left (Deeper u t)))))))))) = IfElse (expr_from e) (stmt_from s) (stmt_from t)
  unnamed_from (Right (Right (Right (Right (Right (Right (Left (Pair (Pair (Leaf w) e) (Pair (Deeper v (Pair t (Right b))) c))))))))) = Case (place_of w) (expr_from e) (arms_row_from t)
  unnamed_from (Right (Right (Right (Right (Right (Right (Left (Pair (Pair (Leaf w) e) (Pair (Deeper v (Pair t (Left (Pair else_word ss)))) c))))))))) = CaseElse (place_of w) (expr_from e) (arms_row_from t) (row_from ss NoStatements)
  unnamed_from (Right (Right (Right (Right (Right (Right (Right (Left (Pair (Leaf w) (Pair t (Pair (Leaf n) (Pair (Pair in_word e) (Deeper v s))))))))))))) = For (place_of w) (type_from t) (name_from n) (expr_from e) (stmt_from s)
  unnamed_from (Right (Right (Right (Right (Right (Right (Right (Right (Left t))))))))) = verdict_from t
  unnamed_from (Right (Right (Right (Right (Right (Right (Right (Right (Right (Left t)))))))))) = return_from t
  unnamed_from (Right (Right (Right (Right (Right (Right (Right (Right (Right (Right t)))))))))) = print_from t
  unnamed_from _ = Nothing

  -- the statements of a row, before others
  pub row_from : ParseTree → Statements → Statements
  row_from (Snoc t s) more = row_from t (AndStatements (stmt_from s) more)
  row_from _ more = more

  pub arms_row_from : ParseTree → Arms
  arms_row_from (Left t) = arms_from t NoStatements NoArms
  arms_row_from _ = NoArms

  -- the arms of a row, before the statements that end the last of them and before others
  pub arms_from : ParseTree → Statements → Arms → Arms
  arms_from (Single (Pair i (Pair is colon))) body more = AndArms (item_from i ∷ items_from is []) body more
  arms_from (Snoc t (Left (Pair n (Left done)))) body more = arms_from t (AndStatements (named_from n done) body) more
  arms_from (Snoc t (Left (Pair n (Right (Pair high (Pair is colon)))))) body more = arms_from t NoStatements (AndArms (items.Range (part_from (Pair n high)) ∷ items_from is []) body more)
  arms_from (Snoc t (Right (Left (Pair i (Pair is colon))))) body more = arms_from t NoStatements (AndArms (item_from i ∷ items_from is []) body more)
  arms_from (Snoc t (Right (Right s))) body more = arms_from t (AndStatements (unnamed_from s) body) more
  arms_from _ body more = more

-- ---- the tree of a statement

abbrev initial_of : Option Expression → ParseTree
initial_of None = Right NoWords
initial_of (Some e) = Left (Pair (symbol_leaf sym.Equal) (seen e).expr)

abbrev result_of : Option Expression → ParseTree
result_of None = Right NoWords
result_of (Some e) = Left (seen e).expr

abbrev assigned_to : Target → ParseTree → ParseTree
assigned_to (targets.Name n) e = of_name n (Left (Pair (symbol_leaf sym.Equal) (Pair e semicolon_leaf)))
assigned_to (targets.Attribute at a) e = of_attribute_tree at a (Left (Pair (symbol_leaf sym.Equal) (Pair e semicolon_leaf)))

abbrev done_to : Target → ParseTree → ParseTree
done_to (targets.Name n) t = of_name n (Right (Left (Pair (symbol_leaf sym.Dot) (Pair t semicolon_leaf))))
done_to (targets.Attribute at a) t = of_attribute_tree at a (Right (Pair (symbol_leaf sym.Dot) (Pair t semicolon_leaf)))

abbrev choice_of : ParseTree → ParseTree → ParseTree → ParseTree
choice_of e first second = Right (nth 5 (Pair (Pair (symbol_leaf sym.If) e) (Pair (Deeper (words.Symbol sym.Then) first) second)))

abbrev arms_in : ℕ → ParseTree → ParseTree → ParseTree
arms_in at e inside = Right (nth 6 (Pair (Pair (Leaf (words.Placed at sym.Case)) e) (Pair (Deeper (words.Symbol sym.OpenBrace) inside) (symbol_leaf sym.CloseBrace))))

abbrev loop_of : ℕ → VariableType → Name → ParseTree → ParseTree → ParseTree
loop_of at v n e body = Right (nth 7 (Pair (Leaf (words.Placed at sym.For)) (Pair (type_tree v) (Pair (name_leaf n) (Pair (Pair (symbol_leaf sym.In) e) (Deeper (words.Symbol sym.Do) body))))))

abbrev printed_of : Symbol → List ParseTree → ParseTree
printed_of s es = Right (beyond 10 (Pair (symbol_leaf s) (Pair (listed_tree es) semicolon_leaf)))

abbrev mutual
  pub tree_of : Statement → ParseTree
  tree_of (Braced ss) = block_tree (row_tree (trees_of ss))
  tree_of Nothing = empty_tree
  tree_of (Declare v n e) = Right (nth 2 (Pair (type_tree v) (Pair (name_leaf n) (Pair (initial_of e) semicolon_leaf))))
  tree_of (Assign target e) = assigned_to target (seen e).expr
  tree_of (ChangeBy target m place e) = done_to target (Right (method_tree m place (seen e).expr))
  tree_of (Clear target) = done_to target (Left (symbol_leaf sym.Empty))
  tree_of (Unset place at a) = unset_tree place at a
  tree_of (If e s) = choice_of (seen e).expr (tree_of s) (Right NoWords)
  tree_of (IfElse e s t) = choice_of (seen e).expr (tree_of s) (else_tree (tree_of t))
  tree_of (Case at e more) = arms_in at (seen e).expr (Pair (arms_row (arms_parts more)) (Right NoWords))
  tree_of (CaseElse at e more ss) = arms_in at (seen e).expr (Pair (arms_row (arms_parts more)) (Left (Pair (symbol_leaf sym.ElseColon) (row_tree (trees_of ss)))))
  tree_of (For at v n e body) = loop_of at v n (seen e).expr (tree_of body)
  tree_of Accept = verdict_tree sym.Accept
  tree_of Reject = verdict_tree sym.Reject
  tree_of (Return at e) = Right (nth 9 (Pair (Leaf (words.Placed at sym.Return)) (Pair (result_of e) semicolon_leaf)))
  tree_of (Print es) = printed_of sym.Print (all_seen es)
  tree_of (Printn es) = printed_of sym.Printn (all_seen es)
  tree_of (Call n place es) = of_name n (Right (Right (Pair (in_parentheses place (arguments_tree (all_seen es))) semicolon_leaf)))

  pub trees_of : Statements → List ParseTree
  trees_of NoStatements = []
  trees_of (AndStatements s ss) = tree_of s ∷ trees_of ss

  pub arms_parts : Arms → List ArmParts
  arms_parts NoArms = []
  arms_parts (AndArms labels body more) = (labels, trees_of body) ∷ arms_parts more

-- ---- what is known of each statement

-- a name begins it, or not
abbrev IsEither : ParseTree → Type 0
IsEither (Left (Pair n done)) = Unit {0}
IsEither (Right t) = Unit {0}
IsEither _ = ⊥

record Back (t : ParseTree) (x : Statement) : Type 0 where
  pub shape : IsEither t
  pub told : DerivesLongest rule t stmt → stmt_from t ≡ x
  pub again : DerivesLongest rule t stmt → tree_of x ≡ t

abbrev Known : Type 0
Known = (s : Stmt) × Back (stmt_tree s) (statement_of s)

-- ---- expressions in statements

initial_back : (e : Option Expr) → DerivesLongest rule (initial_tree e) (optional (Seq (Terminal (symbol sym.Equal)) expr)) → initial_from (initial_tree e) ≡ option_map expression_of e
initial_back None h = refl
initial_back (Some e) h = ap (λ (x : Expression). Some x) (expression_back e h.1)

result_back : (e : Option Expr) → DerivesLongest rule (result_tree e) (optional expr) → result_from (result_tree e) ≡ option_map expression_of e
result_back None h = refl
result_back (Some e) h = ap (λ (x : Expression). Some x) (expression_back e h)

initial_again : (e : Option Expr) → DerivesLongest rule (initial_tree e) (optional (Seq (Terminal (symbol sym.Equal)) expr)) → initial_of (option_map expression_of e) ≡ initial_tree e
initial_again None h = refl
initial_again (Some e) h = ap (λ (t : ParseTree). Left (Pair (symbol_leaf sym.Equal) t)) (expression_again e h.1)

result_again : (e : Option Expr) → DerivesLongest rule (result_tree e) (optional expr) → result_of (option_map expression_of e) ≡ result_tree e
result_again None h = refl
result_again (Some e) h = ap (λ (t : ParseTree). Left t) (expression_again e h)

ahead_of : (es : List Expr) → ahead expression_of es NoExpressions ≡ expressions_of es
ahead_of [] = refl
ahead_of (e ∷ es) = ap (λ (x : Expressions). AndExpressions (expression_of e) x) (ahead_of es)

printed_back : (es : List Expr) → DerivesLongest rule (listed_tree (map expr_tree es)) (listed expr) → listed_from (listed_tree (map expr_tree es)) NoExpressions ≡ expressions_of es
printed_back es h = listed_back expr_tree expression_of expression_back es h ∙ ahead_of es

called_back : (es : List Expr) → DerivesLongest rule (arguments_tree (map expr_tree es)) (optional (listed expr)) → arguments_from (arguments_tree (map expr_tree es)) ≡ expressions_of es
called_back es h = arguments_back expr_tree expression_of expression_back es h ∙ ahead_of es

made_is : (es : List Expr) → expressions_of es ≡ made_of expression_of es
made_is [] = refl
made_is (e ∷ es) = ap (λ (x : Expressions). AndExpressions (expression_of e) x) (made_is es)

printed_again : (es : List Expr) → DerivesLongest rule (listed_tree (map expr_tree es)) (listed expr) → all_seen (expressions_of es) ≡ map expr_tree es
printed_again es h = ap (λ (x : Expressions). all_seen x) (made_is es) ∙ listed_again expr_tree expression_of expression_again es h

called_again : (es : List Expr) → DerivesLongest rule (arguments_tree (map expr_tree es)) (optional (listed expr)) → all_seen (expressions_of es) ≡ map expr_tree es
called_again es h = ap (λ (x : Expressions). all_seen x) (made_is es) ∙ arguments_again expr_tree expression_of expression_again es h

-- trees of what was made, and that what they stand behind fits too
pub record AreSeen {X : Type 0} (made known : X) (t : ParseTree) (f : Form) : Type 0 where
  pub same : made ≡ known
  pub fits : DerivesLongest rule t f

-- ---- rows of statements

abbrev before : List Known → Statements → Statements
before [] more = more
before (k ∷ ks) more = AndStatements (statement_of k.0) (before ks more)

rows_back : (ks : List Known) (t : ParseTree) (done : Statements → Statements) → (DerivesLongest rule t (many stmt) → (more : Statements) → row_from t more ≡ done more) → DerivesLongest rule (row_after t (map (fold-Stmt ParseTree stmt_step) (map (λ (k : Known). k.0) ks))) (many stmt) → (more : Statements) → row_from (row_after t (map (fold-Stmt ParseTree stmt_step) (map (λ (k : Known). k.0) ks))) more ≡ done (before ks more)
rows_back [] t done first h more = first h more
rows_back (k ∷ ks) t done first h more = rows_back ks (Snoc t (stmt_tree k.0)) (λ m. done (AndStatements (statement_of k.0) m)) (λ f m. ap (λ (s : Statement). row_from t (AndStatements s m)) (k.1.told f.1) ∙ first f.0 (AndStatements (statement_of k.0) m)) h more

before_made : (ks : List Known) → before ks NoStatements ≡ statements (map (fold-Stmt Statement statement_step) (map (λ (k : Known). k.0) ks))
before_made [] = refl
before_made (k ∷ ks) = ap (λ (ss : Statements). AndStatements (statement_of k.0) ss) (before_made ks)

row_back : (ks : List Known) → DerivesLongest rule (row_tree (map (fold-Stmt ParseTree stmt_step) (map (λ (k : Known). k.0) ks))) (many stmt) → row_from (row_tree (map (fold-Stmt ParseTree stmt_step) (map (λ (k : Known). k.0) ks))) NoStatements ≡ statements (map (fold-Stmt Statement statement_step) (map (λ (k : Known). k.0) ks))
row_back ks h = rows_back ks (Single NoWords) (λ m. m) (λ f m. refl) h NoStatements ∙ before_made ks

rows_again : (ks : List Known) (t : ParseTree) → DerivesLongest rule (row_after t (map (fold-Stmt ParseTree stmt_step) (map (λ (k : Known). k.0) ks))) (many stmt) → AreSeen (trees_of (before ks NoStatements)) (map (fold-Stmt ParseTree stmt_step) (map (λ (k : Known). k.0) ks)) t (many stmt)
rows_again [] t h = record { same = refl; fits = h }
rows_again (k ∷ ks) t h =
    let later = rows_again ks (Snoc t (stmt_tree k.0)) h in
    record { same = two (λ (u : ParseTree) (us : List ParseTree). u ∷ us) _ _ _ _ (k.1.again later.fits.1) later.same; fits = later.fits.0 }

row_again : (ks : List Known) → DerivesLongest rule (row_tree (map (fold-Stmt ParseTree stmt_step) (map (λ (k : Known). k.0) ks))) (many stmt) → trees_of (statements (map (fold-Stmt Statement statement_step) (map (λ (k : Known). k.0) ks))) ≡ (map (fold-Stmt ParseTree stmt_step) (map (λ (k : Known). k.0) ks))
row_again ks h = ap (λ (ss : Statements). trees_of ss) (flip (before_made ks)) ∙ (rows_again ks (Single NoWords) h).same

-- ---- the arms of a `case`

part_known : (t u : ParseTree) (x : Statement) (body : Statements) (more : Arms) → IsEither u → (DerivesLongest rule u stmt → stmt_from u ≡ x) → DerivesLongest rule (as_part u) arm_part → arms_from (Snoc t (as_part u)) body more ≡ arms_from t (AndStatements x body) more
part_known t (Left (Pair n done)) x body more shape told f = ap (λ (s : Statement). arms_from t (AndStatements s body) more) (told f)
part_known t (Right s) x body more shape told f = ap (λ (s : Statement). arms_from t (AndStatements s body) more) (told f)
part_known t (Left (Leaf w)) x body more shape told f = absurd shape
part_known t _ x body more shape told f = absurd shape

label_part : (t : ParseTree) (low : Num) (high : Option Num) (is : List Item) (body : Statements) (more : Arms) → arms_from (Snoc t (as_label (label_tree (items.Range (record { low = low; high = high }) ∷ is)))) body more ≡ arms_from t NoStatements (AndArms (items.Range (record { low = low; high = high }) ∷ is) body more)
label_part t (nums.Number at value) high is body more = two (λ i rest. arms_from t NoStatements (AndArms (i ∷ rest) body more)) _ _ _ _ (item_back (items.Range (record { low = nums.Number at value; high = high }))) (rest_back is)
label_part t (nums.Name n) high is body more = two (λ i rest. arms_from t NoStatements (AndArms (i ∷ rest) body more)) _ _ _ _ (item_back (items.Range (record { low = nums.Name n; high = high }))) (rest_back is)

label_known : (t : ParseTree) (is : List Item) (body : Statements) (more : Arms) → DerivesLongest rule (as_label (label_tree is)) arm_part → arms_from (Snoc t (as_label (label_tree is))) body more ≡ arms_from t NoStatements (AndArms is body more)
label_known t [] body more f = absurd f
label_known t (items.Range p ∷ is) body more f = label_part t p.low p.high is body more
label_known t (items.Pair at a b ∷ is) body more f = two (λ i rest. arms_from t NoStatements (AndArms (i ∷ rest) body more)) _ _ _ _ (item_back (items.Pair at a b)) (rest_back is)
label_known t (items.Prefix at net l ∷ is) body more f = two (λ i rest. arms_from t NoStatements (AndArms (i ∷ rest) body more)) _ _ _ _ (item_back (items.Prefix at net l)) (rest_back is)

first_label : (is : List Item) (body : Statements) (more : Arms) → DerivesLongest rule (label_tree is) label → arms_from (Single (label_tree is)) body more ≡ AndArms is body more
first_label [] body more f = absurd f
first_label (i ∷ is) body more f = two (λ j rest. AndArms (j ∷ rest) body more) _ _ _ _ (item_back i) (rest_back is)

body_back : (ks : List Known) (t : ParseTree) (done : Statements → Arms → Arms) → (DerivesLongest rule t (Repeat label arm_part) → (body : Statements) (more : Arms) → arms_from t body more ≡ done body more) → DerivesLongest rule (body_after t (map (fold-Stmt ParseTree stmt_step) (map (λ (k : Known). k.0) ks))) (Repeat label arm_part) → (body : Statements) (more : Arms) → arms_from (body_after t (map (fold-Stmt ParseTree stmt_step) (map (λ (k : Known). k.0) ks))) body more ≡ done (before ks body) more
body_back [] t done first h body more = first h body more
body_back (k ∷ ks) t done first h body more = body_back ks (Snoc t (as_part (stmt_tree k.0))) (λ b m. done (AndStatements (statement_of k.0) b) m) (λ f b m. part_known t (stmt_tree k.0) (statement_of k.0) b m k.1.shape k.1.told f.1 ∙ first f.0 (AndStatements (statement_of k.0) b) m) h body more

abbrev arm_known : Arm Known → ArmParts
arm_known a = (a.labels.items, map (fold-Stmt ParseTree stmt_step) (map (λ (k : Known). k.0) a.body.items))

abbrev arms_before : List (Arm Known) → Arms → Arms
arms_before [] more = more
arms_before (a ∷ as_arms) more = AndArms a.labels.items (before a.body.items NoStatements) (arms_before as_arms more)

after_back : (as_arms : List (Arm Known)) (t : ParseTree) (done : Statements → Arms → Arms) → (DerivesLongest rule t (Repeat label arm_part) → (body : Statements) (more : Arms) → arms_from t body more ≡ done body more) → DerivesLongest rule (arms_after t (map arm_known as_arms)) (Repeat label arm_part) → (more : Arms) → arms_from (arms_after t (map arm_known as_arms)) NoStatements more ≡ done NoStatements (arms_before as_arms more)
after_back [] t done first h more = first h NoStatements more
after_back (a ∷ as_arms) t done first h more =
    after_back as_arms (body_after (Snoc t (as_label (label_tree a.labels.items))) (map (fold-Stmt ParseTree stmt_step) (map (λ (k : Known). k.0) a.body.items))) (λ b m. done NoStatements (AndArms a.labels.items (before a.body.items b) m))
    (body_back a.body.items (Snoc t (as_label (label_tree a.labels.items))) (λ b m. done NoStatements (AndArms a.labels.items b m)) (λ f b m. label_known t a.labels.items b m f.1 ∙ first f.0 NoStatements (AndArms a.labels.items b m))) h more

arms_known : (as_arms : List (Arm Known)) → DerivesLongest rule (arms_row (map arm_known as_arms)) (optional (Repeat label arm_part)) → arms_row_from (arms_row (map arm_known as_arms)) ≡ arms_before as_arms NoArms
arms_known [] h = refl
arms_known (a ∷ as_arms) h =
    after_back as_arms (body_after (Single (label_tree a.labels.items)) (map (fold-Stmt ParseTree stmt_step) (map (λ (k : Known). k.0) a.body.items))) (λ b m. AndArms a.labels.items (before a.body.items b) m)
    (body_back a.body.items (Single (label_tree a.labels.items)) (λ b m. AndArms a.labels.items b m) (λ f b m. first_label a.labels.items b m f)) h NoArms

arms_made : (f : Arm Known → Arm Stmt) (g : Arm Stmt → Arm Statement) → ((a : Arm Known) → (g (f a)).labels.items ≡ a.labels.items) → ((a : Arm Known) → (g (f a)).body.items ≡ map (fold-Stmt Statement statement_step) (map (λ (k : Known). k.0) a.body.items)) → (as_arms : List (Arm Known)) → arms_before as_arms NoArms ≡ arms (map g (map f as_arms))
arms_made f g labels body [] = refl
arms_made f g labels body (a ∷ as_arms) = rw (labels a, body a, before_made a.body.items, arms_made f g labels body as_arms) refl

arms_back : (as_arms : List (Arm Known)) (parts : List ArmParts) (made : Arms) → parts ≡ map arm_known as_arms → arms_before as_arms NoArms ≡ made → DerivesLongest rule (arms_row parts) (optional (Repeat label arm_part)) → arms_row_from (arms_row parts) ≡ made
arms_back as_arms parts made is same h = ap (λ (ps : List ArmParts). arms_row_from (arms_row ps)) is ∙ arms_known as_arms (subst (λ (ps : List ArmParts). DerivesLongest rule (arms_row ps) (optional (Repeat label arm_part))) is h) ∙ same

part_fits : (u : ParseTree) → IsEither u → DerivesLongest rule (as_part u) arm_part → DerivesLongest rule u stmt
part_fits (Left (Pair n done)) shape f = f
part_fits (Right t) shape f = f
part_fits _ shape f = absurd shape

body_again : (ks : List Known) (t : ParseTree) → DerivesLongest rule (body_after t (map (fold-Stmt ParseTree stmt_step) (map (λ (k : Known). k.0) ks))) (Repeat label arm_part) → AreSeen (trees_of (before ks NoStatements)) (map (fold-Stmt ParseTree stmt_step) (map (λ (k : Known). k.0) ks)) t (Repeat label arm_part)
body_again [] t h = record { same = refl; fits = h }
body_again (k ∷ ks) t h =
    let later = body_again ks (Snoc t (as_part (stmt_tree k.0))) h in
    record { same = two (λ (u : ParseTree) (us : List ParseTree). u ∷ us) _ _ _ _ (k.1.again (part_fits (stmt_tree k.0) k.1.shape later.fits.1)) later.same; fits = later.fits.0 }

after_again : (as_arms : List (Arm Known)) (t : ParseTree) → DerivesLongest rule (arms_after t (map arm_known as_arms)) (Repeat label arm_part) → AreSeen (arms_parts (arms_before as_arms NoArms)) (map arm_known as_arms) t (Repeat label arm_part)
after_again [] t h = record { same = refl; fits = h }
after_again (a ∷ as_arms) t h =
    let later = after_again as_arms (body_after (Snoc t (as_label (label_tree a.labels.items))) (map (fold-Stmt ParseTree stmt_step) (map (λ (k : Known). k.0) a.body.items))) h in
    let body = body_again a.body.items (Snoc t (as_label (label_tree a.labels.items))) later.fits in
    record { same = two (λ (u : List ParseTree) (us : List ArmParts). (a.labels.items, u) ∷ us) _ _ _ _ body.same later.same; fits = body.fits.0 }

row_of_arms : (as_arms : List (Arm Known)) → DerivesLongest rule (arms_row (map arm_known as_arms)) (optional (Repeat label arm_part)) → arms_parts (arms_before as_arms NoArms) ≡ map arm_known as_arms
row_of_arms [] h = refl
row_of_arms (a ∷ as_arms) h =
    let later = after_again as_arms (body_after (Single (label_tree a.labels.items)) (map (fold-Stmt ParseTree stmt_step) (map (λ (k : Known). k.0) a.body.items))) h in
    let body = body_again a.body.items (Single (label_tree a.labels.items)) later.fits in
    two (λ (u : List ParseTree) (us : List ArmParts). (a.labels.items, u) ∷ us) _ _ _ _ body.same later.same

arms_again : (as_arms : List (Arm Known)) (parts : List ArmParts) (made : Arms) → parts ≡ map arm_known as_arms → arms_before as_arms NoArms ≡ made → DerivesLongest rule (arms_row parts) (optional (Repeat label arm_part)) → arms_parts made ≡ parts
arms_again as_arms parts made is same h = ap (λ (m : Arms). arms_parts m) (flip same) ∙ row_of_arms as_arms (subst (λ (ps : List ArmParts). DerivesLongest rule (arms_row ps) (optional (Repeat label arm_part))) is h) ∙ flip is

-- ---- each kind of statement

declare_back : (v : VariableType) (n : Name) (e : Option Expr) → Back (stmt_step (Stmt-F.Declare v n e)) (Declare v n (option_map expression_of e))
declare_back v n e = record { shape = tt; told = λ f. two (λ w x. Declare w n x) _ _ _ _ (type_back v) (initial_back e f.1.1.0); again = λ f. ap (λ (t : ParseTree). Right (nth 2 (Pair (type_tree v) (Pair (name_leaf n) (Pair t semicolon_leaf))))) (initial_again e f.1.1.0) }

assign_back : (target : Target) (e : Expr) → Back (assign_tree target e) (Assign target (expression_of e))
assign_back (targets.Name n) e = record { shape = tt; told = λ f. ap (λ (x : Expression). Assign (targets.Name n) x) (expression_back e f.1.1.0); again = λ f. ap (λ (t : ParseTree). assigned_to (targets.Name n) t) (expression_again e f.1.1.0) }
assign_back (targets.Attribute at a) e = record { shape = tt; told = λ f. two (λ b x. Assign (targets.Attribute at b) x) _ _ _ _ (attribute_back at a) (expression_back e f.1.1.0); again = λ f. ap (λ (t : ParseTree). assigned_to (targets.Attribute at a) t) (expression_again e f.1.1.0) }

change_back : (target : Target) (c : Change) → Back (change_stmt_tree target c) (changed target c)
change_back (targets.Name n) changes.Empty = record { shape = tt; told = λ f. refl; again = λ f. refl }
change_back (targets.Name n) (changes.Method m place e) = record { shape = tt; told = λ f. two (λ k x. ChangeBy (targets.Name n) k place x) _ _ _ _ (method_back m) (expression_back e f.1.1.0.1.0.1); again = λ f. ap (λ (t : ParseTree). done_to (targets.Name n) (Right (method_tree m place t))) (expression_again e f.1.1.0.1.0.1) }
change_back (targets.Attribute at a) changes.Empty = record { shape = tt; told = λ f. ap (λ (b : Attribute). Clear (targets.Attribute at b)) (attribute_back at a); again = λ f. refl }
change_back (targets.Attribute at a) (changes.Method m place e) = record { shape = tt; told = λ f. ap (λ (b : Attribute). ChangeBy (targets.Attribute at b) (method_from (method_word m)) place (expr_from (derivations e).expr)) (attribute_back at a) ∙ two (λ k x. ChangeBy (targets.Attribute at a) k place x) _ _ _ _ (method_back m) (expression_back e f.1.1.0.1.0.1); again = λ f. ap (λ (t : ParseTree). done_to (targets.Attribute at a) (Right (method_tree m place t))) (expression_again e f.1.1.0.1.0.1) }

return_back : (at : ℕ) (e : Option Expr) → Back (stmt_step (Stmt-F.Return at e)) (Return at (option_map expression_of e))
return_back at e = record { shape = tt; told = λ f. ap (λ (x : Option Expression). Return at x) (result_back e f.1.0); again = λ f. ap (λ (t : ParseTree). Right (nth 9 (Pair (Leaf (words.Placed at sym.Return)) (Pair t semicolon_leaf)))) (result_again e f.1.0) }

-- ---- all statements

abbrev parts : Stmt-F Known → Stmt-F Stmt
parts y = map-Stmt Known Stmt (λ p. p.0) y

step : (y : Stmt-F Known) → Back (stmt_step (map-Stmt Stmt ParseTree (fold-Stmt ParseTree stmt_step) (parts y))) (statement_step (map-Stmt Stmt Statement (fold-Stmt Statement statement_step) (parts y)))
step (Stmt-F.Block body) = record { shape = tt; told = λ f. ap (λ (ss : Statements). Braced ss) (row_back body.items f.0.1); again = λ f. ap (λ (ts : List ParseTree). block_tree (row_tree ts)) (row_again body.items f.0.1) }
step Stmt-F.Empty = record { shape = tt; told = λ f. refl; again = λ f. refl }
step (Stmt-F.Declare v n e) = declare_back v n e
step (Stmt-F.Assign target e) = assign_back target e
step (Stmt-F.Change target c) = change_back target c
step (Stmt-F.Unset place at a) = record { shape = tt; told = λ f. ap (λ (b : Attribute). Unset place at b) (attribute_back at a); again = λ f. refl }
step (Stmt-F.If e s) = record { shape = tt; told = λ f. two (λ x y. If x y) _ _ _ _ (expression_back e f.0.1) (s.value.1.told f.1.0.1); again = λ f. two (λ (t u : ParseTree). choice_of t u (Right NoWords)) _ _ _ _ (expression_again e f.0.1) (s.value.1.again f.1.0.1) }
step (Stmt-F.IfElse e s t) = record { shape = tt; told = λ f. ap (λ (x : Expression). IfElse x (stmt_from (stmt_tree s.value.0)) (stmt_from (stmt_tree t.value.0))) (expression_back e f.0.1) ∙ two (λ x y. IfElse (expression_of e) x y) _ _ _ _ (s.value.1.told f.1.0.1) (t.value.1.told f.1.1.1); again = λ f. three (λ (u v w : ParseTree). choice_of u v (else_tree w)) _ _ _ _ _ _ (expression_again e f.0.1) (s.value.1.again f.1.0.1) (t.value.1.again f.1.1.1) }
step (Stmt-F.Case at e as_arms None) = record { shape = tt; told = λ f. two (λ x y. Case at x y) _ _ _ _ (expression_back e f.0.1) (arms_back as_arms.items _ _ (three_maps _ _ seen_arm arm_known (λ a. refl) as_arms.items) (arms_made _ _ (λ a. refl) (λ a. refl) as_arms.items) f.1.0.1.0); again = λ f. two (λ (t : ParseTree) (ps : List ArmParts). arms_in at t (Pair (arms_row ps) (Right NoWords))) _ _ _ _ (expression_again e f.0.1) (arms_again as_arms.items _ _ (three_maps _ _ seen_arm arm_known (λ a. refl) as_arms.items) (arms_made _ _ (λ a. refl) (λ a. refl) as_arms.items) f.1.0.1.0) }
step (Stmt-F.Case at e as_arms (Some ss)) = record { shape = tt; told = λ f. three (λ x y z. CaseElse at x y z) _ _ _ _ _ _ (expression_back e f.0.1) (arms_back as_arms.items _ _ (three_maps _ _ seen_arm arm_known (λ a. refl) as_arms.items) (arms_made _ _ (λ a. refl) (λ a. refl) as_arms.items) f.1.0.1.0) (row_back ss.items f.1.0.1.1.1); again = λ f. three (λ (t : ParseTree) (ps : List ArmParts) (ts : List ParseTree). arms_in at t (Pair (arms_row ps) (Left (Pair (symbol_leaf sym.ElseColon) (row_tree ts))))) _ _ _ _ _ _ (expression_again e f.0.1) (arms_again as_arms.items _ _ (three_maps _ _ seen_arm arm_known (λ a. refl) as_arms.items) (arms_made _ _ (λ a. refl) (λ a. refl) as_arms.items) f.1.0.1.0) (row_again ss.items f.1.0.1.1.1) }
step (Stmt-F.For at v n e body) = record { shape = tt; told = λ f. ap (λ (w : VariableType). For at w n (expr_from (derivations e).expr) (stmt_from (stmt_tree body.value.0))) (type_back v) ∙ two (λ x y. For at v n x y) _ _ _ _ (expression_back e f.1.1.1.0.1) (body.value.1.told f.1.1.1.1.1); again = λ f. two (λ (t u : ParseTree). loop_of at v n t u) _ _ _ _ (expression_again e f.1.1.1.0.1) (body.value.1.again f.1.1.1.1.1) }
step Stmt-F.Accept = record { shape = tt; told = λ f. refl; again = λ f. refl }
step Stmt-F.Reject = record { shape = tt; told = λ f. refl; again = λ f. refl }
step (Stmt-F.Return at e) = return_back at e
step (Stmt-F.Print es) = record { shape = tt; told = λ f. ap (λ (x : Expressions). Print x) (printed_back es.items f.1.0); again = λ f. ap (λ (ts : List ParseTree). printed_of sym.Print ts) (printed_again es.items f.1.0) }
step (Stmt-F.Printn es) = record { shape = tt; told = λ f. ap (λ (x : Expressions). Printn x) (printed_back es.items f.1.0); again = λ f. ap (λ (ts : List ParseTree). printed_of sym.Printn ts) (printed_again es.items f.1.0) }
step (Stmt-F.Call n place es) = record { shape = tt; told = λ f. ap (λ (x : Expressions). Call n place x) (called_back es.items f.1.0.0.1); again = λ f. ap (λ (ts : List ParseTree). of_name n (Right (Right (Pair (in_parentheses place (arguments_tree ts)) semicolon_leaf)))) (called_again es.items f.1.0.0.1) }

back : (s : Stmt) → Back (stmt_tree s) (statement_of s)
back = ind-Stmt (λ s. Back (stmt_tree s) (statement_of s)) (λ x y is.
    subst (λ (z : Stmt-F Stmt). Back (stmt_tree (roll-Stmt z)) (statement_of (roll-Stmt z))) is
    (subst (λ (t : ParseTree). Back t (statement_of (roll-Stmt (parts y)))) (flip (fold-roll-Stmt ParseTree stmt_step (parts y)))
    (subst (λ (v : Statement). Back (stmt_step (map-Stmt Stmt ParseTree (fold-Stmt ParseTree stmt_step) (parts y))) v) (flip (fold-roll-Stmt Statement statement_step (parts y))) (step y))))

-- ---- blocks

abbrev of_list : List Stmt → Statements → Statements
of_list [] more = more
of_list (s ∷ ss) more = AndStatements (statement_of s) (of_list ss more)

list_back : (ss : List Stmt) (t : ParseTree) (done : Statements → Statements) → (DerivesLongest rule t (many stmt) → (more : Statements) → row_from t more ≡ done more) → DerivesLongest rule (row_after t (map stmt_tree ss)) (many stmt) → (more : Statements) → row_from (row_after t (map stmt_tree ss)) more ≡ done (of_list ss more)
list_back [] t done first h more = first h more
list_back (s ∷ ss) t done first h more = list_back ss (Snoc t (stmt_tree s)) (λ m. done (AndStatements (statement_of s) m)) (λ f m. ap (λ (x : Statement). row_from t (AndStatements x m)) ((back s).told f.1) ∙ first f.0 (AndStatements (statement_of s) m)) h more

list_made : (ss : List Stmt) → of_list ss NoStatements ≡ statements_of ss
list_made [] = refl
list_made (s ∷ ss) = ap (λ (x : Statements). AndStatements (statement_of s) x) (list_made ss)

abbrev pub block_from : ParseTree → Statements
block_from (Pair (Deeper v t) c) = row_from t NoStatements
block_from _ = NoStatements

pub block_back : (b : Block) → DerivesLongest rule (block_view b) block → block_from (block_view b) ≡ block_of b
block_back b h = list_back b.statements.items (Single NoWords) (λ m. m) (λ f m. refl) h.0.1 NoStatements ∙ list_made b.statements.items

pub one_block : (c d : Block) → DerivesLongest rule (block_view c) block → block_view c ≡ block_view d → block_of c ≡ block_of d
one_block c d h same = flip (block_back c h) ∙ ap (λ (t : ParseTree). block_from t) same ∙ block_back d (subst (λ (t : ParseTree). DerivesLongest rule t block) same h)

list_again : (ss : List Stmt) (t : ParseTree) → DerivesLongest rule (row_after t (map stmt_tree ss)) (many stmt) → AreSeen (trees_of (statements_of ss)) (map stmt_tree ss) t (many stmt)
list_again [] t h = record { same = refl; fits = h }
list_again (s ∷ ss) t h =
    let later = list_again ss (Snoc t (stmt_tree s)) h in
    record { same = two (λ (u : ParseTree) (us : List ParseTree). u ∷ us) _ _ _ _ ((back s).again later.fits.1) later.same; fits = later.fits.0 }

abbrev pub block_tree_of : Statements → ParseTree
block_tree_of ss = Pair (Deeper (words.Symbol sym.OpenBrace) (row_tree (trees_of ss))) (symbol_leaf sym.CloseBrace)

pub block_again : (b : Block) → DerivesLongest rule (block_view b) block → block_tree_of (block_of b) ≡ block_view b
block_again b h = ap (λ (ts : List ParseTree). Pair (Deeper (words.Symbol sym.OpenBrace) (row_tree ts)) (symbol_leaf sym.CloseBrace)) (list_again b.statements.items (Single NoWords) h.0.1).same

pub one_block_tree : (c d : Block) → DerivesLongest rule (block_view c) block → DerivesLongest rule (block_view d) block → block_of c ≡ block_of d → block_view c ≡ block_view d
one_block_tree c d h k same = flip (block_again c h) ∙ ap (λ (ss : Statements). block_tree_of ss) same ∙ block_again d k
