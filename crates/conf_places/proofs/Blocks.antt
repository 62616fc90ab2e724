-- The places of statements of filters are those of words of their trees.
use Rattle.std.proofs.Common.{◌≡◌, ℕ, List, [], ◌∷◌, ◌++◌, Option, Some, None, option_map, map, refl, sym as flip, ap, subst}
use Rattle.conf_lex.specs.declared.symbol.Symbol.TheVariants as sym
use Rattle.conf_lex.specs.Kind.{symbol}
use Rattle.conf_lex.specs.Leaves.{symbol_leaf}
use Rattle.conf_lex.specs.Grammar.{Terminal, Seq, Repeat, ParseTree, Leaf, NoWords, Pair, Left, Right, Single, Snoc, DerivesLongest}
use Rattle.conf_ast.specs.declared.filters.Arm.{Arm}
use Rattle.conf_ast.specs.declared.filters.Block.{Block}
use Rattle.conf_ast.specs.declared.filters.Change.{Change}
use Rattle.conf_ast.specs.declared.filters.Change.TheVariants as changes
use Rattle.conf_ast.specs.declared.filters.Expr.{Expr}
use Rattle.conf_ast.specs.declared.filters.Item.{Item}
use Rattle.conf_ast.specs.declared.filters.Item.TheVariants as items
use Rattle.conf_ast.specs.declared.filters.Num.{Num}
use Rattle.conf_ast.specs.declared.filters.Num.TheVariants as nums
use Rattle.conf_ast.specs.declared.filters.Stmt.{Stmt, fold-Stmt}
use Rattle.conf_ast.specs.declared.filters.Stmt.TheOpen.{Stmt-F}
use Rattle.conf_ast.specs.declared.filters.Stmt.TheViews.{roll-Stmt}
use Rattle.conf_ast.specs.declared.filters.Stmt.TheFolds.{map-Stmt, fold-roll-Stmt, ind-Stmt}
use Rattle.conf_ast.specs.declared.filters.Target.{Target}
use Rattle.conf_ast.specs.declared.filters.Target.TheVariants as targets
use Rattle.expr_syntax.specs.Syntax.{rule, expr, stmt, label, arm_part, listed, optional, many, block}
use Rattle.expr_syntax.specs.ItemView.{label_tree}
use Rattle.expr_syntax.specs.View.{expr_tree, listed_tree, arguments_tree}
use Rattle.filt_syntax.specs.StatementView.{stmt_step, stmt_tree, as_part, as_label, body_after, ArmParts, arms_after, arms_row, seen_arm, case_tree, initial_tree, result_tree, assign_tree, change_stmt_tree, block_view}
use Rattle.expr_syntax.specs.Rows.{row_after, row_tree}
use Rattle.conf_ast.specs.Filters.{Expressions, AndExpressions, expression_of, expressions_of, Statement, Assign, Case, CaseElse, Statements, Arms, NoArms, AndArms, statements, arms, statement_step, statement_of, statements_of, block_of, changed}
use Rattle.conf_places.specs.Filters.{of_item, of_items, of_expression, of_expressions, of_optional, of_statement, of_statements, of_arms}
use Rattle.conf_places.proofs.Every.{Every, join}
use Rattle.conf_places.proofs.Expressions.{three_maps, expression_on, made_of, listed_on, arguments_on}
use Rattle.conf_places.proofs.Trees.{On, Before, item_on, items_after_on}

-- a name begins it, or not
abbrev IsEither : ParseTree → Type 0
IsEither (Left (Pair n done)) = Unit {0}
IsEither (Right t) = Unit {0}
IsEither _ = ⊥

record Held (P : ℕ → Type 0) (t : ParseTree) (x : Statement) : Type 0 where
  pub shape : IsEither t
  pub told : DerivesLongest rule t stmt → On P t → Every P (of_statement x)

module _ (P : ℕ → Type 0) where
  abbrev Known : Type 0
  Known = (s : Stmt) × Held P (stmt_tree s) (statement_of s)

  -- ---- expressions in statements

  initial_on : (e : Option Expr) → DerivesLongest rule (initial_tree e) (optional (Seq (Terminal (symbol sym.Equal)) expr)) → On P (initial_tree e) → Every P (of_optional (option_map expression_of e))
  initial_on None h o = tt
  initial_on (Some e) h o = expression_on P e h.1 o.1

  result_on : (e : Option Expr) → DerivesLongest rule (result_tree e) (optional expr) → On P (result_tree e) → Every P (of_optional (option_map expression_of e))
  result_on None h o = tt
  result_on (Some e) h o = expression_on P e h o

  made_is : (es : List Expr) → made_of P expression_of es ≡ expressions_of es
  made_is [] = refl
  made_is (e ∷ es) = ap (λ (x : Expressions). AndExpressions (expression_of e) x) (made_is es)

  printed_on : (es : List Expr) → DerivesLongest rule (listed_tree (map expr_tree es)) (listed expr) → On P (listed_tree (map expr_tree es)) → Every P (of_expressions (expressions_of es))
  printed_on es h o = subst (λ (x : Expressions). Every P (of_expressions x)) (made_is es) (listed_on P expr_tree expression_of (expression_on P) es h o)

  called_on : (es : List Expr) → DerivesLongest rule (arguments_tree (map expr_tree es)) (optional (listed expr)) → On P (arguments_tree (map expr_tree es)) → Every P (of_expressions (expressions_of es))
  called_on es h o = subst (λ (x : Expressions). Every P (of_expressions x)) (made_is es) (arguments_on P expr_tree expression_of (expression_on P) es h o)

  -- ---- rows of statements

  abbrev trees : List Known → List ParseTree
  trees ks = map (fold-Stmt ParseTree stmt_step) (map (λ (k : Known). k.0) ks)

  abbrev made : List Known → Statements
  made ks = statements (map (fold-Stmt Statement statement_step) (map (λ (k : Known). k.0) ks))

  rows_on : (ks : List Known) (t : ParseTree) → DerivesLongest rule (row_after t (trees ks)) (many stmt) → On P (row_after t (trees ks)) → Before P t (many stmt) (Every P (of_statements (made ks)))
  rows_on [] t h o = record { fits = h; on = o; rest = tt }
  rows_on (k ∷ ks) t h o =
      let later = rows_on ks (Snoc t (stmt_tree k.0)) h o in
      record { fits = later.fits.0; on = later.on.0; rest = join P (of_statement (statement_of k.0)) (of_statements (made ks)) (k.1.told later.fits.1 later.on.1) later.rest }

  -- ---- the arms of a `case`

  part_on : (u : ParseTree) (xs : List ℕ) → IsEither u → (DerivesLongest rule u stmt → On P u → Every P xs) → DerivesLongest rule (as_part u) arm_part → On P (as_part u) → Every P xs
  part_on (Left (Pair n done)) xs shape told f o = told f o
  part_on (Right s) xs shape told f o = told f o
  part_on (Left (Leaf w)) xs shape told f o = absurd shape
  part_on _ xs shape told f o = absurd shape

  body_on : (ks : List Known) (t : ParseTree) → DerivesLongest rule (body_after t (trees ks)) (Repeat label arm_part) → On P (body_after t (trees ks)) → Before P t (Repeat label arm_part) (Every P (of_statements (made ks)))
  body_on [] t h o = record { fits = h; on = o; rest = tt }
  body_on (k ∷ ks) t h o =
      let later = body_on ks (Snoc t (as_part (stmt_tree k.0))) h o in
      record { fits = later.fits.0; on = later.on.0; rest = join P (of_statement (statement_of k.0)) (of_statements (made ks)) (part_on (stmt_tree k.0) (of_statement (statement_of k.0)) k.1.shape k.1.told later.fits.1 later.on.1) later.rest }

  label_on : (is : List Item) → On P (label_tree is) → Every P (of_items is)
  label_on [] o = tt
  label_on (i ∷ is) o = join P (of_item i) (of_items is) (item_on P i o.0) (items_after_on P is (Single NoWords) o.1.0).1

  part_label_on : (low : Num) (high : Option Num) (is : List Item) → On P (as_label (label_tree (items.Range (record { low = low; high = high }) ∷ is))) → On P (label_tree (items.Range (record { low = low; high = high }) ∷ is))
  part_label_on (nums.Number at value) high is o = o
  part_label_on (nums.Name n) high is o = ((o.0, o.1.0), o.1.1)

  as_label_on : (is : List Item) → On P (as_label (label_tree is)) → On P (label_tree is)
  as_label_on [] o = tt
  as_label_on (items.Range p ∷ is) o = part_label_on p.low p.high is o
  as_label_on (items.Pair at a b ∷ is) o = o
  as_label_on (items.Prefix at net l ∷ is) o = o

  abbrev arm_known : Arm Known → ArmParts
  arm_known a = (a.labels.items, trees a.body.items)

  abbrev arms_made : List (Arm Known) → Arms
  arms_made [] = NoArms
  arms_made (a ∷ more) = AndArms a.labels.items (made a.body.items) (arms_made more)

  after_on : (as_arms : List (Arm Known)) (t : ParseTree) → DerivesLongest rule (arms_after t (map arm_known as_arms)) (Repeat label arm_part) → On P (arms_after t (map arm_known as_arms)) → Before P t (Repeat label arm_part) (Every P (of_arms (arms_made as_arms)))
  after_on [] t h o = record { fits = h; on = o; rest = tt }
  after_on (a ∷ more) t h o =
      let labelled : ParseTree = Snoc t (as_label (label_tree a.labels.items)) in
      let later = after_on more (body_after labelled (trees a.body.items)) h o in
      let body = body_on a.body.items labelled later.fits later.on in
      record {
        fits = body.fits.0;
        on = body.on.0;
        rest =
            join P (of_items a.labels.items) (of_statements (made a.body.items) ++ of_arms (arms_made more))
            (label_on a.labels.items (as_label_on a.labels.items body.on.1))
            (join P (of_statements (made a.body.items)) (of_arms (arms_made more)) body.rest later.rest);
      }

  arms_known_on : (as_arms : List (Arm Known)) → DerivesLongest rule (arms_row (map arm_known as_arms)) (optional (Repeat label arm_part)) → On P (arms_row (map arm_known as_arms)) → Every P (of_arms (arms_made as_arms))
  arms_known_on [] h o = tt
  arms_known_on (a ∷ more) h o =
      let labelled : ParseTree = Single (label_tree a.labels.items) in
      let later = after_on more (body_after labelled (trees a.body.items)) h o in
      let body = body_on a.body.items labelled later.fits later.on in
      join P (of_items a.labels.items) (of_statements (made a.body.items) ++ of_arms (arms_made more))
      (label_on a.labels.items body.on)
      (join P (of_statements (made a.body.items)) (of_arms (arms_made more)) body.rest later.rest)

  arms_are : (f : Arm Known → Arm Stmt) (g : Arm Stmt → Arm Statement) → ((a : Arm Known) → (g (f a)).labels.items ≡ a.labels.items) → ((a : Arm Known) → (g (f a)).body.items ≡ map (fold-Stmt Statement statement_step) (map (λ (k : Known). k.0) a.body.items)) → (as_arms : List (Arm Known)) → arms_made as_arms ≡ arms (map g (map f as_arms))
  arms_are f g labels body [] = refl
  arms_are f g labels body (a ∷ as_arms) = rw (labels a, body a, arms_are f g labels body as_arms) refl

  arms_on : (as_arms : List (Arm Known)) (parts : List ArmParts) (as_made : Arms) → parts ≡ map arm_known as_arms → arms_made as_arms ≡ as_made → DerivesLongest rule (arms_row parts) (optional (Repeat label arm_part)) → On P (arms_row parts) → Every P (of_arms as_made)
  arms_on as_arms parts as_made is same h o =
      subst (λ (m : Arms). Every P (of_arms m)) same (arms_known_on as_arms
      (subst (λ (ps : List ArmParts). DerivesLongest rule (arms_row ps) (optional (Repeat label arm_part))) is h) (subst (λ (ps : List ArmParts). On P (arms_row ps)) is o))

  -- ---- each kind of statement

  assign_held : (target : Target) (e : Expr) → Held P (assign_tree target e) (Assign target (expression_of e))
  assign_held (targets.Name n) e = record { shape = tt; told = λ f o. (o.0, expression_on P e f.1.1.0 o.1.1.0) }
  assign_held (targets.Attribute at a) e = record { shape = tt; told = λ f o. (o.0, expression_on P e f.1.1.0 o.1.1.0) }

  change_held : (target : Target) (c : Change) → Held P (change_stmt_tree target c) (changed target c)
  change_held (targets.Name n) changes.Empty = record { shape = tt; told = λ f o. (o.0, tt) }
  change_held (targets.Name n) (changes.Method m place e) = record { shape = tt; told = λ f o. (o.0, (o.1.1.0.0, (o.1.1.0.1.0.0, expression_on P e f.1.1.0.1.0.1 o.1.1.0.1.0.1))) }
  change_held (targets.Attribute at a) changes.Empty = record { shape = tt; told = λ f o. (o.0, tt) }
  change_held (targets.Attribute at a) (changes.Method m place e) = record { shape = tt; told = λ f o. (o.0, (o.1.1.0.0, (o.1.1.0.1.0.0, expression_on P e f.1.1.0.1.0.1 o.1.1.0.1.0.1))) }

  case_held : (at : ℕ) (e : Expr) (as_arms : List (Arm Known)) (parts : List ArmParts) (as_made : Arms) → parts ≡ map arm_known as_arms → arms_made as_arms ≡ as_made → Held P (case_tree at e (Pair (arms_row parts) (Right NoWords))) (Case at (expression_of e) as_made)
  case_held at e as_arms parts as_made is same = record {
    shape = tt;
    told = λ f o. (o.0.0, join P (of_expression (expression_of e)) (of_arms as_made) (expression_on P e f.0.1 o.0.1) (arms_on as_arms parts as_made is same f.1.0.1.0 o.1.0.1.0));
  }

  case_else_held : (at : ℕ) (e : Expr) (as_arms : List (Arm Known)) (parts : List ArmParts) (as_made : Arms) (ks : List Known) → parts ≡ map arm_known as_arms → arms_made as_arms ≡ as_made → Held P (case_tree at e (Pair (arms_row parts) (Left (Pair (symbol_leaf sym.ElseColon) (row_tree (trees ks)))))) (CaseElse at (expression_of e) as_made (made ks))
  case_else_held at e as_arms parts as_made ks is same = record {
    shape = tt;
    told = λ f o. (
      o.0.0,
      join P (of_expression (expression_of e)) (of_arms as_made ++ of_statements (made ks)) (expression_on P e f.0.1 o.0.1)
          (join P (of_arms as_made) (of_statements (made ks)) (arms_on as_arms parts as_made is same f.1.0.1.0 o.1.0.1.0) (rows_on ks (Single NoWords) f.1.0.1.1.1 o.1.0.1.1.1).rest),
    );
  }

  -- ---- all statements

  abbrev parts : Stmt-F Known → Stmt-F Stmt
  parts y = map-Stmt Known Stmt (λ p. p.0) y

  step : (y : Stmt-F Known) → Held P (stmt_step (map-Stmt Stmt ParseTree (fold-Stmt ParseTree stmt_step) (parts y))) (statement_step (map-Stmt Stmt Statement (fold-Stmt Statement statement_step) (parts y)))
  step (Stmt-F.Block body) = record { shape = tt; told = λ f o. (rows_on body.items (Single NoWords) f.0.1 o.0.1).rest }
  step Stmt-F.Empty = record { shape = tt; told = λ f o. tt }
  step (Stmt-F.Declare v n e) = record { shape = tt; told = λ f o. (o.1.0, initial_on e f.1.1.0 o.1.1.0) }
  step (Stmt-F.Assign target e) = assign_held target e
  step (Stmt-F.Change target c) = change_held target c
  step (Stmt-F.Unset place at a) = record { shape = tt; told = λ f o. (o.1.0.0.0, (o.1.0.0.1, tt)) }
  step (Stmt-F.If e s) = record { shape = tt; told = λ f o. join P (of_expression (expression_of e)) (of_statement (statement_of s.value.0)) (expression_on P e f.0.1 o.0.1) (s.value.1.told f.1.0.1 o.1.0.1) }
  step (Stmt-F.IfElse e s t) = record {
    shape = tt;
    told = λ f o. join P (of_expression (expression_of e)) (of_statement (statement_of s.value.0) ++ of_statement (statement_of t.value.0)) (expression_on P e f.0.1 o.0.1)
        (join P (of_statement (statement_of s.value.0)) (of_statement (statement_of t.value.0)) (s.value.1.told f.1.0.1 o.1.0.1) (t.value.1.told f.1.1.1 o.1.1.1));
  }
  step (Stmt-F.Case at e as_arms None) = case_held at e as_arms.items _ _ (three_maps _ _ seen_arm arm_known (λ a. refl) as_arms.items) (arms_are _ _ (λ a. refl) (λ a. refl) as_arms.items)
  step (Stmt-F.Case at e as_arms (Some ss)) = case_else_held at e as_arms.items _ _ ss.items (three_maps _ _ seen_arm arm_known (λ a. refl) as_arms.items) (arms_are _ _ (λ a. refl) (λ a. refl) as_arms.items)
  step (Stmt-F.For at v n e body) = record { shape = tt; told = λ f o. (o.0, (o.1.1.0, join P (of_expression (expression_of e)) (of_statement (statement_of body.value.0)) (expression_on P e f.1.1.1.0.1 o.1.1.1.0.1) (body.value.1.told f.1.1.1.1.1 o.1.1.1.1.1))) }
  step Stmt-F.Accept = record { shape = tt; told = λ f o. tt }
  step Stmt-F.Reject = record { shape = tt; told = λ f o. tt }
  step (Stmt-F.Return at e) = record { shape = tt; told = λ f o. (o.0, result_on e f.1.0 o.1.0) }
  step (Stmt-F.Print es) = record { shape = tt; told = λ f o. printed_on es.items f.1.0 o.1.0 }
  step (Stmt-F.Printn es) = record { shape = tt; told = λ f o. printed_on es.items f.1.0 o.1.0 }
  step (Stmt-F.Call n place es) = record { shape = tt; told = λ f o. (o.0, (o.1.0.0.0, called_on es.items f.1.0.0.1 o.1.0.0.1)) }

  held : (s : Stmt) → Held P (stmt_tree s) (statement_of s)
  held = ind-Stmt (λ s. Held P (stmt_tree s) (statement_of s)) (λ x y is.
      subst (λ (z : Stmt-F Stmt). Held P (stmt_tree (roll-Stmt z)) (statement_of (roll-Stmt z))) is
      (subst (λ (t : ParseTree). Held P t (statement_of (roll-Stmt (parts y)))) (flip (fold-roll-Stmt ParseTree stmt_step (parts y)))
      (subst (λ (v : Statement). Held P (stmt_step (map-Stmt Stmt ParseTree (fold-Stmt ParseTree stmt_step) (parts y))) v) (flip (fold-roll-Stmt Statement statement_step (parts y))) (step y))))

  -- ---- blocks

  list_on : (ss : List Stmt) (t : ParseTree) → DerivesLongest rule (row_after t (map stmt_tree ss)) (many stmt) → On P (row_after t (map stmt_tree ss)) → Before P t (many stmt) (Every P (of_statements (statements_of ss)))
  list_on [] t h o = record { fits = h; on = o; rest = tt }
  list_on (s ∷ ss) t h o =
      let later = list_on ss (Snoc t (stmt_tree s)) h o in
      record { fits = later.fits.0; on = later.on.0; rest = join P (of_statement (statement_of s)) (of_statements (statements_of ss)) ((held s).told later.fits.1 later.on.1) later.rest }

  pub block_on : (b : Block) → DerivesLongest rule (block_view b) block → On P (block_view b) → Every P (of_statements (block_of b))
  block_on b h o = (list_on b.statements.items (Single NoWords) h.0.1 o.0.1).rest
