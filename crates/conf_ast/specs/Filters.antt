-- The abstract syntax of filters: expressions and statements as plain data, without memory
-- (`Expression`, `Statement`, `Statements`), and the ones that values in memory are
-- (`expression_of`, `statement_of`, `block_of`). Each `at` is the byte of the source at which what
-- it is of begins, and `place` the byte of a parenthesis.
-- Not modelled: what they do (filt_meaning), where they lie in memory.
-- From: own; the forms are those of filt_syntax.
-- Example: `a + b - c` is `Added (Added a Plus b) Minus c`; `(a)` isn't `a`.
use Rattle.std.specs.Prelude.{ℕ, List, [], ◌∷◌, Option, Some, None, option_map, Vec}
use Rattle.std.specs.Global.{Global}
use Rattle.conf_ast.specs.declared.named.Name.{Name}
use Rattle.conf_ast.specs.declared.filters.Access.{Access}
use Rattle.conf_ast.specs.declared.filters.Access.TheVariants as accesses
use Rattle.conf_ast.specs.declared.filters.Arm.{Arm}
use Rattle.conf_ast.specs.declared.attribute.Attribute.{Attribute}
use Rattle.conf_ast.specs.declared.filters.Block.{Block}
use Rattle.conf_ast.specs.declared.filters.Change.{Change}
use Rattle.conf_ast.specs.declared.filters.Change.TheVariants as changes
use Rattle.conf_ast.specs.declared.filters.CompareOp.{CompareOp}
use Rattle.conf_ast.specs.declared.filters.Expr.{Expr, fold-Expr}
use Rattle.conf_ast.specs.declared.filters.Expr.TheOpen.{Expr-F}
use Rattle.conf_ast.specs.declared.filters.MulOp.{MulOp}
use Rattle.conf_ast.specs.declared.filters.Item.{Item}
use Rattle.conf_ast.specs.declared.filters.LogicalOp.{LogicalOp}
use Rattle.conf_ast.specs.declared.filters.MaskItem.{MaskItem}
use Rattle.conf_ast.specs.declared.filters.Method.{Method}
use Rattle.conf_ast.specs.declared.filters.Property.{Property}
use Rattle.conf_ast.specs.declared.filters.Atom.{Atom}
use Rattle.conf_ast.specs.declared.filters.Stmt.{Stmt, fold-Stmt}
use Rattle.conf_ast.specs.declared.filters.Stmt.TheOpen.{Stmt-F}
use Rattle.conf_ast.specs.declared.filters.Target.{Target}
use Rattle.conf_ast.specs.declared.filters.AddOp.{AddOp}
use Rattle.conf_ast.specs.declared.filters.VariableType.{VariableType}

-- ---- expressions

mutual
  -- An expression. Chains of operators and of methods are nested to the left, as they are computed:
  -- `a + b - c` is `Added (Added a Plus b) Minus c`.
  pub data Expression : Type 0 where
    -- a value, an attribute or a constant, by its word
    Plain : Atom → Expression
    -- a variable, or a constant of the configuration
    Named : Name → Expression
    -- a call of a function
    Called : Name → (place : ℕ) → Expressions → Expression
    -- an expression in parentheses
    Grouped : (at : ℕ) → Expression → Expression
    Paired : (at : ℕ) → (first second : Expression) → Expression
    SetOf : (at : ℕ) → List Item → Expression
    MaskOf : (at : ℕ) → List MaskItem → Expression
    -- `defined(attribute)`
    IsDefined : (at place attribute_at : ℕ) → Attribute → Expression
    -- `method(list, argument)`
    MethodOf : Method → (place : ℕ) → (list argument : Expression) → Expression
    -- `operand.property`
    PropertyOf : (operand : Expression) → Property → Expression
    -- `operand.method(argument)`
    Changed : (operand : Expression) → Method → (place : ℕ) → (argument : Expression) → Expression
    Negated : (at : ℕ) → Expression → Expression
    Multiplied : Expression → MulOp → Expression → Expression
    Added : Expression → AddOp → Expression → Expression
    Compared : Expression → CompareOp → Expression → Expression
    Joined : Expression → LogicalOp → Expression → Expression

  -- Expressions between commas.
  pub data Expressions : Type 0 where
    NoExpressions : Expressions
    AndExpressions : Expression → Expressions → Expressions

abbrev pub expressions : List Expression → Expressions
expressions [] = NoExpressions
expressions (e ∷ es) = AndExpressions e (expressions es)

-- what stands behind an operand's dots, one after another
abbrev pub accessed : Expression → List (Access Expression) → Expression
accessed a [] = a
accessed a (accesses.Property p ∷ more) = accessed (PropertyOf a p) more
accessed a (accesses.Method m place e ∷ more) = accessed (Changed a m place e) more

-- the operators of a chain, one after another
abbrev pub multiplied : Expression → List (MulOp × Expression) → Expression
multiplied a [] = a
multiplied a (x ∷ more) = multiplied (Multiplied a x.0 x.1) more

abbrev pub added : Expression → List (AddOp × Expression) → Expression
added a [] = a
added a (x ∷ more) = added (Added a x.0 x.1) more

abbrev pub joined : Expression → List (LogicalOp × Expression) → Expression
joined a [] = a
joined a (x ∷ more) = joined (Joined a x.0 x.1) more

-- one level, with each expression inside already made
abbrev pub expression_step : Expr-F Expression → Expression
expression_step (Expr-F.Atom s) = Plain s
expression_step (Expr-F.Name n) = Named n
expression_step (Expr-F.Call n place es) = Called n place (expressions es.items)
expression_step (Expr-F.Group at e) = Grouped at e.value
expression_step (Expr-F.Pair at a b) = Paired at a.value b.value
expression_step (Expr-F.Set at items) = SetOf at items.items
expression_step (Expr-F.Mask at items) = MaskOf at items.items
expression_step (Expr-F.Defined at place attribute_at a) = IsDefined at place attribute_at a
expression_step (Expr-F.MethodCall m place a b) = MethodOf m place a.value b.value
expression_step (Expr-F.Postfix e more) = accessed e.value more.items
expression_step (Expr-F.Not at e) = Negated at e.value
expression_step (Expr-F.Product e more) = multiplied e.value more.items
expression_step (Expr-F.Sum e more) = added e.value more.items
expression_step (Expr-F.Compare op a b) = Compared a.value op b.value
expression_step (Expr-F.Logical e more) = joined e.value more.items

-- the expression that a value is
abbrev pub expression_of : Expr → Expression
expression_of = fold-Expr Expression expression_step

abbrev pub expressions_of : List Expr → Expressions
expressions_of [] = NoExpressions
expressions_of (e ∷ es) = AndExpressions (expression_of e) (expressions_of es)

-- ---- statements

mutual
  -- A statement.
  pub data Statement : Type 0 where
    Braced : Statements → Statement
    -- `;`
    Nothing : Statement
    Declare : VariableType → Name → (value : Option Expression) → Statement
    Assign : Target → Expression → Statement
    -- `target.method(argument);`
    ChangeBy : Target → Method → (place : ℕ) → (argument : Expression) → Statement
    -- `target.empty;`
    Clear : Target → Statement
    Unset : (place attribute_at : ℕ) → Attribute → Statement
    If : (condition : Expression) → Statement → Statement
    IfElse : (condition : Expression) → (then otherwise : Statement) → Statement
    Case : (at : ℕ) → Expression → Arms → Statement
    -- a `case` with `else:` and statements behind it
    CaseElse : (at : ℕ) → Expression → Arms → (otherwise : Statements) → Statement
    For : (at : ℕ) → VariableType → Name → (list : Expression) → (body : Statement) → Statement
    Accept : Statement
    Reject : Statement
    Return : (at : ℕ) → (value : Option Expression) → Statement
    Print : Expressions → Statement
    -- as `Print`, without an end of line
    Printn : Expressions → Statement
    -- a call of a function; what it gives, if anything, is dropped
    Call : Name → (place : ℕ) → Expressions → Statement

  -- Statements, one after another.
  pub data Statements : Type 0 where
    NoStatements : Statements
    AndStatements : Statement → Statements → Statements

  -- The arms of a `case`: labels, and what is done where one of them has the value.
  pub data Arms : Type 0 where
    NoArms : Arms
    AndArms : (labels : List Item) → (body : Statements) → Arms → Arms

abbrev pub statements : List Statement → Statements
statements [] = NoStatements
statements (s ∷ ss) = AndStatements s (statements ss)

abbrev pub arms : List (Arm Statement) → Arms
arms [] = NoArms
arms (a ∷ more) = AndArms a.labels.items (statements a.body.items) (arms more)

abbrev pub changed : Target → Change → Statement
changed target changes.Empty = Clear target
changed target (changes.Method m place e) = ChangeBy target m place (expression_of e)

abbrev pub case_of : ℕ → Expression → Arms → Option (Vec Statement Global) → Statement
case_of at e as_arms None = Case at e as_arms
case_of at e as_arms (Some ss) = CaseElse at e as_arms (statements ss.items)

-- one level, with each statement inside already made
abbrev pub statement_step : Stmt-F Statement → Statement
statement_step (Stmt-F.Block body) = Braced (statements body.items)
statement_step Stmt-F.Empty = Nothing
statement_step (Stmt-F.Declare v n e) = Declare v n (option_map expression_of e)
statement_step (Stmt-F.Assign target e) = Assign target (expression_of e)
statement_step (Stmt-F.Change target c) = changed target c
statement_step (Stmt-F.Unset place at a) = Unset place at a
statement_step (Stmt-F.If e s) = If (expression_of e) s.value
statement_step (Stmt-F.IfElse e s t) = IfElse (expression_of e) s.value t.value
statement_step (Stmt-F.Case at e as_arms o) = case_of at (expression_of e) (arms as_arms.items) o
statement_step (Stmt-F.For at v n e body) = For at v n (expression_of e) body.value
statement_step Stmt-F.Accept = Accept
statement_step Stmt-F.Reject = Reject
statement_step (Stmt-F.Return at e) = Return at (option_map expression_of e)
statement_step (Stmt-F.Print es) = Print (expressions_of es.items)
statement_step (Stmt-F.Printn es) = Printn (expressions_of es.items)
statement_step (Stmt-F.Call n place es) = Call n place (expressions_of es.items)

-- the statement that a value is
abbrev pub statement_of : Stmt → Statement
statement_of = fold-Stmt Statement statement_step

abbrev pub statements_of : List Stmt → Statements
statements_of [] = NoStatements
statements_of (s ∷ ss) = AndStatements (statement_of s) (statements_of ss)

-- what stands between the braces of a filter, a function or a policy
abbrev pub block_of : Block → Statements
block_of b = statements_of b.statements.items
