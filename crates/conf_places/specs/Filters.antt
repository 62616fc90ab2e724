-- For the laws: the places that are written in filters: each byte that their abstract syntax
-- carries, at which a word or a sign of them begins.
-- From: own.
-- Example: of `filter f { x = 1; }` the bytes of `f`, `x` and `1`.
use Rattle.std.specs.Prelude.{ℕ, List, [], ◌∷◌, ◌++◌, Option, Some, None}
use Rattle.conf_ast.specs.declared.filters.Item.{Item}
use Rattle.conf_ast.specs.declared.filters.Item.TheVariants as items
use Rattle.conf_ast.specs.declared.filters.Lengths.{Lengths}
use Rattle.conf_ast.specs.declared.filters.Lengths.TheVariants as lengths
use Rattle.conf_ast.specs.declared.filters.MaskAtom.{MaskAtom}
use Rattle.conf_ast.specs.declared.filters.MaskAtom.TheVariants as mask_atoms
use Rattle.conf_ast.specs.declared.filters.MaskItem.{MaskItem}
use Rattle.conf_ast.specs.declared.filters.Num.{Num}
use Rattle.conf_ast.specs.declared.filters.Num.TheVariants as nums
use Rattle.conf_ast.specs.declared.filters.PairPart.{PairPart}
use Rattle.conf_ast.specs.declared.filters.PairPart.TheVariants as parts
use Rattle.conf_ast.specs.declared.filters.Parameter.{Parameter}
use Rattle.conf_ast.specs.declared.filters.NumRange.{NumRange}
use Rattle.conf_ast.specs.declared.filters.Atom.{Atom}
use Rattle.conf_ast.specs.declared.filters.Atom.TheVariants as atoms
use Rattle.conf_ast.specs.declared.filters.Target.{Target}
use Rattle.conf_ast.specs.declared.filters.Target.TheVariants as targets
use Rattle.conf_ast.specs.Filters.{Expression, Plain, Named, Called, Grouped, Paired, SetOf, MaskOf}
use Rattle.conf_ast.specs.Filters.{IsDefined, MethodOf, PropertyOf, Changed, Negated, Multiplied}
use Rattle.conf_ast.specs.Filters.{Added, Compared, Joined, Expressions, NoExpressions}
use Rattle.conf_ast.specs.Filters.{AndExpressions, Statement, Braced, Nothing, Declare, Assign}
use Rattle.conf_ast.specs.Filters.{ChangeBy, Clear, Unset, If, IfElse, Case, CaseElse, For, Accept}
use Rattle.conf_ast.specs.Filters.{Reject, Return, Print, Printn, Call, Statements, NoStatements}
use Rattle.conf_ast.specs.Filters.{AndStatements, Arms, NoArms, AndArms}

-- ---- items of sets, of labels and of masks

abbrev pub of_num : Num → ℕ
of_num (nums.Number at n) = at
of_num (nums.Name name) = name.at

abbrev pub of_optional_num : Option Num → List ℕ
of_optional_num None = []
of_optional_num (Some n) = of_num n ∷ []

abbrev pub of_part : NumRange → List ℕ
of_part p = of_num p.low ∷ of_optional_num p.high

abbrev pub of_pair_part : PairPart → List ℕ
of_pair_part parts.Any = []
of_pair_part (parts.Range p) = of_part p

abbrev pub of_lengths : Option Lengths → List ℕ
of_lengths None = []
of_lengths (Some lengths.AndLonger) = []
of_lengths (Some lengths.AndShorter) = []
of_lengths (Some (lengths.Between low high)) = of_num low ∷ of_num high ∷ []

abbrev pub of_item : Item → List ℕ
of_item (items.Range p) = of_part p
of_item (items.Pair at a b) = at ∷ (of_pair_part a ++ of_pair_part b)
of_item (items.Prefix at net l) = at ∷ of_lengths l

abbrev pub of_items : List Item → List ℕ
of_items [] = []
of_items (i ∷ more) = of_item i ++ of_items more

abbrev pub of_atom : MaskAtom → List ℕ
of_atom mask_atoms.One = []
of_atom mask_atoms.Any = []
of_atom (mask_atoms.Range p) = of_part p

abbrev pub of_mask : List MaskItem → List ℕ
of_mask [] = []
of_mask (i ∷ more) = of_atom i.atom ++ of_mask more

-- ---- expressions

abbrev pub of_simple : Atom → ℕ
of_simple (atoms.Number at n) = at
of_simple (atoms.Text at start len) = at
of_simple (atoms.Ip at addr) = at
of_simple (atoms.Prefix at net) = at
of_simple (atoms.True at) = at
of_simple (atoms.False at) = at
of_simple (atoms.EmptyPath at) = at
of_simple (atoms.EmptyClist at) = at
of_simple (atoms.Attribute at a) = at
of_simple (atoms.Constant at c) = at

abbrev mutual
  pub of_expression : Expression → List ℕ
  of_expression (Plain s) = of_simple s ∷ []
  of_expression (Named n) = n.at ∷ []
  of_expression (Called n place es) = n.at ∷ place ∷ of_expressions es
  of_expression (Grouped at e) = at ∷ of_expression e
  of_expression (Paired at a b) = at ∷ (of_expression a ++ of_expression b)
  of_expression (SetOf at elements) = at ∷ of_items elements
  of_expression (MaskOf at elements) = at ∷ of_mask elements
  of_expression (IsDefined at place attribute_at a) = at ∷ place ∷ attribute_at ∷ []
  of_expression (MethodOf m place a b) = m.at ∷ place ∷ (of_expression a ++ of_expression b)
  of_expression (PropertyOf a p) = of_expression a
  of_expression (Changed a m place b) = of_expression a ++ m.at ∷ place ∷ of_expression b
  of_expression (Negated at a) = at ∷ of_expression a
  of_expression (Multiplied a op b) = of_expression a ++ of_expression b
  of_expression (Added a op b) = of_expression a ++ of_expression b
  of_expression (Compared a op b) = of_expression a ++ of_expression b
  of_expression (Joined a logical_op b) = of_expression a ++ of_expression b

  pub of_expressions : Expressions → List ℕ
  of_expressions NoExpressions = []
  of_expressions (AndExpressions e es) = of_expression e ++ of_expressions es

abbrev pub of_optional : Option Expression → List ℕ
of_optional None = []
of_optional (Some e) = of_expression e

-- ---- statements

abbrev pub of_target : Target → ℕ
of_target (targets.Name n) = n.at
of_target (targets.Attribute at a) = at

abbrev mutual
  pub of_statement : Statement → List ℕ
  of_statement (Braced ss) = of_statements ss
  of_statement Nothing = []
  of_statement (Declare t n e) = n.at ∷ of_optional e
  of_statement (Assign target e) = of_target target ∷ of_expression e
  of_statement (ChangeBy target m place e) = of_target target ∷ m.at ∷ place ∷ of_expression e
  of_statement (Clear target) = of_target target ∷ []
  of_statement (Unset place at a) = place ∷ at ∷ []
  of_statement (If e s) = of_expression e ++ of_statement s
  of_statement (IfElse e s t) = of_expression e ++ (of_statement s ++ of_statement t)
  of_statement (Case at e as_arms) = at ∷ (of_expression e ++ of_arms as_arms)
  of_statement (CaseElse at e as_arms ss) =
      at ∷ (of_expression e ++ (of_arms as_arms ++ of_statements ss))
  of_statement (For at t n e body) = at ∷ n.at ∷ (of_expression e ++ of_statement body)
  of_statement Accept = []
  of_statement Reject = []
  of_statement (Return at e) = at ∷ of_optional e
  of_statement (Print es) = of_expressions es
  of_statement (Printn es) = of_expressions es
  of_statement (Call n place es) = n.at ∷ place ∷ of_expressions es

  pub of_statements : Statements → List ℕ
  of_statements NoStatements = []
  of_statements (AndStatements s ss) = of_statement s ++ of_statements ss

  pub of_arms : Arms → List ℕ
  of_arms NoArms = []
  of_arms (AndArms labels ss more) = of_items labels ++ (of_statements ss ++ of_arms more)

-- ---- functions

abbrev pub of_parameters : List Parameter → List ℕ
of_parameters [] = []
of_parameters (p ∷ ps) = p.name.at ∷ of_parameters ps
