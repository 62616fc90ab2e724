-- Filters that are worked by hand, as abstract syntax over the text `ginx`, of which each letter is
-- a name. The law `worked_filters` tells what they say.
-- From: own.
use Rattle.std.specs.Prelude.{ℕ, List, [], ◌∷◌, Some, None, codes}
use Rattle.conf_ast.specs.declared.named.Name.{Name}
use Rattle.conf_ast.specs.declared.attribute.Attribute.{Attribute}
use Rattle.conf_ast.specs.declared.attribute.Attribute.TheVariants as attributes
use Rattle.conf_ast.specs.declared.filters.CompareOp.TheVariants as compare_ops
use Rattle.conf_ast.specs.declared.filters.MethodKind.TheVariants as methods
use Rattle.conf_ast.specs.declared.filters.Atom.TheVariants as atoms
use Rattle.conf_ast.specs.declared.filters.Target.TheVariants as targets
use Rattle.conf_ast.specs.declared.filters.AddOp.TheVariants as add_ops
use Rattle.conf_ast.specs.declared.filters.VariableType.TheVariants as types
use Rattle.conf_ast.specs.Configurations.{Declaration, DefineFunction}
use Rattle.conf_ast.specs.Filters.{Expression, Plain, Named, Called, Added, Compared, NoExpressions, Statement, Braced, Declare, Assign, ChangeBy, If, For, Accept, Reject, Return, Statements, statements}

abbrev pub names : List ℕ
names = codes "ginx"

abbrev pub letter : ℕ → Name
letter n = record { at = n; start = n; len = 1 }

abbrev pub g : Name
g = letter 0

abbrev pub i : Name
i = letter 1

abbrev pub n : Name
n = letter 2

abbrev pub x : Name
x = letter 3

abbrev pub number : ℕ → Expression
number k = Plain (atoms.Number 0 k)

abbrev pub attribute : Attribute → Expression
attribute a = Plain (atoms.Attribute 0 a)

abbrev pub prepend : Expression → Statement
prepend e =
    ChangeBy (targets.Attribute 0 attributes.BgpPath)
    (record { at = 0; kind = methods.Prepend }) 0 e

-- `function g() -> int { bgp_path.prepend(1); return 2; }`
abbrev pub prepends_one : List Declaration
prepends_one =
    DefineFunction (record {
      name = g;
      place = 0;
      parameters = [];
      gives = Some types.Int;
      body = statements (prepend (number 1) ∷ Return 0 (Some (number 2)) ∷ []);
    }) ∷ []

-- `bgp_path.prepend(g()); accept;`
abbrev pub prepends_two : Statements
prepends_two = statements (prepend (Called g 0 NoExpressions) ∷ Accept ∷ [])

-- `int n; for int i in bgp_path do { int x; x = x + 1; n = n + x; } bgp_med = n; accept;`
abbrev pub counts : Statements
counts =
    statements
    (Declare types.Int n None
    ∷ For 0 types.Int i (attribute attributes.BgpPath)
    (Braced (statements
    (Declare types.Int x None
    ∷ Assign (targets.Name x) (Added (Named x) add_ops.Plus (number 1))
    ∷ Assign (targets.Name n) (Added (Named n) add_ops.Plus (Named x)) ∷ [])))
    ∷ Assign (targets.Attribute 0 attributes.BgpMed) (Named n) ∷ Accept ∷ [])

-- `if false then int x = 5; if x = 0 then accept; reject;`
abbrev pub passes_over : Statements
passes_over =
    statements
    (If (Plain (atoms.False 0)) (Declare types.Int x (Some (number 5)))
    ∷ If (Compared (Named x) compare_ops.Equal (number 0)) Accept ∷ Reject ∷ [])
