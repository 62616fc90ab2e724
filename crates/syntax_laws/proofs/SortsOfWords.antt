-- The words of each sort, by what they stand for.
use Rattle.std.proofs.Common.{◌≡◌, ℕ, true, refl}
use Rattle.std.proofs.lemmas.Bool.{false≢true}
use Rattle.conf_lex.specs.declared.symbol.Symbol.TheVariants as sym
use Rattle.conf_lex.specs.declared.word.Word.{Word}
use Rattle.conf_lex.specs.declared.word.Word.TheVariants as words
use Rattle.conf_lex.specs.Kind.{kind_of, is_attribute}
use Rattle.conf_ast.specs.declared.attribute.Attribute.{Attribute}
use Rattle.conf_ast.specs.declared.filters.Atom.{Atom}
use Rattle.conf_ast.specs.declared.filters.Atom.TheVariants as atoms
use Rattle.conf_ast.specs.declared.filters.Property.{Property}
use Rattle.conf_ast.specs.declared.filters.Property.TheVariants as properties
use Rattle.conf_ast.specs.declared.filters.MethodKind.TheVariants as methods
use Rattle.conf_ast.specs.declared.filters.Method.{Method}
use Rattle.conf_ast.specs.declared.filters.MulOp.{MulOp}
use Rattle.conf_ast.specs.declared.filters.MulOp.TheVariants as mul_ops
use Rattle.conf_ast.specs.declared.filters.AddOp.{AddOp}
use Rattle.conf_ast.specs.declared.filters.AddOp.TheVariants as add_ops
use Rattle.conf_ast.specs.declared.filters.CompareOp.{CompareOp}
use Rattle.conf_ast.specs.declared.filters.CompareOp.TheVariants as compare_op_ops
use Rattle.conf_ast.specs.declared.filters.LogicalOp.{LogicalOp}
use Rattle.conf_ast.specs.declared.filters.LogicalOp.TheVariants as logical_ops
use Rattle.conf_ast.specs.declared.filters.Num.{Num}
use Rattle.conf_ast.specs.declared.filters.Num.TheVariants as nums
use Rattle.expr_syntax.specs.Syntax.{is_num, is_atom, is_property, is_method, is_mul_op, is_add_op, is_compare_op, is_logical_op}
use Rattle.expr_syntax.specs.ItemView.{num_word}
use Rattle.expr_syntax.specs.View.{atom_word, property_symbol, method_word, mul_op_symbol, add_op_symbol, compare_op_symbol, logical_op_symbol}

-- a number, or the name of one
pub num_is : (w : Word) → is_num (kind_of w) ≡ true → (x : Num) × (w ≡ num_word x)
num_is (words.Number at value) e = (nums.Number at value, refl)
num_is (words.Name at start len) e = (nums.Name (record { at = at; start = start; len = len }), refl)
num_is (words.Symbol sym.Router) e = absurd (false≢true e)
num_is (words.Placed at sym.Router) e = absurd (false≢true e)
num_is _ e = absurd (false≢true e)

-- an attribute and its place
pub attribute_is : (w : Word) → is_attribute (kind_of w) ≡ true → (at : ℕ) × (a : Attribute) × (w ≡ words.Attribute at a)
attribute_is (words.Attribute at a) e = (at, a, refl)
attribute_is (words.Symbol sym.Router) e = absurd (false≢true e)
attribute_is (words.Placed at sym.Router) e = absurd (false≢true e)
attribute_is _ e = absurd (false≢true e)

-- a word that is an expression
pub atom_is : (w : Word) → is_atom (kind_of w) ≡ true → (x : Atom) × (w ≡ atom_word x)
atom_is (words.Number at value) e = (atoms.Number at value, refl)
atom_is (words.Text at start len) e = (atoms.Text at start len, refl)
atom_is (words.Ip at addr) e = (atoms.Ip at addr, refl)
atom_is (words.Prefix at net) e = (atoms.Prefix at net, refl)
atom_is (words.Placed at sym.True) e = (atoms.True at, refl)
atom_is (words.Placed at sym.False) e = (atoms.False at, refl)
atom_is (words.Placed at sym.EmptyPath) e = (atoms.EmptyPath at, refl)
atom_is (words.Placed at sym.EmptyClist) e = (atoms.EmptyClist at, refl)
atom_is (words.Attribute at a) e = (atoms.Attribute at a, refl)
atom_is (words.Constant at c) e = (atoms.Constant at c, refl)
atom_is (words.Symbol sym.Router) e = absurd (false≢true e)
atom_is (words.Placed at sym.Router) e = absurd (false≢true e)
atom_is _ e = absurd (false≢true e)

-- what a list can be asked for
pub property_is : (w : Word) → is_property (kind_of w) ≡ true → (x : Property) × (w ≡ words.Symbol (property_symbol x))
property_is (words.Symbol sym.Len) e = (properties.Len, refl)
property_is (words.Symbol sym.First) e = (properties.First, refl)
property_is (words.Symbol sym.Last) e = (properties.Last, refl)
property_is (words.Symbol sym.Ip) e = (properties.Ip, refl)
property_is (words.Symbol sym.Router) e = absurd (false≢true e)
property_is (words.Placed at sym.Router) e = absurd (false≢true e)
property_is _ e = absurd (false≢true e)

-- a method
pub method_is : (w : Word) → is_method (kind_of w) ≡ true → (x : Method) × (w ≡ method_word x)
method_is (words.Placed at sym.Prepend) e = (record { at = at; kind = methods.Prepend }, refl)
method_is (words.Placed at sym.Add) e = (record { at = at; kind = methods.Add }, refl)
method_is (words.Placed at sym.Delete) e = (record { at = at; kind = methods.Delete }, refl)
method_is (words.Placed at sym.Filter) e = (record { at = at; kind = methods.Filter }, refl)
method_is (words.Symbol sym.Router) e = absurd (false≢true e)
method_is (words.Placed at sym.Router) e = absurd (false≢true e)
method_is _ e = absurd (false≢true e)

-- the words of products
pub mul_op_is : (w : Word) → is_mul_op (kind_of w) ≡ true → (x : MulOp) × (w ≡ words.Symbol (mul_op_symbol x))
mul_op_is (words.Symbol sym.Star) e = (mul_ops.Times, refl)
mul_op_is (words.Symbol sym.Slash) e = (mul_ops.Over, refl)
mul_op_is (words.Symbol sym.Router) e = absurd (false≢true e)
mul_op_is (words.Placed at sym.Router) e = absurd (false≢true e)
mul_op_is _ e = absurd (false≢true e)

-- of sums
pub add_op_is : (w : Word) → is_add_op (kind_of w) ≡ true → (x : AddOp) × (w ≡ words.Symbol (add_op_symbol x))
add_op_is (words.Symbol sym.Plus) e = (add_ops.Plus, refl)
add_op_is (words.Symbol sym.Minus) e = (add_ops.Minus, refl)
add_op_is (words.Symbol sym.Router) e = absurd (false≢true e)
add_op_is (words.Placed at sym.Router) e = absurd (false≢true e)
add_op_is _ e = absurd (false≢true e)

-- of comparisons
pub compare_op_is : (w : Word) → is_compare_op (kind_of w) ≡ true → (x : CompareOp) × (w ≡ words.Symbol (compare_op_symbol x))
compare_op_is (words.Symbol sym.Equal) e = (compare_op_ops.Equal, refl)
compare_op_is (words.Symbol sym.NotEqual) e = (compare_op_ops.NotEqual, refl)
compare_op_is (words.Symbol sym.Less) e = (compare_op_ops.Less, refl)
compare_op_is (words.Symbol sym.LessOrEqual) e = (compare_op_ops.LessOrEqual, refl)
compare_op_is (words.Symbol sym.Greater) e = (compare_op_ops.Greater, refl)
compare_op_is (words.Symbol sym.GreaterOrEqual) e = (compare_op_ops.GreaterOrEqual, refl)
compare_op_is (words.Symbol sym.Matches) e = (compare_op_ops.Matches, refl)
compare_op_is (words.Symbol sym.MatchesNot) e = (compare_op_ops.MatchesNot, refl)
compare_op_is (words.Symbol sym.Router) e = absurd (false≢true e)
compare_op_is (words.Placed at sym.Router) e = absurd (false≢true e)
compare_op_is _ e = absurd (false≢true e)

-- and of what joins them
pub logical_op_is : (w : Word) → is_logical_op (kind_of w) ≡ true → (x : LogicalOp) × (w ≡ words.Symbol (logical_op_symbol x))
logical_op_is (words.Symbol sym.And) e = (logical_ops.And, refl)
logical_op_is (words.Symbol sym.Or) e = (logical_ops.Or, refl)
logical_op_is (words.Symbol sym.Router) e = absurd (false≢true e)
logical_op_is (words.Placed at sym.Router) e = absurd (false≢true e)
logical_op_is _ e = absurd (false≢true e)
