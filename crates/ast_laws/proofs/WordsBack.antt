-- What the words of a tree stand for.
use Rattle.std.proofs.Common.{◌≡◌, ℕ, refl, ap}
use Rattle.conf_lex.specs.declared.symbol.Symbol.TheVariants as sym
use Rattle.conf_lex.specs.declared.word.Word.{Word}
use Rattle.conf_lex.specs.declared.word.Word.TheVariants as words
use Rattle.conf_ast.specs.declared.named.Name.{Name}
use Rattle.conf_ast.specs.declared.attribute.Attribute.{Attribute}
use Rattle.conf_ast.specs.declared.attribute.Attribute.TheVariants as attributes
use Rattle.conf_ast.specs.declared.filters.Atom.{Atom}
use Rattle.conf_ast.specs.declared.filters.Atom.TheVariants as atoms
use Rattle.conf_ast.specs.declared.filters.Property.{Property}
use Rattle.conf_ast.specs.declared.filters.Property.TheVariants as properties
use Rattle.conf_ast.specs.declared.filters.MethodKind.{MethodKind}
use Rattle.conf_ast.specs.declared.filters.MethodKind.TheVariants as methods
use Rattle.conf_ast.specs.declared.filters.Method.{Method}
use Rattle.conf_ast.specs.declared.filters.MulOp.{MulOp}
use Rattle.conf_ast.specs.declared.filters.MulOp.TheVariants as mul_ops
use Rattle.conf_ast.specs.declared.filters.AddOp.{AddOp}
use Rattle.conf_ast.specs.declared.filters.AddOp.TheVariants as add_ops
use Rattle.conf_ast.specs.declared.filters.CompareOp.{CompareOp}
use Rattle.conf_ast.specs.declared.filters.CompareOp.TheVariants as compare_op_ops
use Rattle.conf_ast.specs.declared.filters.LogicalOp.{LogicalOp}
use Rattle.conf_ast.specs.declared.filters.LogicalOp.TheVariants as logical_ops
use Rattle.expr_syntax.specs.View.{atom_word, property_symbol, method_word, mul_op_symbol, add_op_symbol, compare_op_symbol, logical_op_symbol}

abbrev pub place_of : Word → ℕ
place_of (words.Placed at s) = at
place_of (words.Attribute at a) = at
place_of _ = 0

abbrev pub name_from : Word → Name
name_from (words.Name at start len) = record { at = at; start = start; len = len }
name_from _ = record { at = 0; start = 0; len = 0 }

abbrev pub attribute_from : Word → Attribute
attribute_from (words.Attribute at a) = a
attribute_from _ = attributes.Net

abbrev pub simple_from : Word → Atom
simple_from (words.Number at value) = atoms.Number at value
simple_from (words.Text at start len) = atoms.Text at start len
simple_from (words.Ip at addr) = atoms.Ip at addr
simple_from (words.Prefix at net) = atoms.Prefix at net
simple_from (words.Placed at sym.True) = atoms.True at
simple_from (words.Placed at sym.False) = atoms.False at
simple_from (words.Placed at sym.EmptyPath) = atoms.EmptyPath at
simple_from (words.Placed at sym.EmptyClist) = atoms.EmptyClist at
simple_from (words.Attribute at a) = atoms.Attribute at a
simple_from (words.Constant at c) = atoms.Constant at c
simple_from _ = atoms.True 0

abbrev pub property_from : Word → Property
property_from (words.Symbol sym.First) = properties.First
property_from (words.Symbol sym.Last) = properties.Last
property_from (words.Symbol sym.Ip) = properties.Ip
property_from _ = properties.Len

abbrev pub method_kind_from : Word → MethodKind
method_kind_from (words.Placed at sym.Add) = methods.Add
method_kind_from (words.Placed at sym.Delete) = methods.Delete
method_kind_from (words.Placed at sym.Filter) = methods.Filter
method_kind_from _ = methods.Prepend

abbrev pub method_from : Word → Method
method_from w = record { at = place_of w; kind = method_kind_from w }

abbrev pub mul_op_from : Word → MulOp
mul_op_from (words.Symbol sym.Slash) = mul_ops.Over
mul_op_from _ = mul_ops.Times

abbrev pub add_op_from : Word → AddOp
add_op_from (words.Symbol sym.Minus) = add_ops.Minus
add_op_from _ = add_ops.Plus

abbrev pub compare_op_from : Word → CompareOp
compare_op_from (words.Symbol sym.NotEqual) = compare_op_ops.NotEqual
compare_op_from (words.Symbol sym.Less) = compare_op_ops.Less
compare_op_from (words.Symbol sym.LessOrEqual) = compare_op_ops.LessOrEqual
compare_op_from (words.Symbol sym.Greater) = compare_op_ops.Greater
compare_op_from (words.Symbol sym.GreaterOrEqual) = compare_op_ops.GreaterOrEqual
compare_op_from (words.Symbol sym.Matches) = compare_op_ops.Matches
compare_op_from (words.Symbol sym.MatchesNot) = compare_op_ops.MatchesNot
compare_op_from _ = compare_op_ops.Equal

abbrev pub logical_op_from : Word → LogicalOp
logical_op_from (words.Symbol sym.Or) = logical_ops.Or
logical_op_from _ = logical_ops.And

-- ---- each word is of what it was made of

pub attribute_back : (at : ℕ) (a : Attribute) → attribute_from (words.Attribute at a) ≡ a
attribute_back at a = refl

pub simple_back : (s : Atom) → simple_from (atom_word s) ≡ s
simple_back (atoms.Number at value) = refl
simple_back (atoms.Text at start len) = refl
simple_back (atoms.Ip at addr) = refl
simple_back (atoms.Prefix at net) = refl
simple_back (atoms.True at) = refl
simple_back (atoms.False at) = refl
simple_back (atoms.EmptyPath at) = refl
simple_back (atoms.EmptyClist at) = refl
simple_back (atoms.Attribute at a) = refl
simple_back (atoms.Constant at c) = refl

pub property_back : (x : Property) → property_from (words.Symbol (property_symbol x)) ≡ x
property_back properties.Len = refl
property_back properties.First = refl
property_back properties.Last = refl
property_back properties.Ip = refl

kind_back : (at : ℕ) (k : MethodKind) → method_kind_from (method_word (record { at = at; kind = k })) ≡ k
kind_back at methods.Prepend = refl
kind_back at methods.Add = refl
kind_back at methods.Delete = refl
kind_back at methods.Filter = refl

pub method_back : (m : Method) → method_from (method_word m) ≡ m
method_back m = ap (λ (k : MethodKind). record { at = m.at; kind = k }) (kind_back m.at m.kind)

pub mul_op_back : (x : MulOp) → mul_op_from (words.Symbol (mul_op_symbol x)) ≡ x
mul_op_back mul_ops.Times = refl
mul_op_back mul_ops.Over = refl

pub add_op_back : (x : AddOp) → add_op_from (words.Symbol (add_op_symbol x)) ≡ x
add_op_back add_ops.Plus = refl
add_op_back add_ops.Minus = refl

pub compare_op_back : (x : CompareOp) → compare_op_from (words.Symbol (compare_op_symbol x)) ≡ x
compare_op_back compare_op_ops.Equal = refl
compare_op_back compare_op_ops.NotEqual = refl
compare_op_back compare_op_ops.Less = refl
compare_op_back compare_op_ops.LessOrEqual = refl
compare_op_back compare_op_ops.Greater = refl
compare_op_back compare_op_ops.GreaterOrEqual = refl
compare_op_back compare_op_ops.Matches = refl
compare_op_back compare_op_ops.MatchesNot = refl

pub logical_op_back : (x : LogicalOp) → logical_op_from (words.Symbol (logical_op_symbol x)) ≡ x
logical_op_back logical_ops.And = refl
logical_op_back logical_ops.Or = refl
