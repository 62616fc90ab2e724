-- What resolving keeps of expressions.
use Rattle.std.proofs.Common.{◌≡◌, ℕ, List, [], ◌∷◌, ◌++◌, map, Option, Some, None, Result, Err, IfOk, refl, sym, ap, ◌∙◌, append_assoc, append-nil, drop, length, ◌≤◌, Box, Vec}
use Rattle.std.specs.Global.{Global}
use Rattle.std.proofs.lemmas.List.{map-append, drop_all}
use Rattle.std.proofs.lemmas.Result.{IfOk-weaker}
use Rattle.bits_ip.specs.declared.memory.OutOfMemory.{OutOfMemory}
use Rattle.conf_ast.specs.declared.named.Name.{Name}
use Rattle.conf_ast.specs.declared.filters.Access.{Access}
use Rattle.conf_ast.specs.declared.filters.Access.TheVariants as accesses
use Rattle.conf_ast.specs.declared.attribute.Attribute.{Attribute}
use Rattle.conf_ast.specs.declared.filters.CompareOp.{CompareOp}
use Rattle.conf_ast.specs.declared.filters.Expr.{Expr}
use Rattle.conf_ast.specs.declared.filters.Expr.TheVariants as e
use Rattle.conf_ast.specs.declared.filters.MulOp.{MulOp}
use Rattle.conf_ast.specs.declared.filters.Item.{Item}
use Rattle.conf_ast.specs.declared.filters.LogicalOp.{LogicalOp}
use Rattle.conf_ast.specs.declared.filters.MaskItem.{MaskItem}
use Rattle.conf_ast.specs.declared.filters.Method.{Method}
use Rattle.conf_ast.specs.declared.filters.MethodKind.{MethodKind}
use Rattle.conf_ast.specs.declared.filters.Atom.{Atom}
use Rattle.conf_ast.specs.declared.filters.AddOp.{AddOp}
use Rattle.conf_ast.specs.Filters.{Expression, PropertyOf, Changed, Multiplied, Added, Joined, expression_of, expressions_of, accessed, multiplied, added, joined}
use Rattle.filt_meaning.specs.declared.value.Failure.{Failure}
use Rattle.filt_meaning.specs.declared.value.Failure.TheVariants as failures
use Rattle.filt_meaning.specs.Operators.{pair_of, not_of}
use Rattle.filt_meaning.specs.Values.{Val}
use Rattle.filt_meaning.specs.Flow.{Run, Frame}
use Rattle.filt_meaning.specs.Items.{set_of, mask_of}
use Rattle.filt_meaning.specs.Meaning.{value, values, plain, named, given, attribute, on_value, on_two, called_value, one_more, factor_of, term_of, compare_of, method_of}
use Rattle.filt_meaning.specs.Names.{Around, Context, Doing, function_of}
use Rattle.filt_meaning.specs.declared.scope.Scope.{Scope}
use Rattle.filt_meaning.specs.declared.tree.TAccess.{TAccess}
use Rattle.filt_meaning.specs.declared.tree.TExpr.{TExpr}
use Rattle.filt_meaning.specs.declared.tree.TExpr.TheVariants as te
use Rattle.filt_meaning.specs.Scopes.{tables_of}
use Rattle.filt_meaning.specs.Trees as trees
use Rattle.filt_meaning.specs.Trees.{Tables, expr, exprs, all_values}
use Rattle.filt_types.specs.Walk.{accesses_of, operands_of}
use Rattle.filt_types.proofs.Trees as o
use Rattle.filt_resolve.specs.Seen.{values_in, accesses_in, parts_in, at_place}
use Rattle.filt_resolve.proofs.Forms as f
use Rattle.filt_resolve.proofs.Lookups.{around_is}

-- ---- lists of parts

pub values_are : (c : Context) (es : List Expr) → all_values (values_in c es) ≡ values (expressions_of es) c
values_are c [] = refl
values_are c (x ∷ es) = ap (λ (a : Run Frame). one_more (value (expression_of x) c) a) (values_are c es)

accessed_are : (c : Context) (a : Expression) (more : List (Access Expr)) → trees.accessed (value a c) (accesses_in c more) ≡ value (accessed a (accesses_of more)) c
accessed_are c a [] = refl
accessed_are c a (accesses.Property p ∷ more) = accessed_are c (PropertyOf a p) more
accessed_are c a (accesses.Method m place x ∷ more) = accessed_are c (Changed a m place (expression_of x)) more

multiplied_are : (c : Context) (a : Expression) (more : List (MulOp × Expr)) → trees.chain factor_of (value a c) (parts_in c more) ≡ value (multiplied a (operands_of more)) c
multiplied_are c a [] = refl
multiplied_are c a (x ∷ more) = multiplied_are c (Multiplied a x.0 (expression_of x.1)) more

added_are : (c : Context) (a : Expression) (more : List (AddOp × Expr)) → trees.chain term_of (value a c) (parts_in c more) ≡ value (added a (operands_of more)) c
added_are c a [] = refl
added_are c a (x ∷ more) = added_are c (Added a x.0 (expression_of x.1)) more

joined_are : (c : Context) (a : Expression) (more : List (LogicalOp × Expr)) → trees.joints (value a c) (parts_in c more) ≡ value (joined a (operands_of more)) c
joined_are c a [] = refl
joined_are c a (x ∷ more) = joined_are c (Joined a x.0 (expression_of x.1)) more

-- one more at the end of what is done, and one less of what is left
pub moved : {A B C : Type 0} (f : A → C) (g : B → C) (xs us : List A) (x : A) (y : B) (ys zs : List B) (all : List C) → us ≡ xs ++ x ∷ [] → zs ≡ y ∷ ys → f x ≡ g y → map f xs ++ map g zs ≡ all → map f us ++ map g ys ≡ all
moved {B = B} {C = C} f g xs us x y ys zs all u z same h =
    ap (λ (v : List C). v ++ map g ys) (ap (map f) u ∙ map-append f xs (x ∷ [])) ∙ append_assoc (map f xs) (f x ∷ []) (map g ys)
    ∙ ap (λ (w : C). map f xs ++ w ∷ map g ys) same ∙ sym (ap (λ (v : List B). map f xs ++ map g v) z) ∙ h

-- nothing is left
pub finished : {B C : Type 0} (us : List C) (g : B → C) (ys : List B) (i : ℕ) (all : List C) → length ys ≤ i → us ++ map g (drop i ys) ≡ all → us ≡ all
finished {B = B} us g ys i all over h = sym (append-nil us) ∙ ap (λ (v : List B). us ++ map g v) (sym (drop_all i ys over)) ∙ h

-- ---- answers of calls

-- what is known of an answer, by an equation of what it is
pub weaker : (r : Result TExpr OutOfMemory) (t : Around → Tables) (a b : Around → Run Val) → ((around : Around) → a around ≡ b around) → IfOk r (λ z. (around : Around) → expr z (t around) ≡ a around) → IfOk r (λ z. (around : Around) → expr z (t around) ≡ b around)
weaker r t a b same h = IfOk-weaker r (λ z. (around : Around) → expr z (t around) ≡ a around) (λ z. (around : Around) → expr z (t around) ≡ b around) (λ z is around. is around ∙ same around) h

module _ (r : Result TExpr OutOfMemory) (t : Around → Tables) (c : Around → Context) (x : Expr) where
  abbrev Known : (Around → Run Val) → Type 0
  Known a = IfOk r (λ z. (around : Around) → expr z (t around) ≡ a around)

  pub simple_ok : (w : Atom) → x ≡ e.Atom w → Known (λ around. plain w (c around)) → Known (λ around. value (expression_of x) (c around))
  simple_ok w is h = weaker r t (λ around. plain w (c around)) (λ around. value (expression_of x) (c around)) (λ around. sym (ap (λ (y : Expr). value (expression_of y) (c around)) is ∙ ap (λ (y : Expression). value y (c around)) (o.is-Atom w))) h

  pub group_ok : (at : ℕ) (b : Box Expr Global) (y : Expr) → x ≡ e.Group at b → y ≡ b.value → Known (λ around. value (expression_of y) (c around)) → Known (λ around. value (expression_of x) (c around))
  group_ok at b y is inner h = weaker r t (λ around. value (expression_of y) (c around)) (λ around. value (expression_of x) (c around)) (λ around. ap (λ (y : Expr). value (expression_of y) (c around)) inner ∙ sym (ap (λ (y : Expr). value (expression_of y) (c around)) is ∙ ap (λ (y : Expression). value y (c around)) (o.is-Group at b))) h

  abbrev two : (Val → Val → Result Val Failure) → Expr → Expr → Around → Run Val
  two f y z around = on_two (value (expression_of y) (c around)) (value (expression_of z) (c around)) f

  two_same : (f : Val → Val → Result Val Failure) (y z u v : Expr) → y ≡ u → z ≡ v → (around : Around) → two f y z around ≡ two f u v around
  two_same f y z u v p q around = ap (λ (y : Expr). two f y z around) p ∙ ap (λ (z : Expr). two f u z around) q

  pub pair_ok : (at : ℕ) (a b : Box Expr Global) (y z : Expr) → x ≡ e.Pair at a b → y ≡ a.value → z ≡ b.value → Known (two pair_of y z) → Known (λ around. value (expression_of x) (c around))
  pair_ok at a b y z is left right h = weaker r t (two pair_of y z) (λ around. value (expression_of x) (c around)) (λ around. two_same pair_of y z a.value b.value left right around ∙ sym (ap (λ (y : Expr). value (expression_of y) (c around)) is ∙ ap (λ (y : Expression). value y (c around)) (o.is-Pair at a b))) h

  pub method_ok : (m : Method) (place : ℕ) (a b : Box Expr Global) (y z : Expr) → x ≡ e.MethodCall m place a b → y ≡ a.value → z ≡ b.value → Known (two (method_of m.kind) y z) → Known (λ around. value (expression_of x) (c around))
  method_ok m place a b y z is left right h = weaker r t (two (method_of m.kind) y z) (λ around. value (expression_of x) (c around)) (λ around. two_same (method_of m.kind) y z a.value b.value left right around ∙ sym (ap (λ (y : Expr). value (expression_of y) (c around)) is ∙ ap (λ (y : Expression). value y (c around)) (o.is-MethodCall m place a b))) h

  pub compare_ok : (op : CompareOp) (a b : Box Expr Global) (y z : Expr) → x ≡ e.Compare op a b → y ≡ a.value → z ≡ b.value → Known (two (compare_of op) y z) → Known (λ around. value (expression_of x) (c around))
  compare_ok op a b y z is left right h = weaker r t (two (compare_of op) y z) (λ around. value (expression_of x) (c around)) (λ around. two_same (compare_of op) y z a.value b.value left right around ∙ sym (ap (λ (y : Expr). value (expression_of y) (c around)) is ∙ ap (λ (y : Expression). value y (c around)) (o.is-Compare op a b))) h

  pub access_ok : (a : Box Expr Global) (v : Vec (Access Expr) Global) (y : Expr) (l : List (Access Expr)) → x ≡ e.Postfix a v → y ≡ a.value → l ≡ v.items → Known (λ around. trees.accessed (value (expression_of y) (c around)) (accesses_in (c around) l)) → Known (λ around. value (expression_of x) (c around))
  access_ok a v y l is left all h = weaker r t (λ around. trees.accessed (value (expression_of y) (c around)) (accesses_in (c around) l)) (λ around. value (expression_of x) (c around)) (λ around.
      ap (λ (y : Expr). trees.accessed (value (expression_of y) (c around)) (accesses_in (c around) l)) left ∙ ap (λ (l : List (Access Expr)). trees.accessed (value (expression_of a.value) (c around)) (accesses_in (c around) l)) all
      ∙ accessed_are (c around) (expression_of a.value) v.items ∙ sym (ap (λ (y : Expr). value (expression_of y) (c around)) is ∙ ap (λ (y : Expression). value y (c around)) (o.is-Postfix a v))) h

  pub product_ok : (a : Box Expr Global) (v : Vec (MulOp × Expr) Global) (y : Expr) (l : List (MulOp × Expr)) → x ≡ e.Product a v → y ≡ a.value → l ≡ v.items → Known (λ around. trees.chain factor_of (value (expression_of y) (c around)) (parts_in (c around) l)) → Known (λ around. value (expression_of x) (c around))
  product_ok a v y l is left all h = weaker r t (λ around. trees.chain factor_of (value (expression_of y) (c around)) (parts_in (c around) l)) (λ around. value (expression_of x) (c around)) (λ around.
      ap (λ (y : Expr). trees.chain factor_of (value (expression_of y) (c around)) (parts_in (c around) l)) left ∙ ap (λ (l : List (MulOp × Expr)). trees.chain factor_of (value (expression_of a.value) (c around)) (parts_in (c around) l)) all
      ∙ multiplied_are (c around) (expression_of a.value) v.items ∙ sym (ap (λ (y : Expr). value (expression_of y) (c around)) is ∙ ap (λ (y : Expression). value y (c around)) (o.is-Product a v))) h

  pub sum_ok : (a : Box Expr Global) (v : Vec (AddOp × Expr) Global) (y : Expr) (l : List (AddOp × Expr)) → x ≡ e.Sum a v → y ≡ a.value → l ≡ v.items → Known (λ around. trees.chain term_of (value (expression_of y) (c around)) (parts_in (c around) l)) → Known (λ around. value (expression_of x) (c around))
  sum_ok a v y l is left all h = weaker r t (λ around. trees.chain term_of (value (expression_of y) (c around)) (parts_in (c around) l)) (λ around. value (expression_of x) (c around)) (λ around.
      ap (λ (y : Expr). trees.chain term_of (value (expression_of y) (c around)) (parts_in (c around) l)) left ∙ ap (λ (l : List (AddOp × Expr)). trees.chain term_of (value (expression_of a.value) (c around)) (parts_in (c around) l)) all
      ∙ added_are (c around) (expression_of a.value) v.items ∙ sym (ap (λ (y : Expr). value (expression_of y) (c around)) is ∙ ap (λ (y : Expression). value y (c around)) (o.is-Sum a v))) h

  pub joint_ok : (a : Box Expr Global) (v : Vec (LogicalOp × Expr) Global) (y : Expr) (l : List (LogicalOp × Expr)) → x ≡ e.Logical a v → y ≡ a.value → l ≡ v.items → Known (λ around. trees.joints (value (expression_of y) (c around)) (parts_in (c around) l)) → Known (λ around. value (expression_of x) (c around))
  joint_ok a v y l is left all h = weaker r t (λ around. trees.joints (value (expression_of y) (c around)) (parts_in (c around) l)) (λ around. value (expression_of x) (c around)) (λ around.
      ap (λ (y : Expr). trees.joints (value (expression_of y) (c around)) (parts_in (c around) l)) left ∙ ap (λ (l : List (LogicalOp × Expr)). trees.joints (value (expression_of a.value) (c around)) (parts_in (c around) l)) all
      ∙ joined_are (c around) (expression_of a.value) v.items ∙ sym (ap (λ (y : Expr). value (expression_of y) (c around)) is ∙ ap (λ (y : Expression). value y (c around)) (o.is-Logical a v))) h

-- what is known over any variables
module _ (r : Result TExpr OutOfMemory) (t : Around → Tables) (d : Around → List (List ℕ) → Context) (variables : List (List ℕ)) (x : Expr) where
  pub set_ok : (at : ℕ) (v : Vec Item Global) (l : List Item) → x ≡ e.Set at v → l ≡ v.items → IfOk r (λ z. (around : Around) (variables : List (List ℕ)) → expr z (t around) ≡ given (set_of (d around variables) l)) → IfOk r (λ z. (around : Around) → expr z (t around) ≡ value (expression_of x) (d around variables))
  set_ok at v l is all h =
      IfOk-weaker r (λ z. (around : Around) (variables : List (List ℕ)) → expr z (t around) ≡ given (set_of (d around variables) l)) (λ z. (around : Around) → expr z (t around) ≡ value (expression_of x) (d around variables))
      (λ z known around. known around variables ∙ ap (λ (l : List Item). given (set_of (d around variables) l)) all ∙ sym (ap (λ (y : Expr). value (expression_of y) (d around variables)) is ∙ ap (λ (y : Expression). value y (d around variables)) (o.is-Set at v))) h

  pub mask_ok : (at : ℕ) (v : Vec MaskItem Global) (l : List MaskItem) → x ≡ e.Mask at v → l ≡ v.items → IfOk r (λ z. (around : Around) (variables : List (List ℕ)) → expr z (t around) ≡ given (mask_of (d around variables) l)) → IfOk r (λ z. (around : Around) → expr z (t around) ≡ value (expression_of x) (d around variables))
  mask_ok at v l is all h =
      IfOk-weaker r (λ z. (around : Around) (variables : List (List ℕ)) → expr z (t around) ≡ given (mask_of (d around variables) l)) (λ z. (around : Around) → expr z (t around) ≡ value (expression_of x) (d around variables))
      (λ z known around. known around variables ∙ ap (λ (l : List MaskItem). given (mask_of (d around variables) l)) all ∙ sym (ap (λ (y : Expr). value (expression_of y) (d around variables)) is ∙ ap (λ (y : Expression). value y (d around variables)) (o.is-Mask at v))) h

-- ---- single forms

pub name_same : (t : Tables) (c : Context) (x : Expr) (n : Name) (y : TExpr) → x ≡ e.Name n → expr y t ≡ named n c → expr y t ≡ value (expression_of x) c
name_same t c x n y is h = h ∙ sym (ap (λ (y : Expr). value (expression_of y) c) is ∙ ap (λ (y : Expression). value y c) (o.is-Name n))

pub call_same : (t : Tables) (c : Context) (x : Expr) (n : Name) (place : ℕ) (v : Vec Expr Global) (l : List Expr) (y : TExpr) (u : List TExpr) → x ≡ e.Call n place v → l ≡ v.items → expr y t ≡ called_value (function_of c n) (all_values (exprs t u)) → exprs t u ≡ values_in c l → expr y t ≡ value (expression_of x) c
call_same t c x n place v l y u is all h g =
    h ∙ ap (λ (rs : List (Run Val)). called_value (function_of c n) (all_values rs)) g
    ∙ ap (λ (a : Run Frame). called_value (function_of c n) a) (values_are c l ∙ ap (λ (l : List Expr). values (expressions_of l) c) all)
    ∙ sym (ap (λ (y : Expr). value (expression_of y) c) is ∙ ap (λ (y : Expression). value y c) (o.is-Call n place v))

pub defined_same : (t : Tables) (c : Context) (x : Expr) (at place attribute_at : ℕ) (a : Attribute) → x ≡ e.Defined at place attribute_at a → expr (te.Defined a) t ≡ value (expression_of x) c
defined_same t c x at place attribute_at a is = f.expr-Defined a t ∙ sym (ap (λ (y : Expr). value (expression_of y) c) is ∙ ap (λ (y : Expression). value y c) (o.is-Defined at place attribute_at a))

pub not_same : (t : Tables) (c : Context) (x y : Expr) (at : ℕ) (a : Box Expr Global) (b : Box TExpr Global) → x ≡ e.Not at a → y ≡ a.value → expr b.value t ≡ value (expression_of y) c → expr (te.Not b) t ≡ value (expression_of x) c
not_same t c x y at a b is inner h =
    f.expr-Not b t ∙ ap (λ (r : Run Val). on_value r not_of) (h ∙ ap (λ (y : Expr). value (expression_of y) c) inner)
    ∙ sym (ap (λ (y : Expr). value (expression_of y) c) is ∙ ap (λ (y : Expression). value y c) (o.is-Not at a))

-- ---- forms of two operands, and chains

pub pair_made : (t : Tables) (a b : Box TExpr Global) (u v : Run Val) → expr a.value t ≡ u → expr b.value t ≡ v → expr (te.Pair a b) t ≡ on_two u v pair_of
pair_made t a b u v p q = f.expr-Pair a b t ∙ ap (λ (r : Run Val). on_two r (expr b.value t) pair_of) p ∙ ap (λ (r : Run Val). on_two u r pair_of) q

pub method_made : (t : Tables) (k : MethodKind) (a b : Box TExpr Global) (u v : Run Val) → expr a.value t ≡ u → expr b.value t ≡ v → expr (te.Method k a b) t ≡ on_two u v (method_of k)
method_made t k a b u v p q = f.expr-Method k a b t ∙ ap (λ (r : Run Val). on_two r (expr b.value t) (method_of k)) p ∙ ap (λ (r : Run Val). on_two u r (method_of k)) q

pub compare_made : (t : Tables) (op : CompareOp) (a b : Box TExpr Global) (u v : Run Val) → expr a.value t ≡ u → expr b.value t ≡ v → expr (te.Compare op a b) t ≡ on_two u v (compare_of op)
compare_made t op a b u v p q = f.expr-Compare op a b t ∙ ap (λ (r : Run Val). on_two r (expr b.value t) (compare_of op)) p ∙ ap (λ (r : Run Val). on_two u r (compare_of op)) q

pub access_made : (t : Tables) (a : Box TExpr Global) (v : Vec (TAccess TExpr) Global) (u : Run Val) (rs : List (TAccess (Run Val))) → expr a.value t ≡ u → trees.accesses_of t v.items ≡ rs → expr (te.Access a v) t ≡ trees.accessed u rs
access_made t a v u rs p q = f.expr-Access a v t ∙ ap (λ (r : Run Val). trees.accessed r (trees.accesses_of t v.items)) p ∙ ap (λ (l : List (TAccess (Run Val))). trees.accessed u l) q

pub product_made : (t : Tables) (a : Box TExpr Global) (v : Vec (MulOp × TExpr) Global) (u : Run Val) (rs : List (MulOp × Run Val)) → expr a.value t ≡ u → trees.parts t v.items ≡ rs → expr (te.Product a v) t ≡ trees.chain factor_of u rs
product_made t a v u rs p q = f.expr-Product a v t ∙ ap (λ (r : Run Val). trees.chain factor_of r (trees.parts t v.items)) p ∙ ap (λ (l : List (MulOp × Run Val)). trees.chain factor_of u l) q

pub sum_made : (t : Tables) (a : Box TExpr Global) (v : Vec (AddOp × TExpr) Global) (u : Run Val) (rs : List (AddOp × Run Val)) → expr a.value t ≡ u → trees.parts t v.items ≡ rs → expr (te.Sum a v) t ≡ trees.chain term_of u rs
sum_made t a v u rs p q = f.expr-Sum a v t ∙ ap (λ (r : Run Val). trees.chain term_of r (trees.parts t v.items)) p ∙ ap (λ (l : List (AddOp × Run Val)). trees.chain term_of u l) q

pub joint_made : (t : Tables) (a : Box TExpr Global) (v : Vec (LogicalOp × TExpr) Global) (u : Run Val) (rs : List (LogicalOp × Run Val)) → expr a.value t ≡ u → trees.parts t v.items ≡ rs → expr (te.Joint a v) t ≡ trees.joints u rs
joint_made t a v u rs p q = f.expr-Joint a v t ∙ ap (λ (r : Run Val). trees.joints r (trees.parts t v.items)) p ∙ ap (λ (l : List (LogicalOp × Run Val)). trees.joints u l) q

-- ---- words

pub attribute_same : (around : Around) (scope : Scope) (a : Attribute) → expr (te.Attribute a) (tables_of around scope) ≡ attribute around a
attribute_same around scope a = f.expr-Attribute a (tables_of around scope) ∙ ap (λ (place : Around). attribute place a) (around_is around scope)

stuck_call : (a : Run Frame) → given (Err failures.Stuck) ≡ called_value None a
stuck_call a = refl

pub called_known : (t : Tables) (f' : Option Doing) (n : ℕ) (v : Vec TExpr Global) → f' ≡ at_place t.functions (Some n) → expr (te.Call n v) t ≡ called_value f' (all_values (exprs t v.items))
called_known t f' n v at = f.expr-Call n v t ∙ ap (λ (d : Option Doing). called_value d (all_values (exprs t v.items))) (sym at)

pub called_unknown : (t : Tables) (f' : Option Doing) (l : List TExpr) → f' ≡ None → expr te.Stuck t ≡ called_value f' (all_values (exprs t l))
called_unknown t f' l at = f.expr-Stuck t ∙ stuck_call (all_values (exprs t l)) ∙ ap (λ (d : Option Doing). called_value d (all_values (exprs t l))) (sym at)
