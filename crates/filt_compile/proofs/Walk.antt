-- What expressions come to, by the operators that follow their first operands.
use Rattle.std.proofs.Common.{◌≡◌, ℕ, suc, zero, ◌+◌, ◌<◌, ◌≤◌, List, [], ◌∷◌, map, length, take, drop, Option, Some, None, Ok, Err, rules, refl, sym, ap, ◌∙◌, arith, Box, Vec}
use Rattle.std.proofs.lemmas.Option.{slice_get-get_or}
use Rattle.std.specs.Prelude.{slice_get}
use Rattle.std.proofs.Math.ListN.{get_or}
use Rattle.std.specs.Global.{Global}
use Rattle.attrs.specs.declared.attributes.Attrs.{Attrs}
use Rattle.conf_ast.specs.declared.filters.CompareOp.{CompareOp}
use Rattle.conf_ast.specs.declared.filters.MulOp.{MulOp}
use Rattle.conf_ast.specs.declared.filters.LogicalOp.{LogicalOp}
use Rattle.conf_ast.specs.declared.filters.MethodKind.{MethodKind}
use Rattle.conf_ast.specs.declared.filters.AddOp.{AddOp}
use Rattle.filt_meaning.specs.Values.{Val}
use Rattle.filt_meaning.specs.Flow.{Accepted, Rejected, Flow, Done, Stopped, Frame, Run, and_then, plainly}
use Rattle.filt_meaning.specs.Meaning as m
use Rattle.filt_meaning.specs.Meaning.{Act}
use Rattle.filt_meaning.specs.Names.{there}
use Rattle.filt_meaning.specs.declared.tree.TAccess.{TAccess}
use Rattle.filt_meaning.specs.declared.tree.TAccess.TheVariants as accesses
use Rattle.filt_meaning.specs.declared.tree.Labels.{Labels}
use Rattle.filt_meaning.specs.declared.tree.TArm.{TArm}
use Rattle.filt_meaning.specs.declared.tree.TStmt.{TStmt, fold-TStmt, the_lemmas as stmt_lemmas}
use Rattle.filt_meaning.specs.declared.tree.TStmt.TheVariants as s
use Rattle.filt_meaning.specs.declared.tree.TStmt.TheOpen.{TStmt-F}
use Rattle.filt_meaning.specs.declared.tree.TTarget.{TTarget}
use Rattle.filt_meaning.specs.declared.tree.TTest.{TTest}
use Rattle.conf_ast.specs.declared.attribute.Attribute.{Attribute}
use Rattle.filt_meaning.specs.declared.fixed.Fixed.{Fixed}
use Rattle.filt_meaning.specs.declared.value.Failure.TheVariants as failures
use Rattle.filt_meaning.specs.declared.value.Sort.{Sort}
use Rattle.filt_meaning.specs.Seen.{val_of_fixed}
use Rattle.filt_meaning.specs.Values.{default_of}
use Rattle.filt_meaning.specs.declared.tree.TExpr.{TExpr, fold-TExpr, the_lemmas as expr_lemmas}
use Rattle.filt_meaning.specs.declared.tree.TExpr.TheOpen.{TExpr-F}
use Rattle.filt_meaning.specs.declared.tree.TExpr.TheVariants as e
use Rattle.filt_meaning.specs.Trees as trees
use Rattle.filt_meaning.specs.Trees.{Tables}
use Rattle.filt_code.specs.declared.instr.OfOne.{OfOne}
use Rattle.filt_code.specs.declared.instr.OfOne.TheVariants as of_one
use Rattle.filt_code.specs.declared.instr.OfTwo.{OfTwo}
use Rattle.filt_code.specs.declared.instr.OfTwo.TheVariants as of_two
use Rattle.filt_code.specs.Codes.{one_of, two_of}
use Rattle.filt_compile.specs.Parts.{Part, One, Two, Joined, part_of_access, made_by, made_by_all}
use Rattle.filt_meaning.proofs.Forms as forms
use Rattle.filt_meaning.proofs.Forms.{by_parts, by_accesses}

pub and_then_assoc : {A B C : Type 0} (flow : Flow A) (g : A → Attrs → Flow B) (h : B → Attrs → Flow C) → and_then (and_then flow g) h ≡ and_then flow (λ a attrs. and_then (g a attrs) h)
and_then_assoc (Done a attrs) g h = refl
and_then_assoc (Stopped why attrs) g h = refl

pub and_then_done : {A : Type 0} (flow : Flow A) → and_then flow (λ a attrs. Done a attrs) ≡ flow
and_then_done (Done a attrs) = refl
and_then_done (Stopped why attrs) = refl

pub next_item : {A : Type 0} (xs : List A) (i : ℕ) (x : A) → i < length xs → x ≡ get_or xs i x → drop i xs ≡ x ∷ drop (i + 1) xs
next_item [] i x lt is = absurd (omega arith)
next_item (y ∷ ys) zero x lt is = rw is refl
next_item (y ∷ ys) (suc i) x lt is = let e : suc i + 1 ≡ suc (i + 1) = omega arith in rw e (next_item ys i x (omega arith) is)

pub next_got : {A : Type 0} (xs : List A) (i : ℕ) (x : A) → slice_get xs i ≡ Some x → drop i xs ≡ x ∷ drop (i + 1) xs
next_got [] i x is = absurd (cc)
next_got (y ∷ ys) zero x is = let p : y ≡ x = cc in rw p refl
next_got (y ∷ ys) (suc i) x is = let e : suc i + 1 ≡ suc (i + 1) = omega arith in rw e (next_got ys i x is)

pub nothing_left : {A : Type 0} (xs : List A) (i : ℕ) → length xs ≤ i → drop i xs ≡ []
nothing_left [] zero le = refl
nothing_left [] (suc i) le = refl
nothing_left (x ∷ xs) zero le = absurd (omega arith)
nothing_left (x ∷ xs) (suc i) le = nothing_left xs i (omega arith)

pub found_at : {A : Type 0} (xs : List A) (n : ℕ) (x : A) → n < length xs → x ≡ get_or xs n x → slice_get xs n ≡ Some x
found_at xs n x lt is = slice_get-get_or xs n x lt ∙ ap Some (sym is)

-- ---- chains

-- an operand, and what is made of it
abbrev pub chained : Tables → TExpr → List Part → Run Val
chained t first parts vals attrs = and_then (trees.expr first t vals attrs) (λ v attrs. made_by_all t parts v vals attrs)

one_part : (flow : Flow Val) (g : Val → Attrs → Flow Val) → and_then flow g ≡ and_then flow (λ v attrs. and_then (g v attrs) (λ w attrs. Done w attrs))
one_part (Done v attrs) g = sym (and_then_done (g v attrs))
one_part (Stopped why attrs) g = refl

chain_parts : {Op : Type 0} (t : Tables) (two : Op → OfTwo) (a : Run Val) (more : List (Op × TExpr)) (vals : Frame) (attrs : Attrs) → trees.chain (λ op. two_of (two op)) a (trees.parts t more) vals attrs ≡ and_then (a vals attrs) (λ v attrs. made_by_all t (map (λ x. Two (two x.0) x.1) more) v vals attrs)
chain_parts t two a [] vals attrs = sym (and_then_done (a vals attrs))
chain_parts t two a (x ∷ more) vals attrs =
    chain_parts t two (m.on_two a (trees.expr x.1 t) (two_of (two x.0))) more vals attrs
    ∙ and_then_assoc (a vals attrs) (λ v attrs. made_by t (Two (two x.0) x.1) v vals attrs) (λ w attrs. made_by_all t (map (λ x. Two (two x.0) x.1) more) w vals attrs)

joint_parts : (t : Tables) (a : Run Val) (more : List (LogicalOp × TExpr)) (vals : Frame) (attrs : Attrs) → trees.joints a (trees.parts t more) vals attrs ≡ and_then (a vals attrs) (λ v attrs. made_by_all t (map (λ x. Joined x.0 x.1) more) v vals attrs)
joint_parts t a [] vals attrs = sym (and_then_done (a vals attrs))
joint_parts t a (x ∷ more) vals attrs =
    joint_parts t (m.joined x.0 a (trees.expr x.1 t)) more vals attrs
    ∙ and_then_assoc (a vals attrs) (λ v attrs. made_by t (Joined x.0 x.1) v vals attrs) (λ w attrs. made_by_all t (map (λ x. Joined x.0 x.1) more) w vals attrs)

access_parts : (t : Tables) (a : Run Val) (more : List (TAccess TExpr)) (vals : Frame) (attrs : Attrs) → trees.accessed a (trees.accesses_of t more) vals attrs ≡ and_then (a vals attrs) (λ v attrs. made_by_all t (map part_of_access more) v vals attrs)
access_parts t a [] vals attrs = sym (and_then_done (a vals attrs))
access_parts t a (accesses.Property p ∷ more) vals attrs =
    access_parts t (m.on_value a (m.property_of p)) more vals attrs
    ∙ and_then_assoc (a vals attrs) (λ v attrs. made_by t (One (of_one.Property p)) v vals attrs) (λ w attrs. made_by_all t (map part_of_access more) w vals attrs)
access_parts t a (accesses.Method kind x ∷ more) vals attrs =
    access_parts t (m.on_two a (trees.expr x t) (m.method_of kind)) more vals attrs
    ∙ and_then_assoc (a vals attrs) (λ v attrs. made_by t (Two (of_two.Method kind) x) v vals attrs) (λ w attrs. made_by_all t (map part_of_access more) w vals attrs)

-- each form of an expression with operands is a chain
expr-Product : (a : Box TExpr Global) (v : Vec (MulOp × TExpr) Global) (t : Tables) → trees.expr (e.Product a v) t ≡ trees.chain m.factor_of (trees.expr a.value t) (trees.parts t v.items)
expr-Product a v t = ap (λ (f : Tables → Run Val). f t) (forms.of-Product _ trees.expr_step a v) ∙ ap (λ (xs : List (MulOp × Run Val)). trees.chain m.factor_of (trees.expr a.value t) xs) (by_parts {B = MulOp × (Tables → Run Val)} _ _ _ (λ x. refl) v.items)

expr-Sum : (a : Box TExpr Global) (v : Vec (AddOp × TExpr) Global) (t : Tables) → trees.expr (e.Sum a v) t ≡ trees.chain m.term_of (trees.expr a.value t) (trees.parts t v.items)
expr-Sum a v t = ap (λ (f : Tables → Run Val). f t) (forms.of-Sum _ trees.expr_step a v) ∙ ap (λ (xs : List (AddOp × Run Val)). trees.chain m.term_of (trees.expr a.value t) xs) (by_parts {B = AddOp × (Tables → Run Val)} _ _ _ (λ x. refl) v.items)

pub expr-Joint : (a : Box TExpr Global) (v : Vec (LogicalOp × TExpr) Global) (t : Tables) → trees.expr (e.Joint a v) t ≡ trees.joints (trees.expr a.value t) (trees.parts t v.items)
expr-Joint a v t = ap (λ (f : Tables → Run Val). f t) (forms.of-Joint _ trees.expr_step a v) ∙ ap (λ (xs : List (LogicalOp × Run Val)). trees.joints (trees.expr a.value t) xs) (by_parts {B = LogicalOp × (Tables → Run Val)} _ _ _ (λ x. refl) v.items)

expr-Access : (a : Box TExpr Global) (v : Vec (TAccess TExpr) Global) (t : Tables) → trees.expr (e.Access a v) t ≡ trees.accessed (trees.expr a.value t) (trees.accesses_of t v.items)
expr-Access a v t = ap (λ (f : Tables → Run Val). f t) (forms.of-Access _ trees.expr_step a v) ∙ ap (λ (xs : List (TAccess (Run Val))). trees.accessed (trees.expr a.value t) xs) (by_accesses {B = Tables → Run Val} _ _ _ (λ p. refl) (λ kind x. refl) v.items)

pub product_is : (t : Tables) (a : Box TExpr Global) (v : Vec (MulOp × TExpr) Global) (x first : TExpr) (more : List (MulOp × TExpr)) (vals : Frame) (attrs : Attrs) → x ≡ e.Product a v → first ≡ a.value → more ≡ v.items → trees.expr x t vals attrs ≡ chained t first (map (λ p. Two (of_two.Factor p.0) p.1) more) vals attrs
product_is t a v x first more vals attrs is f i =
    ap (λ (x : TExpr). trees.expr x t vals attrs) is ∙ ap (λ (f : Run Val). f vals attrs) (expr-Product a v t) ∙ chain_parts t of_two.Factor (trees.expr a.value t) v.items vals attrs ∙ rw (← f, ← i) refl

pub sum_is : (t : Tables) (a : Box TExpr Global) (v : Vec (AddOp × TExpr) Global) (x first : TExpr) (more : List (AddOp × TExpr)) (vals : Frame) (attrs : Attrs) → x ≡ e.Sum a v → first ≡ a.value → more ≡ v.items → trees.expr x t vals attrs ≡ chained t first (map (λ p. Two (of_two.Term p.0) p.1) more) vals attrs
sum_is t a v x first more vals attrs is f i =
    ap (λ (x : TExpr). trees.expr x t vals attrs) is ∙ ap (λ (f : Run Val). f vals attrs) (expr-Sum a v t) ∙ chain_parts t of_two.Term (trees.expr a.value t) v.items vals attrs ∙ rw (← f, ← i) refl

pub joint_is : (t : Tables) (a : Box TExpr Global) (v : Vec (LogicalOp × TExpr) Global) (x first : TExpr) (more : List (LogicalOp × TExpr)) (vals : Frame) (attrs : Attrs) → x ≡ e.Joint a v → first ≡ a.value → more ≡ v.items → trees.expr x t vals attrs ≡ chained t first (map (λ p. Joined p.0 p.1) more) vals attrs
joint_is t a v x first more vals attrs is f i =
    ap (λ (x : TExpr). trees.expr x t vals attrs) is ∙ ap (λ (f : Run Val). f vals attrs) (expr-Joint a v t) ∙ joint_parts t (trees.expr a.value t) v.items vals attrs ∙ rw (← f, ← i) refl

pub access_is : (t : Tables) (a : Box TExpr Global) (v : Vec (TAccess TExpr) Global) (x first : TExpr) (more : List (TAccess TExpr)) (vals : Frame) (attrs : Attrs) → x ≡ e.Access a v → first ≡ a.value → more ≡ v.items → trees.expr x t vals attrs ≡ chained t first (map part_of_access more) vals attrs
access_is t a v x first more vals attrs is f i =
    ap (λ (x : TExpr). trees.expr x t vals attrs) is ∙ ap (λ (f : Run Val). f vals attrs) (expr-Access a v t) ∙ access_parts t (trees.expr a.value t) v.items vals attrs ∙ rw (← f, ← i) refl

pub one_is : (t : Tables) (op : OfOne) (a : Box TExpr Global) (x first : TExpr) (vals : Frame) (attrs : Attrs) → trees.expr x t ≡ m.on_value (trees.expr a.value t) (one_of op) → first ≡ a.value → trees.expr x t vals attrs ≡ chained t first (One op ∷ []) vals attrs
one_is t op a x first vals attrs is f =
    ap (λ (f : Run Val). f vals attrs) is ∙ one_part (trees.expr a.value t vals attrs) (λ v attrs. plainly (one_of op v) attrs) ∙ rw (← f) refl

pub two_is : (t : Tables) (op : OfTwo) (a b : Box TExpr Global) (x first second : TExpr) (vals : Frame) (attrs : Attrs) → trees.expr x t ≡ m.on_two (trees.expr a.value t) (trees.expr b.value t) (two_of op) → first ≡ a.value → second ≡ b.value → trees.expr x t vals attrs ≡ chained t first (Two op second ∷ []) vals attrs
two_is t op a b x first second vals attrs is f g =
    ap (λ (f : Run Val). f vals attrs) is ∙ one_part (trees.expr a.value t vals attrs) (λ v attrs. made_by t (Two op b.value) v vals attrs) ∙ rw (← f, ← g) refl

pub not_is : (t : Tables) (a : Box TExpr Global) (x first : TExpr) (vals : Frame) (attrs : Attrs) → x ≡ e.Not a → first ≡ a.value → trees.expr x t vals attrs ≡ chained t first (One of_one.Not ∷ []) vals attrs
not_is t a x first vals attrs is f = one_is t of_one.Not a x first vals attrs (ap (λ (x : TExpr). trees.expr x t) is ∙ ap (λ (f : Tables → Run Val). f t) (forms.of-Not _ trees.expr_step a)) f

pub empty_is : (t : Tables) (a : Box TExpr Global) (x first : TExpr) (vals : Frame) (attrs : Attrs) → x ≡ e.Empty a → first ≡ a.value → trees.expr x t vals attrs ≡ chained t first (One of_one.Empty ∷ []) vals attrs
empty_is t a x first vals attrs is f = one_is t of_one.Empty a x first vals attrs (ap (λ (x : TExpr). trees.expr x t) is ∙ ap (λ (f : Tables → Run Val). f t) (forms.of-Empty _ trees.expr_step a)) f

pub pair_is : (t : Tables) (a b : Box TExpr Global) (x first second : TExpr) (vals : Frame) (attrs : Attrs) → x ≡ e.Pair a b → first ≡ a.value → second ≡ b.value → trees.expr x t vals attrs ≡ chained t first (Two of_two.Pair second ∷ []) vals attrs
pair_is t a b x first second vals attrs is f g = two_is t of_two.Pair a b x first second vals attrs (ap (λ (x : TExpr). trees.expr x t) is ∙ ap (λ (f : Tables → Run Val). f t) (forms.of-Pair _ trees.expr_step a b)) f g

pub method_is : (t : Tables) (kind : MethodKind) (a b : Box TExpr Global) (x first second : TExpr) (vals : Frame) (attrs : Attrs) → x ≡ e.Method kind a b → first ≡ a.value → second ≡ b.value → trees.expr x t vals attrs ≡ chained t first (Two (of_two.Method kind) second ∷ []) vals attrs
method_is t kind a b x first second vals attrs is f g = two_is t (of_two.Method kind) a b x first second vals attrs (ap (λ (x : TExpr). trees.expr x t) is ∙ ap (λ (f : Tables → Run Val). f t) (forms.of-Method _ trees.expr_step kind a b)) f g

pub compare_is : (t : Tables) (compare : CompareOp) (a b : Box TExpr Global) (x first second : TExpr) (vals : Frame) (attrs : Attrs) → x ≡ e.Compare compare a b → first ≡ a.value → second ≡ b.value → trees.expr x t vals attrs ≡ chained t first (Two (of_two.Compare compare) second ∷ []) vals attrs
compare_is t compare a b x first second vals attrs is f g = two_is t (of_two.Compare compare) a b x first second vals attrs (ap (λ (x : TExpr). trees.expr x t) is ∙ ap (λ (f : Tables → Run Val). f t) (forms.of-Compare _ trees.expr_step compare a b)) f g

-- ---- tests

pub test_is : (t : Tables) (what : TTest) (x : TExpr) (vals : Frame) (attrs : Attrs) → x ≡ e.Test what → trees.expr x t vals attrs ≡ trees.test t.around what vals attrs
test_is t what x vals attrs is = ap (λ (x : TExpr). trees.expr x t vals attrs) is ∙ ap (λ (f : Tables → Run Val). f t vals attrs) (forms.of-Test _ trees.expr_step what)

pub called_is : (t : Tables) (n : ℕ) (v : Vec TExpr Global) (x : TExpr) (es : List TExpr) (vals : Frame) (attrs : Attrs) → x ≡ e.Call n v → es ≡ v.items → trees.expr x t vals attrs ≡ m.called_value (slice_get t.functions n) (trees.all_values (trees.exprs t es)) vals attrs
called_is t n v x es vals attrs is i =
    ap (λ (x : TExpr). trees.expr x t vals attrs) is
    ∙ ap (λ (f : Tables → Run Val). f t vals attrs) (forms.of-Call _ trees.expr_step n v)
    ∙ ap (λ (xs : List (Run Val)). m.called_value (slice_get t.functions n) (trees.all_values xs) vals attrs) (by_parts {B = Tables → Run Val} _ _ _ (λ x. refl) v.items)
    ∙ rw (← i) refl

-- ---- forms without parts

pub of-Value : (A : Type 0) (step : TExpr-F A → A) (v : Fixed) → fold-TExpr A step (e.Value v) ≡ step (TExpr-F.Value v)
of-Value A step v = search (rules, expr_lemmas)

pub value_is : (v : Fixed) (x : TExpr) (t : Tables) → x ≡ (e.Value v) → trees.expr x t ≡ m.given (Ok (val_of_fixed v))
value_is v x t is = ap (λ (x : TExpr). trees.expr x t) is ∙ ap (λ (f : Tables → Run Val). f t) (of-Value _ trees.expr_step v)

pub of-Constant : (A : Type 0) (step : TExpr-F A → A) (n : ℕ) → fold-TExpr A step (e.Constant n) ≡ step (TExpr-F.Constant n)
of-Constant A step n = search (rules, expr_lemmas)

pub constant_is : (n : ℕ) (x : TExpr) (t : Tables) → x ≡ (e.Constant n) → trees.expr x t ≡ m.given (there (slice_get t.constants n))
constant_is n x t is = ap (λ (x : TExpr). trees.expr x t) is ∙ ap (λ (f : Tables → Run Val). f t) (of-Constant _ trees.expr_step n)

pub of-Local : (A : Type 0) (step : TExpr-F A → A) (n : ℕ) → fold-TExpr A step (e.Local n) ≡ step (TExpr-F.Local n)
of-Local A step n = search (rules, expr_lemmas)

pub local_is : (n : ℕ) (x : TExpr) (t : Tables) → x ≡ (e.Local n) → trees.expr x t ≡ m.variable_or (Some n) None
local_is n x t is = ap (λ (x : TExpr). trees.expr x t) is ∙ ap (λ (f : Tables → Run Val). f t) (of-Local _ trees.expr_step n)

pub of-Attribute : (A : Type 0) (step : TExpr-F A → A) (a : Attribute) → fold-TExpr A step (e.Attribute a) ≡ step (TExpr-F.Attribute a)
of-Attribute A step a = search (rules, expr_lemmas)

pub attribute_is : (a : Attribute) (x : TExpr) (t : Tables) → x ≡ (e.Attribute a) → trees.expr x t ≡ m.attribute t.around a
attribute_is a x t is = ap (λ (x : TExpr). trees.expr x t) is ∙ ap (λ (f : Tables → Run Val). f t) (of-Attribute _ trees.expr_step a)

pub of-Defined : (A : Type 0) (step : TExpr-F A → A) (a : Attribute) → fold-TExpr A step (e.Defined a) ≡ step (TExpr-F.Defined a)
of-Defined A step a = search (rules, expr_lemmas)

pub defined_is : (a : Attribute) (x : TExpr) (t : Tables) → x ≡ (e.Defined a) → trees.expr x t ≡ m.defined a
defined_is a x t is = ap (λ (x : TExpr). trees.expr x t) is ∙ ap (λ (f : Tables → Run Val). f t) (of-Defined _ trees.expr_step a)

pub of-Default : (A : Type 0) (step : TExpr-F A → A) (sort : Sort) → fold-TExpr A step (e.Default sort) ≡ step (TExpr-F.Default sort)
of-Default A step sort = search (rules, expr_lemmas)

pub default_is : (sort : Sort) (x : TExpr) (t : Tables) → x ≡ (e.Default sort) → trees.expr x t ≡ m.given (Ok (default_of sort))
default_is sort x t is = ap (λ (x : TExpr). trees.expr x t) is ∙ ap (λ (f : Tables → Run Val). f t) (of-Default _ trees.expr_step sort)

pub of-Stuck : (A : Type 0) (step : TExpr-F A → A) → fold-TExpr A step e.Stuck ≡ step TExpr-F.Stuck
of-Stuck A step = search (rules, expr_lemmas)

pub stuck_is : (x : TExpr) (t : Tables) → x ≡ e.Stuck → trees.expr x t ≡ m.given (Err failures.Stuck)
stuck_is x t is = ap (λ (x : TExpr). trees.expr x t) is ∙ ap (λ (f : Tables → Run Val). f t) (of-Stuck _ trees.expr_step)

-- ---- statements

turn_by : (t : Tables) (ss : List TStmt) → trees.in_order (map (trees.over t) (map trees.stmt ss)) ≡ trees.body t ss
turn_by t ss = ap trees.in_order (by_parts {B = Tables → Act} _ _ _ (λ a. refl) ss)

pub block_is : (t : Tables) (k : Vec Sort Global) (v : Vec TStmt Global) (st : TStmt) (sorts : List Sort) (ss : List TStmt) (vals : Frame) (attrs : Attrs) → st ≡ s.Block k v → sorts ≡ k.items → ss ≡ v.items → trees.stmt st t vals attrs ≡ and_then (trees.run t sorts ss vals attrs) (λ after attrs. Done (take (length vals) after) attrs)
block_is t k v st sorts ss vals attrs is p q =
    ap (λ (x : TStmt). trees.stmt x t vals attrs) is
    ∙ ap (λ (f : Tables → Act). f t vals attrs) (forms.act-of-Block _ trees.stmt_step k v)
    ∙ ap (λ (a : Act). m.block (map default_of k.items) a vals attrs) (turn_by t v.items)
    ∙ rw (← p, ← q) refl

pub assign_is : (t : Tables) (target : TTarget) (x : TExpr) (st : TStmt) (vals : Frame) (attrs : Attrs) → st ≡ s.Assign target x → trees.stmt st t vals attrs ≡ and_then (trees.expr x t vals attrs) (λ v attrs. trees.set_place target v vals attrs)
assign_is t target x st vals attrs is =
    ap (λ (x : TStmt). trees.stmt x t vals attrs) is ∙ ap (λ (f : Tables → Act). f t vals attrs) (forms.act-of-Assign _ trees.stmt_step target x)

pub if_is : (t : Tables) (x : TExpr) (a : Box TStmt Global) (st first : TStmt) (vals : Frame) (attrs : Attrs) → st ≡ s.If x a → first ≡ a.value → trees.stmt st t vals attrs ≡ m.choice (trees.expr x t) (trees.stmt first t) m.nothing vals attrs
if_is t x a st first vals attrs is f =
    ap (λ (x : TStmt). trees.stmt x t vals attrs) is ∙ ap (λ (f : Tables → Act). f t vals attrs) (forms.act-of-If _ trees.stmt_step x a) ∙ rw (← f) refl

pub if_else_is : (t : Tables) (x : TExpr) (a b : Box TStmt Global) (st first second : TStmt) (vals : Frame) (attrs : Attrs) → st ≡ s.IfElse x a b → first ≡ a.value → second ≡ b.value → trees.stmt st t vals attrs ≡ m.choice (trees.expr x t) (trees.stmt first t) (trees.stmt second t) vals attrs
if_else_is t x a b st first second vals attrs is f g =
    ap (λ (x : TStmt). trees.stmt x t vals attrs) is ∙ ap (λ (f : Tables → Act). f t vals attrs) (forms.act-of-IfElse _ trees.stmt_step x a b) ∙ rw (← f, ← g) refl

arms_by : (t : Tables) (f : TArm TStmt → TArm (Tables → Act)) → ((a : TArm TStmt) → trees.arm_over t (f a) ≡ trees.arm_of t a) → (xs : List (TArm TStmt)) → map (trees.arm_over t) (map f xs) ≡ trees.arms_of t xs
arms_by t f same xs = by_parts (trees.arm_over t) f (trees.arm_of t) same xs

pub case_is : (t : Tables) (x : TExpr) (v : Vec (TArm TStmt) Global) (o : Vec TStmt Global) (st : TStmt) (as_arms : List (TArm TStmt)) (otherwise : List TStmt) (vals : Frame) (attrs : Attrs) → st ≡ s.Case x v o → as_arms ≡ v.items → otherwise ≡ o.items → trees.stmt st t vals attrs ≡ m.cases (trees.expr x t) (trees.arms (trees.arms_of t as_arms) (trees.body t otherwise)) vals attrs
case_is t x v o st as_arms otherwise vals attrs is p q =
    ap (λ (x : TStmt). trees.stmt x t vals attrs) is
    ∙ ap (λ (f : Tables → Act). f t vals attrs) (forms.act-of-Case _ trees.stmt_step x v o)
    ∙ ap (λ (all : List (Labels × Act)). m.cases (trees.expr x t) (trees.arms all (trees.in_order (map (trees.over t) (map trees.stmt o.items)))) vals attrs) (arms_by t _ (λ a. ap (λ (b : Act). (a.labels, b)) (turn_by t a.body.items)) v.items)
    ∙ ap (λ (b : Act). m.cases (trees.expr x t) (trees.arms (trees.arms_of t v.items) b) vals attrs) (turn_by t o.items)
    ∙ rw (← p, ← q) refl

pub for_is : (t : Tables) (x : TExpr) (a : Box TStmt Global) (st turn : TStmt) (vals : Frame) (attrs : Attrs) → st ≡ s.For x a → turn ≡ a.value → trees.stmt st t vals attrs ≡ m.loop (trees.expr x t) (trees.stmt turn t) vals attrs
for_is t x a st turn vals attrs is f =
    ap (λ (x : TStmt). trees.stmt x t vals attrs) is ∙ ap (λ (f : Tables → Act). f t vals attrs) (forms.act-of-For _ trees.stmt_step x a) ∙ rw (← f) refl

pub return_is : (t : Tables) (o : Option TExpr) (st : TStmt) (vals : Frame) (attrs : Attrs) → st ≡ s.Return o → trees.stmt st t vals attrs ≡ trees.result o t vals attrs
return_is t o st vals attrs is =
    ap (λ (x : TStmt). trees.stmt x t vals attrs) is ∙ ap (λ (f : Tables → Act). f t vals attrs) (forms.act-of-Return _ trees.stmt_step o)

pub print_is : (t : Tables) (v : Vec TExpr Global) (st : TStmt) (es : List TExpr) (vals : Frame) (attrs : Attrs) → st ≡ s.Print v → es ≡ v.items → trees.stmt st t vals attrs ≡ and_then (trees.all_values (trees.exprs t es) vals attrs) (λ vs attrs. Done vals attrs)
print_is t v st es vals attrs is p =
    ap (λ (x : TStmt). trees.stmt x t vals attrs) is ∙ ap (λ (f : Tables → Act). f t vals attrs) (forms.act-of-Print _ trees.stmt_step v) ∙ rw (← p) refl

pub do_is : (t : Tables) (n : ℕ) (v : Vec TExpr Global) (st : TStmt) (es : List TExpr) (vals : Frame) (attrs : Attrs) → st ≡ s.Call n v → es ≡ v.items → trees.stmt st t vals attrs ≡ and_then (m.call (slice_get t.functions n) (trees.all_values (trees.exprs t es)) vals attrs) (λ given attrs. Done vals attrs)
do_is t n v st es vals attrs is p =
    ap (λ (x : TStmt). trees.stmt x t vals attrs) is ∙ ap (λ (f : Tables → Act). f t vals attrs) (forms.act-of-Call _ trees.stmt_step n v) ∙ rw (← p) refl

act-of-Nothing : (A : Type 0) (step : TStmt-F A → A) → fold-TStmt A step s.Nothing ≡ step TStmt-F.Nothing
act-of-Nothing A step = search (rules, stmt_lemmas)

pub nothing_acts : (x : TStmt) (t : Tables) → x ≡ s.Nothing → trees.stmt x t ≡ m.nothing
nothing_acts x t is = ap (λ (x : TStmt). trees.stmt x t) is ∙ ap (λ (f : Tables → Act). f t) (act-of-Nothing _ trees.stmt_step)

pub act-of-Unset : (A : Type 0) (step : TStmt-F A → A) (a : Attribute) → fold-TStmt A step (s.Unset a) ≡ step (TStmt-F.Unset a)
act-of-Unset A step a = search (rules, stmt_lemmas)

pub unset_acts : (a : Attribute) (x : TStmt) (t : Tables) → x ≡ (s.Unset a) → trees.stmt x t ≡ m.unset a
unset_acts a x t is = ap (λ (x : TStmt). trees.stmt x t) is ∙ ap (λ (f : Tables → Act). f t) (act-of-Unset _ trees.stmt_step a)

pub act-of-Accept : (A : Type 0) (step : TStmt-F A → A) → fold-TStmt A step s.Accept ≡ step TStmt-F.Accept
act-of-Accept A step = search (rules, stmt_lemmas)

pub accept_acts : (x : TStmt) (t : Tables) → x ≡ s.Accept → trees.stmt x t ≡ m.stop Accepted
accept_acts x t is = ap (λ (x : TStmt). trees.stmt x t) is ∙ ap (λ (f : Tables → Act). f t) (act-of-Accept _ trees.stmt_step)

pub act-of-Reject : (A : Type 0) (step : TStmt-F A → A) → fold-TStmt A step s.Reject ≡ step TStmt-F.Reject
act-of-Reject A step = search (rules, stmt_lemmas)

pub reject_acts : (x : TStmt) (t : Tables) → x ≡ s.Reject → trees.stmt x t ≡ m.stop Rejected
reject_acts x t is = ap (λ (x : TStmt). trees.stmt x t) is ∙ ap (λ (f : Tables → Act). f t) (act-of-Reject _ trees.stmt_step)
