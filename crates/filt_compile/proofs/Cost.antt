-- A number for each checked tree that is greater than those of its parts, so that a walk ends.
use Rattle.std.proofs.Common.{◌≡◌, ℕ, suc, zero, ◌+◌, ◌<◌, List, [], ◌∷◌, map, Option, Some, None, refl, sym, ap, ◌∙◌, arith, Box, Vec}
use Rattle.std.specs.Prelude.{slice_get}
use Rattle.std.specs.Global.{Global}
use Rattle.std.specs.Borrow.{Bor}
use Rattle.conf_ast.specs.declared.filters.CompareOp.{CompareOp}
use Rattle.conf_ast.specs.declared.filters.MulOp.{MulOp}
use Rattle.conf_ast.specs.declared.filters.LogicalOp.{LogicalOp}
use Rattle.conf_ast.specs.declared.filters.MethodKind.{MethodKind}
use Rattle.conf_ast.specs.declared.filters.AddOp.{AddOp}
use Rattle.filt_meaning.specs.declared.value.Sort.{Sort}
use Rattle.filt_meaning.specs.declared.tree.TAccess.{TAccess}
use Rattle.filt_meaning.specs.declared.tree.TAccess.TheVariants as accesses
use Rattle.filt_meaning.specs.declared.tree.TArm.{TArm}
use Rattle.filt_meaning.specs.declared.tree.TTarget.{TTarget}
use Rattle.filt_meaning.specs.declared.tree.TExpr.{TExpr, fold-TExpr}
use Rattle.filt_meaning.specs.declared.tree.TExpr.TheVariants as e
use Rattle.filt_meaning.specs.declared.tree.TExpr.TheOpen.{TExpr-F}
use Rattle.filt_meaning.specs.declared.tree.TStmt.{TStmt, fold-TStmt}
use Rattle.filt_meaning.specs.declared.tree.TStmt.TheVariants as s
use Rattle.filt_meaning.specs.declared.tree.TStmt.TheOpen.{TStmt-F}
use Rattle.filt_code.specs.declared.instr.OfTwo.TheVariants as of_two
use Rattle.filt_compile.specs.Parts.{Part, One, Two, Joined, part_of_access}
use Rattle.filt_meaning.proofs.Forms.{by_parts}
use Rattle.filt_meaning.proofs.Forms as forms
use Rattle.filt_meaning.proofs.Size.{all}

abbrev access_step : TAccess ℕ → ℕ
access_step (accesses.Property p) = 0
access_step (accesses.Method kind n) = n

abbrev expr_step : TExpr-F ℕ → ℕ
expr_step (TExpr-F.Call n args) = 9 + all args.items
expr_step (TExpr-F.Pair a b) = 20 + a.value + b.value
expr_step (TExpr-F.Method kind a b) = 20 + a.value + b.value
expr_step (TExpr-F.Empty a) = 20 + a.value
expr_step (TExpr-F.Access a more) = 9 + a.value + all (map access_step more.items)
expr_step (TExpr-F.Not a) = 20 + a.value
expr_step (TExpr-F.Product a more) = 9 + a.value + all (map (λ x. x.1) more.items)
expr_step (TExpr-F.Sum a more) = 9 + a.value + all (map (λ x. x.1) more.items)
expr_step (TExpr-F.Compare op a b) = 20 + a.value + b.value
expr_step (TExpr-F.Joint a more) = 9 + a.value + all (map (λ x. x.1) more.items)
expr_step _ = 9

abbrev pub cost : TExpr → ℕ
cost = fold-TExpr ℕ expr_step

abbrev pub costs : List TExpr → ℕ
costs es = all (map cost es)

-- of an operator and its right operand
abbrev pub part_cost : Part → ℕ
part_cost (One op) = 0
part_cost (Two op e) = cost e
part_cost (Joined joint e) = cost e

abbrev pub parts_cost : List Part → ℕ
parts_cost parts = all (map part_cost parts)

abbrev pub given_cost : Option TExpr → ℕ
given_cost None = 0
given_cost (Some e) = cost e

abbrev arm_step : TArm ℕ → ℕ
arm_step a = all a.body.items

abbrev stmt_step : TStmt-F ℕ → ℕ
stmt_step (TStmt-F.Block sorts body) = 9 + all body.items
stmt_step (TStmt-F.Assign target e) = 9 + cost e
stmt_step (TStmt-F.If e s) = 9 + cost e + s.value
stmt_step (TStmt-F.IfElse e s u) = 9 + cost e + s.value + u.value
stmt_step (TStmt-F.Case e as_arms otherwise) = 9 + cost e + all (map arm_step as_arms.items) + all otherwise.items
stmt_step (TStmt-F.For e body) = 9 + cost e + body.value
stmt_step (TStmt-F.Return e) = 9 + given_cost e
stmt_step (TStmt-F.Print es) = 9 + costs es.items
stmt_step (TStmt-F.Call n args) = 9 + costs args.items
stmt_step _ = 9

abbrev pub act_cost : TStmt → ℕ
act_cost = fold-TStmt ℕ stmt_step

abbrev pub body_cost : List TStmt → ℕ
body_cost ss = all (map act_cost ss)

abbrev pub arms_cost : List (TArm TStmt) → ℕ
arms_cost as_arms = all (map (λ a. body_cost a.body.items) as_arms)

abbrev pub other_cost : Option (Bor TStmt) → ℕ
other_cost None = 0
other_cost (Some s) = act_cost s.now

access_same : (f : TAccess TExpr → TAccess ℕ) → ((a : TAccess TExpr) → access_step (f a) ≡ part_cost (part_of_access a)) → (xs : List (TAccess TExpr)) → map access_step (map f xs) ≡ map part_cost (map part_of_access xs)
access_same f same xs = by_parts access_step f (λ a. part_cost (part_of_access a)) same xs ∙ sym (by_parts part_cost part_of_access (λ a. part_cost (part_of_access a)) (λ a. refl) xs)

pub cost-Call : (n : ℕ) (v : Vec TExpr Global) → cost (e.Call n v) ≡ 9 + costs v.items
cost-Call n v = forms.of-Call ℕ expr_step n v

pub cost-Pair : (a : Box TExpr Global) (b : Box TExpr Global) → cost (e.Pair a b) ≡ 20 + cost a.value + cost b.value
cost-Pair a b = forms.of-Pair ℕ expr_step a b

pub cost-Method : (kind : MethodKind) (a : Box TExpr Global) (b : Box TExpr Global) → cost (e.Method kind a b) ≡ 20 + cost a.value + cost b.value
cost-Method kind a b = forms.of-Method ℕ expr_step kind a b

pub cost-Empty : (a : Box TExpr Global) → cost (e.Empty a) ≡ 20 + cost a.value
cost-Empty a = forms.of-Empty ℕ expr_step a

pub cost-Access : (a : Box TExpr Global) (v : Vec (TAccess TExpr) Global) → cost (e.Access a v) ≡ 9 + cost a.value + parts_cost (map part_of_access v.items)
cost-Access a v = forms.of-Access ℕ expr_step a v ∙ ap (λ (ns : List ℕ). 9 + cost a.value + all ns) (forms.by_accesses {A = TExpr} {B = ℕ} access_step _ (λ a. part_cost (part_of_access a)) (λ p. refl) (λ kind x. refl) v.items ∙ sym (by_parts part_cost part_of_access (λ a. part_cost (part_of_access a)) (λ a. refl) v.items))

pub cost-Not : (a : Box TExpr Global) → cost (e.Not a) ≡ 20 + cost a.value
cost-Not a = forms.of-Not ℕ expr_step a

pub cost-Product : (a : Box TExpr Global) (v : Vec (MulOp × TExpr) Global) → cost (e.Product a v) ≡ 9 + cost a.value + parts_cost (map (λ x. Two (of_two.Factor x.0) x.1) v.items)
cost-Product a v = forms.of-Product ℕ expr_step a v ∙ ap (λ (ns : List ℕ). 9 + cost a.value + all ns) (by_parts {B = MulOp × ℕ} (λ x. x.1) (λ x. (x.0, cost x.1)) (λ x. cost x.1) (λ x. refl) v.items ∙ sym (by_parts part_cost (λ (x : MulOp × TExpr). Two (of_two.Factor x.0) x.1) (λ x. cost x.1) (λ x. refl) v.items))

pub cost-Sum : (a : Box TExpr Global) (v : Vec (AddOp × TExpr) Global) → cost (e.Sum a v) ≡ 9 + cost a.value + parts_cost (map (λ x. Two (of_two.Term x.0) x.1) v.items)
cost-Sum a v = forms.of-Sum ℕ expr_step a v ∙ ap (λ (ns : List ℕ). 9 + cost a.value + all ns) (by_parts {B = AddOp × ℕ} (λ x. x.1) (λ x. (x.0, cost x.1)) (λ x. cost x.1) (λ x. refl) v.items ∙ sym (by_parts part_cost (λ (x : AddOp × TExpr). Two (of_two.Term x.0) x.1) (λ x. cost x.1) (λ x. refl) v.items))

pub cost-Compare : (compare : CompareOp) (a : Box TExpr Global) (b : Box TExpr Global) → cost (e.Compare compare a b) ≡ 20 + cost a.value + cost b.value
cost-Compare compare a b = forms.of-Compare ℕ expr_step compare a b

pub cost-Joint : (a : Box TExpr Global) (v : Vec (LogicalOp × TExpr) Global) → cost (e.Joint a v) ≡ 9 + cost a.value + parts_cost (map (λ x. Joined x.0 x.1) v.items)
cost-Joint a v = forms.of-Joint ℕ expr_step a v ∙ ap (λ (ns : List ℕ). 9 + cost a.value + all ns) (by_parts {B = LogicalOp × ℕ} (λ x. x.1) (λ x. (x.0, cost x.1)) (λ x. cost x.1) (λ x. refl) v.items ∙ sym (by_parts part_cost (λ (x : LogicalOp × TExpr). Joined x.0 x.1) (λ x. cost x.1) (λ x. refl) v.items))

-- of what is joined, each with its operator
abbrev pub joints_cost : List (LogicalOp × TExpr) → ℕ
joints_cost more = all (map (λ x. cost x.1) more)

pub cost-joined : (a : Box TExpr Global) (v : Vec (LogicalOp × TExpr) Global) → cost (e.Joint a v) ≡ 9 + cost a.value + joints_cost v.items
cost-joined a v = forms.of-Joint ℕ expr_step a v ∙ ap (λ (ns : List ℕ). 9 + cost a.value + all ns) (by_parts {B = LogicalOp × ℕ} (λ x. x.1) (λ x. (x.0, cost x.1)) (λ x. cost x.1) (λ x. refl) v.items)

pub act-cost-Block : (sorts : Vec Sort Global) (v : Vec TStmt Global) → act_cost (s.Block sorts v) ≡ 9 + body_cost v.items
act-cost-Block sorts v = forms.act-of-Block ℕ stmt_step sorts v

pub act-cost-Assign : (target : TTarget) (x : TExpr) → act_cost (s.Assign target x) ≡ 9 + cost x
act-cost-Assign target x = forms.act-of-Assign ℕ stmt_step target x

pub act-cost-If : (x : TExpr) (a : Box TStmt Global) → act_cost (s.If x a) ≡ 9 + cost x + act_cost a.value
act-cost-If x a = forms.act-of-If ℕ stmt_step x a

pub act-cost-IfElse : (x : TExpr) (a : Box TStmt Global) (b : Box TStmt Global) → act_cost (s.IfElse x a b) ≡ 9 + cost x + act_cost a.value + act_cost b.value
act-cost-IfElse x a b = forms.act-of-IfElse ℕ stmt_step x a b

pub act-cost-Case : (x : TExpr) (v : Vec (TArm TStmt) Global) (o : Vec TStmt Global) → act_cost (s.Case x v o) ≡ 9 + cost x + arms_cost v.items + body_cost o.items
act-cost-Case x v o = forms.act-of-Case ℕ stmt_step x v o ∙ ap (λ (ns : List ℕ). 9 + cost x + all ns + body_cost o.items) (by_parts {B = TArm ℕ} arm_step _ (λ a. body_cost a.body.items) (λ a. refl) v.items)

pub act-cost-For : (x : TExpr) (a : Box TStmt Global) → act_cost (s.For x a) ≡ 9 + cost x + act_cost a.value
act-cost-For x a = forms.act-of-For ℕ stmt_step x a

pub act-cost-Return : (o : Option TExpr) → act_cost (s.Return o) ≡ 9 + given_cost o
act-cost-Return o = forms.act-of-Return ℕ stmt_step o

pub act-cost-Print : (v : Vec TExpr Global) → act_cost (s.Print v) ≡ 9 + costs v.items
act-cost-Print v = forms.act-of-Print ℕ stmt_step v

pub act-cost-Call : (n : ℕ) (v : Vec TExpr Global) → act_cost (s.Call n v) ≡ 9 + costs v.items
act-cost-Call n v = forms.act-of-Call ℕ stmt_step n v

pub got_below : {A : Type 0} (f : A → ℕ) (xs : List A) (i : ℕ) (x : A) → slice_get xs i ≡ Some x → f x + 8 < all (map f xs)
got_below f [] i x is = absurd (cc)
got_below f (y ∷ ys) zero x is = let e : f y ≡ f x = ap f (cc) in omega arith
got_below f (y ∷ ys) (suc i) x is = let h : f x + 8 < all (map f ys) = got_below f ys i x is in omega arith
