-- A number for each statement that is greater than those of the statements in it.
use Rattle.std.proofs.Common.{◌≡◌, ℕ, suc, zero, ◌+◌, ◌<◌, List, [], ◌∷◌, map, length, refl, ap, ◌∙◌, arith, Vec}
use Rattle.std.proofs.Math.ListN.{get_or}
use Rattle.std.specs.Global.{Global}
use Rattle.filt_meaning.specs.declared.tree.TArm.{TArm}
use Rattle.filt_meaning.specs.declared.tree.TExpr.{TExpr}
use Rattle.filt_meaning.specs.declared.tree.TStmt.{TStmt, fold-TStmt}
use Rattle.filt_meaning.specs.declared.tree.TStmt.TheVariants as s
use Rattle.filt_meaning.specs.declared.tree.TStmt.TheOpen.{TStmt-F}
use Rattle.filt_meaning.proofs.Forms.{by_parts}
use Rattle.filt_meaning.proofs.Forms as forms

abbrev pub all : List ℕ → ℕ
all [] = 0
all (n ∷ ns) = 9 + n + all ns

abbrev arm_step : TArm ℕ → ℕ
arm_step a = all a.body.items

abbrev stmt_step : TStmt-F ℕ → ℕ
stmt_step (TStmt-F.Block sorts body) = 9 + all body.items
stmt_step (TStmt-F.If e s) = 9 + s.value
stmt_step (TStmt-F.IfElse e s u) = 9 + s.value + u.value
stmt_step (TStmt-F.Case e as_arms otherwise) = 9 + all (map arm_step as_arms.items) + all otherwise.items
stmt_step (TStmt-F.For e body) = 9 + body.value
stmt_step _ = 9

abbrev pub stmt_size : TStmt → ℕ
stmt_size = fold-TStmt ℕ stmt_step

abbrev pub body_size : List TStmt → ℕ
body_size ss = all (map stmt_size ss)

abbrev pub arm_size : TArm TStmt → ℕ
arm_size a = body_size a.body.items

abbrev pub arms_size : List (TArm TStmt) → ℕ
arms_size as_arms = all (map arm_size as_arms)

pub size-Case : (x : TExpr) (v : Vec (TArm TStmt) Global) (o : Vec TStmt Global) → stmt_size (s.Case x v o) ≡ 9 + arms_size v.items + body_size o.items
size-Case x v o = forms.act-of-Case ℕ stmt_step x v o ∙ ap (λ (ns : List ℕ). 9 + all ns + body_size o.items) (by_parts {B = TArm ℕ} arm_step _ arm_size (λ a. refl) v.items)

-- an item is smaller than its list
pub item_below : {A : Type 0} (f : A → ℕ) (xs : List A) (i : ℕ) (x : A) → i < length xs → x ≡ get_or xs i x → f x + 8 < all (map f xs)
item_below f [] i x lt is = absurd (omega arith)
item_below f (y ∷ ys) zero x lt is = rw is (omega arith)
item_below f (y ∷ ys) (suc i) x lt is = let h : f x + 8 < all (map f ys) = item_below f ys i x (omega arith) is in omega arith
