-- Comparisons that are tests.
use Rattle.std.proofs.Common.{◌≡◌, List, sym, ap, ◌∙◌, Box, Vec}
use Rattle.std.specs.Global.{Global}
use Rattle.conf_ast.specs.declared.filters.CompareOp.{CompareOp}
use Rattle.filt_meaning.specs.Values.{Val}
use Rattle.filt_meaning.specs.Flow.{Run}
use Rattle.filt_meaning.specs.Meaning.{on_two, compare_of}
use Rattle.filt_meaning.specs.declared.tree.TAccess.{TAccess}
use Rattle.filt_meaning.specs.declared.tree.TExpr.{TExpr}
use Rattle.filt_meaning.specs.declared.tree.TExpr.TheVariants as te
use Rattle.filt_meaning.specs.Trees as trees
use Rattle.filt_meaning.specs.Trees.{Tables, expr}
use Rattle.filt_resolve.proofs.Forms as f

-- both sides of a comparison by what they are
pub on_both : (op : CompareOp) (a b u v : Run Val) → a ≡ u → b ≡ v → on_two a b (compare_of op) ≡ on_two u v (compare_of op)
on_both op a b u v p q = ap (λ (r : Run Val). on_two r b (compare_of op)) p ∙ ap (λ (r : Run Val). on_two u r (compare_of op)) q

pub access_is : (t : Tables) (b : Box TExpr Global) (v : Vec (TAccess TExpr) Global) (x of : TExpr) (more : List (TAccess TExpr)) → x ≡ te.Access b v → of ≡ b.value → more ≡ v.items → expr x t ≡ trees.accessed (expr of t) (trees.accesses_of t more)
access_is t b v x of more is o m = ap (λ (x : TExpr). expr x t) is ∙ f.expr-Access b v t ∙ ap (λ (y : TExpr). trees.accessed (expr y t) (trees.accesses_of t v.items)) (sym o) ∙ ap (λ (l : List (TAccess TExpr)). trees.accessed (expr of t) (trees.accesses_of t l)) (sym m)
