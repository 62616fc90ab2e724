use Rattle.std.proofs.Common.{◌≡◌, ℕ, List, Option, Some, None}
use Rattle.std.specs.Prelude.{slice_get, IfSome}
use Rattle.filt_meaning.specs.Values.{VInt}
use Rattle.filt_meaning.specs.declared.tree.TExpr.{TExpr}
use Rattle.filt_compile.specs.Emits.{IsAlways, IsIntAt}
use Rattle.filt_compile.proofs.Walk as w
use Rattle.filt_compile.proofs.in_place.number.Goals as goal

int_at : (es : List TExpr) (place : ℕ) (x : TExpr) (found : Option ℕ) → slice_get es place ≡ Some x → IfSome found (λ n. IsAlways x (VInt n)) → IfSome found (λ n. IsIntAt es place n)
int_at es place x None at is = tt
int_at es place x (Some n) at is = (x, at, is)

pub returns-in-Some : goal.returns-in-Some
returns-in-Some c = int_at c.args.es.now c.args.place c.in-Some.e.now c.int.result (w.found_at c.args.es.now c.args.place c.in-Some.e.now c.in-Some.ensures.lookup.3.0 c.in-Some.ensures.lookup.1) c.int.ensures
