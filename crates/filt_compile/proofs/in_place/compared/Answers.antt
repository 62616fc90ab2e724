use Rattle.std.proofs.Common.{◌≡◌, List, [], ◌∷◌, Option, subst, sym}
use Rattle.std.specs.Prelude.{IfSome}
use Rattle.std.specs.Borrow.{Bor}
use Rattle.filt_meaning.specs.declared.fixed.Fixed.{Fixed}
use Rattle.filt_meaning.specs.declared.tree.TExpr.{TExpr}
use Rattle.filt_code.specs.declared.instr.Effect.TheVariants as effects
use Rattle.filt_code.specs.declared.instr.Instr.{Instr}
use Rattle.filt_code.specs.declared.instr.Instr.TheVariants as instrs
use Rattle.filt_code.specs.declared.instr.Question.{Question}
use Rattle.filt_compile.specs.Emits.{IsBody}
use Rattle.filt_compile.proofs.in_place.compared.Goals as goal

known_right : (held right compare last : Instr) (known : Bor Fixed) (es : List TExpr) (found : Option Question) → right ≡ instrs.Do (effects.Push known) → IfSome found (λ q. IsBody (held ∷ instrs.Do (effects.Push known) ∷ compare ∷ last ∷ []) es q) → IfSome found (λ q. IsBody (held ∷ right ∷ compare ∷ last ∷ []) es q)
known_right held right compare last known es found is body =
    subst (λ (right : Instr). IfSome found (λ q. IsBody (held ∷ right ∷ compare ∷ last ∷ []) es q)) (sym is) body

pub returns-in-Some : goal.returns-in-Some
returns-in-Some c = known_right c.args.held.now c.args.right.now c.args.compare.now c.args.last.now c.in-Some.known c.args.es.now c.net_in.result c.in-Some.ensures (c.net_in.ensures c.args.es.now c.requires)
