-- Laws of selection.
use Rattle.std.proofs.Common.{◌≡◌, ◌≢◌, false, ⊎_elim, IsTrue, sym, ◌∙◌}
use Rattle.std.proofs.lemmas.Bool.{true≢false}
use Rattle.attrs.specs.declared.route.Route.{Route}
use Rattle.attrs.specs.Selection.{before}
use Rattle.attrs.proofs.Rows.{before_chain, before_either}

pub before-trans : (a b c : Route) → IsTrue (before a b) → IsTrue (before b c) → IsTrue (before a c)
before-trans = before_chain

pub before-total : (a b : Route) → a.src.num ≢ b.src.num → before a b ≡ false → IsTrue (before b a)
before-total a b differ h = ⊎_elim (λ e. absurd (true≢false (sym e ∙ h))) (λ e. e) (before_either a b differ)
