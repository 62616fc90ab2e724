use Rattle.std.proofs.Common.{◌∙◌, sym}
use Rattle.std.proofs.lemmas.Bool.{false≢true}
use Rattle.std.proofs.lemmas.Result.{on_ok_weaker}
use Rattle.import_core.proofs.Noting.{noted_other, noted_same}
use Rattle.import_core.proofs.nets.note.Goals as goal

pub returns-then-same_of_route : goal.returns-then-same_of_route
returns-then-same_of_route c = noted_same c.args.num c.args.net.now _ _ _ (c.same_of_route.ensures.0 c.if-same_of_route.true)

pub returns : goal.returns
returns c =
    on_ok_weaker c.push.result
    (λ pushed. noted_other c.args.num c.args.net.now _ _ _ _ _ (λ same. absurd (false≢true (sym c.if-same_of_route.false ∙ c.same_of_route.ensures.1 same))) c.in_ok-new.ensures pushed)
    c.push.ensures.pushed
