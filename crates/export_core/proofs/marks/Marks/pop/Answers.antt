use Rattle.std.proofs.Common.{◌∙◌, ap, subst}
use Rattle.std.specs.Map.{keys_of}
use Rattle.export_core.specs.Marks.{IsOnce, Listed, find}
use Rattle.export_core.proofs.TwoMaps.{are_left, gone_first, rest_live}
use Rattle.export_core.proofs.marks.Marks.pop.Goals as goal

pub invariant_of-self : goal.invariant_of-self
invariant_of-self c =
    let turned = c.turn-from.ensures in
    let left = c.leave-self-inside.ensures in
    are_left c.turn-from.result c.leave-self-inside.result c.turn-from.new.leaving.entries c.leave-self-inside.new.leaving.entries c.turn-from.new.coming.entries turned.are turned.ahead left.rest left.keys
    left.within

pub returns-clause-rest : goal.returns-clause-rest
returns-clause-rest c =
    let turned = c.turn-from.ensures in
    rest_live c.turn-from.result c.leave-self-inside.result c.turn-from.new.leaving.entries c.leave-self-inside.new.leaving.entries c.turn-from.new.coming.entries c.args.self.now (turned.same ∙ c.self.view_is)
    turned.are.within turned.ahead c.leave-self-inside.ensures.rest

pub returns-clause-gone : goal.returns-clause-gone
returns-clause-gone c = λ k first q.
    ap (find q) (returns-clause-rest c)
    ∙ gone_first c.args.self.now (subst (λ (l : Listed). IsOnce (keys_of l)) c.self.view_is c.self.invariant.once) k first q
