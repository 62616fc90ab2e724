use Rattle.std.proofs.Common.{◌↔◌, IsTrue, List, subst}
use Rattle.std.specs.Prelude.{Any}
use Rattle.filt_sets.specs.declared.ints.IntItem.{IntItem}
use Rattle.filt_sets.specs.Sets.{TakesInt}
use Rattle.filt_sets.proofs.Given.{any_given}
use Rattle.filt_sets.proofs.ints.IntSet.has.Goals as goal

pub returns : goal.returns
returns c =
    let found = subst (λ (items : List IntItem). IsTrue c.has_int.result ↔ Any (λ item. TakesInt item c.args.number) items) c.deref.ensures.value c.has_int.ensures in
    subst (λ (given : List IntItem). IsTrue c.has_int.result ↔ Any (λ item. TakesInt item c.args.number) given) c.self.view_is
    (any_given (λ (item : IntItem). TakesInt item c.args.number) _ c.self.inside.items.items c.self.invariant.permutation found)
