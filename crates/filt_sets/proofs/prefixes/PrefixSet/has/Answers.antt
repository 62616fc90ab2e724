use Rattle.std.proofs.Common.{◌↔◌, IsTrue, List, subst}
use Rattle.std.specs.Prelude.{Any}
use Rattle.filt_sets.specs.declared.prefixes.PrefixItem.{PrefixItem}
use Rattle.filt_sets.specs.Sets.{TakesNet}
use Rattle.filt_sets.proofs.Given.{any_given}
use Rattle.filt_sets.proofs.prefixes.PrefixSet.has.Goals as goal

pub returns : goal.returns
returns c =
    let found = subst (λ (items : List PrefixItem). IsTrue c.has_net.result ↔ Any (λ item. TakesNet item c.args.net.now) items) c.deref.ensures.value c.has_net.ensures in
    subst (λ (given : List PrefixItem). IsTrue c.has_net.result ↔ Any (λ item. TakesNet item c.args.net.now) given) c.self.view_is
    (any_given (λ (item : PrefixItem). TakesNet item c.args.net.now) _ c.self.inside.items.items c.self.invariant.permutation found)
