use Rattle.std.proofs.Common.{arith}
use Rattle.std.proofs.lemmas.Bool.Decides.{nat_tests}
use Rattle.attrs.proofs.Distinct.{IsClist_push}
use Rattle.attrs.proofs.clist.Clist.add.Goals as goal

pub returns-then-contains-clause-new : goal.returns-then-contains-clause-new
returns-then-contains-clause-new c = λ new. cc

pub returns-then-contains-clause-long : goal.returns-then-contains-clause-long
returns-then-contains-clause-long c = (λ long. cc, λ new. cc)

pub invariant_of-self-2 : goal.invariant_of-self-2
invariant_of-self-2 c =
    IsClist_push c.self.inside.pairs.items _ (c.args.system, c.args.value) c.in_ok-push.ensures.items c.self.invariant (cc) (grind (arith, nat_tests))
