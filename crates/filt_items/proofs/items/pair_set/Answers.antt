use Rattle.std.proofs.Common.{List, Option, option_map, Result, Ok, ap, sym, ◌∙◌, Vec}
use Rattle.std.specs.Global.{Global}
use Rattle.filt_sets.specs.declared.pairs.PairItem.{PairItem}
use Rattle.filt_meaning.specs.declared.value.Failure.{Failure}
use Rattle.filt_meaning.specs.Operators.{and_then}
use Rattle.filt_meaning.specs.Values.{VPairSet}
use Rattle.filt_meaning.specs.Names.{there}
use Rattle.filt_items.proofs.items.pair_set.Goals as goal

pub returns-in-Some : goal.returns-in-Some
returns-in-Some c = λ around variables.
    ap (λ (xs : List PairItem). Ok (VPairSet xs)) c.make.ensures
    ∙ ap (λ (r : Result (List PairItem) Failure). and_then r (λ more. Ok (VPairSet more))) (ap (λ (o : Option (Vec PairItem Global)). there (option_map (λ v. v.items) o)) (sym c.in-Some.is) ∙ c.in_ok-all.ensures around variables)

pub returns-in-None : goal.returns-in-None
returns-in-None c = λ around variables.
    ap (λ (r : Result (List PairItem) Failure). and_then r (λ more. Ok (VPairSet more))) (ap (λ (o : Option (Vec PairItem Global)). there (option_map (λ v. v.items) o)) (sym c.in-None.is) ∙ c.in_ok-all.ensures around variables)
