use Rattle.std.proofs.Common.{rules, sym}
use Rattle.std.specs.Prelude.{nat_lt}
use Rattle.std.proofs.lemmas.Bool.{MatchBool-at_true, ltb-true}
use Rattle.std.proofs.lemmas.Fn.{always_returns_same}
use Rattle.filt_sets.specs.declared.ints.IntItem.{IntItem}
use Rattle.filt_sets.proofs.ints.rise.Goals as goal

pub returns : goal.returns
returns c = λ risen.
    let answer = MatchBool-at_true _ _ risen (c.is_sorted_by.ensures.cases (λ (a b : IntItem). nat_lt a.hi b.lo) (always_returns_same _ _ _ (λ a r q k. search rules))) in
    λ k d h. ltb-true _ _ (sym (answer k d h))
