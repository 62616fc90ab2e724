use Rattle.std.proofs.Common.{rules, sym}
use Rattle.std.specs.Prelude.{not}
use Rattle.std.proofs.lemmas.Bool.{MatchBool-at_true, not-true}
use Rattle.std.proofs.lemmas.Fn.{always_returns_same}
use Rattle.bits_ip.specs.Prefix.{precedes}
use Rattle.filt_sets.specs.declared.prefixes.PrefixItem.{PrefixItem}
use Rattle.filt_sets.proofs.prefixes.rise.Goals as goal

pub returns : goal.returns
returns c = λ risen.
    let answer = MatchBool-at_true _ _ risen (c.is_sorted_by.ensures.cases (λ (a b : PrefixItem). not (precedes b.net a.net)) (always_returns_same _ _ _ (λ a r q k. search rules))) in
    λ k d low h. not-true _ (sym (answer k d h))
