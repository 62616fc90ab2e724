use Rattle.std.proofs.Common.{rules, ℕ, not}
use Rattle.std.proofs.lemmas.Fn.{filter_same}
use Rattle.filt_meaning.specs.Members.{in_ints}
use Rattle.filt_values.proofs.Filters.{kept_is}
use Rattle.filt_values.proofs.kept.numbers_not_in_set.Goals as goal

pub returns : goal.returns
returns c = kept_is (λ (m : ℕ). not (in_ints c.args.set.now m)) _ _ _ _ c.from_vec.ensures (filter_same _ (λ (m : ℕ). not (in_ints c.args.set.now m)) _ (λ x b f' k. search rules) _ _ c.retain.ensures.filtered) c.into_vec-numbers.ensures
