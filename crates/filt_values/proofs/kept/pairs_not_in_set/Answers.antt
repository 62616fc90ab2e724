use Rattle.std.proofs.Common.{rules, ℕ, not, refl}
use Rattle.std.proofs.lemmas.Fn.{filter_same}
use Rattle.filt_meaning.specs.Members.{in_pairs}
use Rattle.filt_values.proofs.Filters.{clist_left, kept_is}
use Rattle.filt_values.proofs.kept.pairs_not_in_set.Goals as goal

pub from_vec-requires : goal.from_vec-requires
from_vec-requires c = clist_left (λ (q : ℕ × ℕ). not (in_pairs c.args.set.now q)) c.args.list c.retain.new.self.items (kept_is (λ (q : ℕ × ℕ). not (in_pairs c.args.set.now q)) _ _ _ _ refl (filter_same _ (λ (q : ℕ × ℕ). not (in_pairs c.args.set.now q)) _ (λ x b f' k. search rules) _ _ c.retain.ensures.filtered) c.into_vec-pairs.ensures.value) c.into_vec-pairs.ensures.is

pub returns : goal.returns
returns c = kept_is (λ (q : ℕ × ℕ). not (in_pairs c.args.set.now q)) _ _ _ _ c.from_vec.ensures (filter_same _ (λ (q : ℕ × ℕ). not (in_pairs c.args.set.now q)) _ (λ x b f' k. search rules) _ _ c.retain.ensures.filtered) c.into_vec-pairs.ensures.value
