use Rattle.filt_values.proofs.Meanings.{some_number, some_pair, mask_matches}
use Rattle.filt_values.proofs.laws.lists_are_matched.Goals as goal

pub returns-clause-some_number : goal.returns-clause-some_number
returns-clause-some_number c = some_number

pub returns-clause-some_pair : goal.returns-clause-some_pair
returns-clause-some_pair c = some_pair

pub returns-clause-mask_matches : goal.returns-clause-mask_matches
returns-clause-mask_matches c = mask_matches
