use Rattle.conf_ast.specs.Configurations.{configuration_of}
use Rattle.conf_places.specs.Words.{IsTokenPlace}
use Rattle.conf_places.proofs.Firsts.{first_of_all}
use Rattle.conf_places.proofs.Order.{in_order}
use Rattle.conf_places.proofs.Refused.{holds_of_it, stands_in_one}
use Rattle.conf_places.proofs.Texts.{at_tokens, within}
use Rattle.conf_places.proofs.laws.refusals_of_configurations_are_the_first.Goals as goal

pub returns-clause-statement : goal.returns-clause-statement
returns-clause-statement c = stands_in_one c.first_refusals_are_the_first.ensures.among

pub returns-clause-token : goal.returns-clause-token
returns-clause-token c text ss known r h found =
    holds_of_it c.first_refusals_are_the_first.ensures.among (IsTokenPlace text) known (configuration_of ss) r (at_tokens text ss h) found

pub returns-clause-byte : goal.returns-clause-byte
returns-clause-byte c text ss known r h found =
    within c.tokens_are_slices.ensures text r.at
    (holds_of_it c.first_refusals_are_the_first.ensures.among (IsTokenPlace text) known (configuration_of ss) r (at_tokens text ss h) found)

pub returns-clause-first : goal.returns-clause-first
returns-clause-first c text ss known h =
    let firsts = c.first_refusals_are_the_first.ensures in
    first_of_all firsts.accepted firsts.among firsts.before firsts.only known (configuration_of ss)
    (in_order c.tokens_are_slices.ensures c.tokens_rise.ensures text ss h)
