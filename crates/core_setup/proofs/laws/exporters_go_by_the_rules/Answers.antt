use Rattle.core_setup.proofs.Passed.{spec_is, value_is}
use Rattle.core_setup.proofs.SetupRules.{setup_ways}
use Rattle.core_setup.proofs.laws.exporters_go_by_the_rules.Goals as goal

pub returns : goal.returns
returns c = λ setup n channel is there.
    let ways = setup_ways c.levels_give_ways.ensures setup is in
    (spec_is setup is ways n channel there, value_is setup is ways n channel there)
