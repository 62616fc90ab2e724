use Rattle.sys_build.specs.Setups.{setup_of}
use Rattle.sys_build.proofs.Bridging.{all_bridges}
use Rattle.sys_build.proofs.laws.pipes_keep_their_own.Goals as goal

pub returns : goal.returns
returns c = λ conf text system schedule phases actors queries filters cells number p d e num is script there belong.
    c.bridges_keep_their_own.ensures (setup_of system cells filters queries) number p d e num (c.accepted_scripts_are_setups.ensures conf text system schedule phases actors queries filters cells is script) there
    (all_bridges c.pipes_of_a_forest_are_bridges.ensures system cells filters queries (c.pipes_form_a_forest.ensures conf system is) number p there) belong
