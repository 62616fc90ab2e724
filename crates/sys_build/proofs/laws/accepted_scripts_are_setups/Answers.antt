use Rattle.sys_build.proofs.Playable.{playable}
use Rattle.sys_build.proofs.laws.accepted_scripts_are_setups.Goals as goal

pub returns : goal.returns
returns c =
    playable c.joined_tables_are_those_that_pipes_lead_between.ensures.itself c.channels_have_their_tables.ensures
    c.pipes_form_a_forest.ensures c.a_script_names_what_is.ensures.queries
