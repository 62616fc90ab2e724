use Rattle.std.proofs.Common.{length}
use Rattle.sys_build.specs.Names.{named_of}
use Rattle.sys_build.specs.Setups.{setup_of}
use Rattle.sys_build.proofs.Announcing.{lines_fit}
use Rattle.sys_build.proofs.laws.accepted_scripts_fit_their_tables.Goals as goal

pub returns : goal.returns
returns c = λ conf text system schedule phases actors queries filters cells is script.
    lines_fit (named_of system schedule) (setup_of system cells filters queries) (c.kinds_are_those_of_the_setup.ensures conf system is schedule cells filters queries) actors (length queries) phases
    (c.accepted_scripts_name_what_is.ensures.lines system schedule text phases actors queries filters script)
