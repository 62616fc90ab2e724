use Rattle.sys_build.specs.Names.{named_of}
use Rattle.sys_build.proofs.laws.accepted_scripts_name_what_is.Goals as goal

pub returns-clause-lines : goal.returns-clause-lines
returns-clause-lines c = λ system schedule text phases actors queries filters is.
    c.a_script_names_what_is.ensures.lines (named_of system schedule) text phases actors queries is.conditions is.lines_are

pub returns-clause-actors : goal.returns-clause-actors
returns-clause-actors c = λ system schedule text phases actors queries filters is.
    c.a_script_names_what_is.ensures.actors (named_of system schedule) text phases actors queries is.conditions is.lines_are
