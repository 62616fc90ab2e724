use Rattle.script_lines.proofs.WhatIs.{script_names, script_actors, script_asks}
use Rattle.script_lines.proofs.laws.a_script_names_what_is.Goals as goal

pub returns-clause-lines : goal.returns-clause-lines
returns-clause-lines c = script_names

pub returns-clause-actors : goal.returns-clause-actors
returns-clause-actors c = script_actors

pub returns-clause-queries : goal.returns-clause-queries
returns-clause-queries c = script_asks
