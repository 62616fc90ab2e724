use Rattle.std.proofs.Common.{map}
use Rattle.sys_run.specs.Scripts.{phase_of}
use Rattle.top_laws.proofs.Legal.{is_setup}
use Rattle.top_laws.proofs.reports.phases_come_to_one_report.Goals as goal

pub returns : goal.returns
returns c = λ command held setup actors phases reports others possible played again.
    c.reports_are_determined.ensures setup actors (map (phase_of setup.queries) phases) reports others (is_setup c.accepted_scripts_are_setups.ensures command held setup actors phases possible) played again
