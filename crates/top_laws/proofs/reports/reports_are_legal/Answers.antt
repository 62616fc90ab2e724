use Rattle.std.proofs.Common.{map}
use Rattle.sys_run.specs.Scripts.{phase_of}
use Rattle.top_laws.proofs.Legal.{are_legal}
use Rattle.top_laws.proofs.reports.reports_are_legal.Goals as goal

pub returns : goal.returns
returns c =
    are_legal c.accepted_scripts_are_setups.ensures
    (λ setup actors phases reports. c.plays_are_legal.ensures setup actors (map (phase_of setup.queries) phases) reports)
