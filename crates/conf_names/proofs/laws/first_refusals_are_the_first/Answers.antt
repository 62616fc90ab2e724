use Rattle.conf_names.proofs.Firsts.{none_found, found_among, found_before, found_only}
use Rattle.conf_names.proofs.laws.first_refusals_are_the_first.Goals as goal

pub returns-clause-accepted : goal.returns-clause-accepted
returns-clause-accepted c rs none = none_found rs none

pub returns-clause-among : goal.returns-clause-among
returns-clause-among c rs r found = found_among rs r found

pub returns-clause-before : goal.returns-clause-before
returns-clause-before c rs r found = found_before rs r found

pub returns-clause-only : goal.returns-clause-only
returns-clause-only c rs r among before = found_only rs r among before
