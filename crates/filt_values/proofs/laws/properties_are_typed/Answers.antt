use Rattle.filt_values.proofs.Typed.{len_takes, first_takes, last_takes, ip_takes}
use Rattle.filt_values.proofs.laws.properties_are_typed.Goals as goal

pub returns-clause-len : goal.returns-clause-len
returns-clause-len c = len_takes

pub returns-clause-first : goal.returns-clause-first
returns-clause-first c = first_takes

pub returns-clause-last : goal.returns-clause-last
returns-clause-last c = last_takes

pub returns-clause-ip : goal.returns-clause-ip
returns-clause-ip c = ip_takes
