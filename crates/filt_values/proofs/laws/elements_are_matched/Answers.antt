use Rattle.filt_values.proofs.Meanings.{int_in_set, pair_in_set, net_in_set, net_within, ip_within, int_in_path, pair_in_list}
use Rattle.filt_values.proofs.laws.elements_are_matched.Goals as goal

pub returns-clause-int_in_set : goal.returns-clause-int_in_set
returns-clause-int_in_set c = int_in_set

pub returns-clause-pair_in_set : goal.returns-clause-pair_in_set
returns-clause-pair_in_set c = pair_in_set

pub returns-clause-net_in_set : goal.returns-clause-net_in_set
returns-clause-net_in_set c = net_in_set

pub returns-clause-net_within : goal.returns-clause-net_within
returns-clause-net_within c = net_within

pub returns-clause-ip_within : goal.returns-clause-ip_within
returns-clause-ip_within c = ip_within

pub returns-clause-int_in_path : goal.returns-clause-int_in_path
returns-clause-int_in_path c = int_in_path

pub returns-clause-pair_in_list : goal.returns-clause-pair_in_list
returns-clause-pair_in_list c = pair_in_list
