use Rattle.conf_check.proofs.constants.constant.Goals as goal

pub returns-in-Name : goal.returns-in-Name
returns-in-Name c = rw c.in-Name.is c.named.ensures
