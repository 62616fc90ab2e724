use Rattle.conf_check.proofs.Growing.{no_joint_known}
use Rattle.conf_check.proofs.declare.declare_joint.Goals as goal

pub returns-in-None-clause-known : goal.returns-in-None-clause-known
returns-in-None-clause-known c = λ text. rw c.in-None.is (no_joint_known text c.args.declared.now)
