use Rattle.conf_lex.proofs.PartShapes.{gives_along}
use Rattle.conf_tree.specs.View.{policy_tree}
use Rattle.conf_tree.proofs.PolicySteps.{policy_all, policy_none, policy_where}
use Rattle.conf_tree.proofs.policy.policy.Goals as goal

pub returns-in-Some : goal.returns-in-Some
returns-in-Some c =
    policy_all c.args.depth_left c.args.words.now c.in-Some.rest.now c.in-Some.ensures

pub returns-in-Some-after : goal.returns-in-Some-after
returns-in-Some-after c =
    policy_none c.args.depth_left c.args.words.now c.in-Some-after.rest.now c.in-Some-after.ensures

pub returns-in-None : goal.returns-in-None
returns-in-None c =
    gives_along policy_tree _ _ _ (policy_where c.args.depth_left c.args.words.now c.in_default.ensures c.in_default-after.ensures c.in-None.ensures) c.where_policy.ensures
