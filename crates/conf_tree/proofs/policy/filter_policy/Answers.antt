use Rattle.conf_lex.proofs.PartShapes.{gives_along}
use Rattle.conf_tree.specs.View.{policy_tree}
use Rattle.conf_tree.proofs.PolicySteps.{policy_named, policy_block}
use Rattle.conf_tree.proofs.policy.filter_policy.Goals as goal

pub returns-in-Some : goal.returns-in-Some
returns-in-Some c =
    policy_named c.args.depth_left c.args.at c.in-Some.name c.args.words.now c.args.behind.now c.in-Some.rest.now c.requires c.in-Some.ensures

pub returns-in-None : goal.returns-in-None
returns-in-None c =
    gives_along policy_tree _ _ _ (policy_block c.args.depth_left c.args.at c.args.words.now c.args.behind.now c.requires c.in-None.ensures) c.block_policy.ensures
