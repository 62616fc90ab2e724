use Rattle.filt_syntax.proofs.StatementTrees.{tree-one_branch, tree-two_branches}
use Rattle.filt_syntax.proofs.statement.chosen.Goals as goal

pub returns-in-None : goal.returns-in-None
returns-in-None c = tree-one_branch c.args.condition c.args.branches c.in-None.is

pub returns-in-Some : goal.returns-in-Some
returns-in-Some c = tree-two_branches c.args.condition c.args.branches c.in-Some.second c.in-Some.is
