use Rattle.announcements.proofs.CommunityWords.{no_left, no_right, community_kept}
use Rattle.announcements.proofs.communities.read_community.Goals as goal

pub returns-in_err-system : goal.returns-in_err-system
returns-in_err-system c = rw c.from_residual-in_err-system.ensures (no_left c.args.word.now c.in_ok-left.left.now c.in_ok-left.right.now c.in_ok-left.ensures c.in_err-system.ensures)

pub returns-in_err-value : goal.returns-in_err-value
returns-in_err-value c = rw c.from_residual-in_err-value.ensures (no_right c.args.word.now c.in_ok-left.left.now c.in_ok-left.right.now c.in_ok-left.ensures c.in_err-value.ensures)

pub returns : goal.returns
returns c =
    community_kept c.args.word.now c.in_ok-left.left.now c.in_ok-left.right.now c.in_ok-system.system c.in_ok-value.value c.pair_of.result c.in_ok-left.ensures c.in_ok-system.ensures c.in_ok-value.ensures
    c.pair_of.ensures
