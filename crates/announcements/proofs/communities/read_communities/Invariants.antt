use Rattle.std.proofs.Common.{length}
use Rattle.text.specs.Lines.{words_of}
use Rattle.announcements.proofs.CommunityWords.{HaveCommunities}
use Rattle.announcements.proofs.communities.read_communities.Given as goal

abbrev pub invariant-loop-word : goal.invariant-loop-word
invariant-loop-word l = HaveCommunities (words_of l.text) l.coms l.fit (words_of l.rest)

abbrev pub decreases-loop-word : goal.decreases-loop-word
decreases-loop-word l = length l.rest
