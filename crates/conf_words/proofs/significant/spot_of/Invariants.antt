use Rattle.std.proofs.Common.{◌-◌, length}
use Rattle.conf_words.specs.Marks.{IsSought}
use Rattle.conf_words.proofs.significant.spot_of.Given as goal

abbrev pub invariant-loop-word : goal.invariant-loop-word
invariant-loop-word l = IsSought l.text l.place l.left l.region l.spot

abbrev pub decreases-loop-word : goal.decreases-loop-word
decreases-loop-word l = length l.text - l.spot.at
