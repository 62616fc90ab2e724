use Rattle.std.proofs.Common.{◌-◌, length}
use Rattle.conf_words.specs.Marks.{AreMarks, IsMark}
use Rattle.conf_words.proofs.SignificantWalks.{IsWalked}
use Rattle.conf_words.proofs.significant.walked_words.Given as goal

abbrev pub invariant-loop-marks : goal.invariant-loop-marks
invariant-loop-marks l =
    IsWalked l.text l.found.items l.region l.spot
    × IsMark l.text (record { count = length l.found.items; region = l.region; spot = l.spot })
    × AreMarks l.text l.marks.items

abbrev pub decreases-loop-marks : goal.decreases-loop-marks
decreases-loop-marks l = length l.text - l.spot.at
