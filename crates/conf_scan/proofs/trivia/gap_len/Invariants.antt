use Rattle.std.proofs.Common.{◌≤◌, ◌-◌, length, take, drop}
use Rattle.conf_scan.specs.Shapes.{IsGap}
use Rattle.conf_scan.proofs.trivia.gap_len.Given as goal

abbrev pub invariant-loop-more : goal.invariant-loop-more
invariant-loop-more l = record {
  within : l.len ≤ length l.text;
  gap : IsGap (take l.len l.text) (drop l.len l.text);
}

abbrev pub decreases-loop-more : goal.decreases-loop-more
decreases-loop-more l = length l.text - l.len
