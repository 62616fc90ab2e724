use Rattle.std.proofs.Common.{◌-◌, length}
use Rattle.conf_scan.proofs.Spots.{IsRead}
use Rattle.conf_scan.proofs.lexer.lex.Given as goal

abbrev pub invariant-loop-found : goal.invariant-loop-found
invariant-loop-found l = IsRead l.text l.found.items l.spot

abbrev pub decreases-loop-found : goal.decreases-loop-found
decreases-loop-found l = length l.text - l.spot.at
