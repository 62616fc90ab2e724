use Rattle.conf_tree.specs.Position.{IsPlace}
use Rattle.conf_tree.proofs.position.place.Given as goal

-- The line and the column of the next byte.
abbrev pub invariant-loop-byte : goal.invariant-loop-byte
invariant-loop-byte l = IsPlace l.text l.byte-index l.line l.column
