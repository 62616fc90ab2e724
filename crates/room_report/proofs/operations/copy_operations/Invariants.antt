use Rattle.std.proofs.Common.{◌≡◌, map, take}
use Rattle.room_report.specs.Inside.{done_in}
use Rattle.room_report.proofs.operations.copy_operations.Given as goal

abbrev pub invariant-loop-turn : goal.invariant-loop-turn
invariant-loop-turn l = l.ops ≡ map (done_in l.lines) (take l.turn-index l.turns)
