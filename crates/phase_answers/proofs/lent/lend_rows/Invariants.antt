use Rattle.std.proofs.Common.{◌≡◌, take}
use Rattle.phase_answers.proofs.lent.lend_rows.Given as goal

abbrev pub invariant-loop-row : goal.invariant-loop-row
invariant-loop-row l = l.lent.items ≡ take l.row-index l.rows
