use Rattle.std.proofs.Common.{ap}
use Rattle.phase_legal.specs.Turns.{line_at, turn_in}
use Rattle.phase_legal.proofs.Merging.{merged}
use Rattle.phase_legal.proofs.laws.turns_merge_the_lines.Goals as goal

pub returns-clause-merge : goal.returns-clause-merge
returns-clause-merge c = merged

pub returns-clause-starts : goal.returns-clause-starts
returns-clause-starts c = λ lines e starts. ap (λ z. turn_in (line_at lines z)) starts.0
