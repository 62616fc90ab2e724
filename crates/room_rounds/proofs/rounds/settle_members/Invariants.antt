use Rattle.room_rounds.proofs.Turning.{Goes}
use Rattle.room_rounds.proofs.rounds.settle_members.Given as goal

abbrev pub invariant-loop : goal.invariant-loop
invariant-loop g l = Goes g.J.Judge.verdict l.fn.tables.items l.fn.sources l.fn.members.items l.members.items
