use Rattle.std.proofs.Common.{◌≤◌}
use Rattle.run_tables.proofs.Kept.{TakenSoFar}
use Rattle.run_tables.proofs.channel.Channel.take_many.Given as goal

abbrev pub invariant-loop : goal.invariant-loop
invariant-loop g l = record {
  below : l.counter ≤ l.left;
  far : TakenSoFar g.J.Judge.verdict l.table l.fn.self l.self l.counter;
}
