use Rattle.import_core.proofs.Turns.{WithdrawnSoFar}
use Rattle.import_core.proofs.nets.Nets.withdrawals.Given as goal

abbrev pub invariant-loop-net : goal.invariant-loop-net
invariant-loop-net l = WithdrawnSoFar l.num l.fn.self.accepted l.net-iterator l.changes
