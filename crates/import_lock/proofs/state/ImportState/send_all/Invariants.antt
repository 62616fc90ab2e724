use Rattle.import_lock.specs.Calls.{Sends}
use Rattle.import_lock.proofs.state.ImportState.send_all.Given as goal

abbrev pub invariant-loop : goal.invariant-loop
invariant-loop g l = Sends g.J.Judge.verdict l.fn.self l.self
