use Rattle.std.proofs.Common.{length, ◌-◌}
use Rattle.run_tables.proofs.Syncing.{Synced}
use Rattle.run_tables.proofs.routes.Routes.sync.Given as goal

abbrev pub decreases-loop-self : goal.decreases-loop-self
decreases-loop-self g l = length l.self.tables.items - l.rounds

abbrev pub invariant-loop-self : goal.invariant-loop-self
invariant-loop-self g l = Synced g.J.Judge.verdict l.fn.self l.self l.rounds
