use Rattle.std.proofs.Common.{◌≡◌}
use Rattle.import_core.specs.Held.{write_all}
use Rattle.import_core.proofs.nets.write.Given as goal

abbrev pub invariant-loop-decision : goal.invariant-loop-decision
invariant-loop-decision l = write_all l.fn.decisions.items l.fn.nets.entries ≡ write_all l.decision-iterator.rest.items l.nets.entries
