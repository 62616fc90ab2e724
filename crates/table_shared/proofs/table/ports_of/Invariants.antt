use Rattle.std.proofs.Common.{◌≡◌, ◌++◌}
use Rattle.table_shared.proofs.table.ports_of.Given as goal

abbrev pub invariant-loop-maker : goal.invariant-loop-maker
invariant-loop-maker l = l.ports.items ++ l.maker-iterator.rest.items ≡ l.fn.makers.items
