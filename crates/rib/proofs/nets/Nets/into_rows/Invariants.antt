use Rattle.std.proofs.Common.{◌≡◌}
use Rattle.rib.specs.Entries.{rows_of}
use Rattle.rib.proofs.nets.Nets.into_rows.Given as goal

abbrev pub invariant-loop-net : goal.invariant-loop-net
invariant-loop-net l = l.rows.items ≡ rows_of l.yielded
