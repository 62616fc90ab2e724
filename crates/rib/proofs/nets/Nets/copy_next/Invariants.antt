use Rattle.std.proofs.Common.{◌≡◌, ◌≤◌, length, map}
use Rattle.std.specs.Map.Iter.{deref_pair}
use Rattle.rib.specs.Entries.{rows_of}
use Rattle.rib.proofs.nets.Nets.copy_next.Given as goal

abbrev pub invariant-loop-net : goal.invariant-loop-net
invariant-loop-net l = (l.rows.items ≡ rows_of (map deref_pair l.yielded)) × (length l.rows.items ≤ l.fn.max)
