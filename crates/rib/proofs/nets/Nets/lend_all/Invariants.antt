use Rattle.std.proofs.Common.{◌≡◌, map}
use Rattle.std.specs.Map.Iter.{deref_pair}
use Rattle.rib.specs.Entries.{rows_of}
use Rattle.rib.proofs.nets.Nets.lend_all.Given as goal

abbrev pub invariant-loop-net : goal.invariant-loop-net
invariant-loop-net l = l.rows.items ≡ rows_of (map deref_pair l.yielded)
