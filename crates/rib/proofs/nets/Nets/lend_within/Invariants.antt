use Rattle.std.proofs.Common.{◌≡◌, map}
use Rattle.std.specs.List.{filter}
use Rattle.std.specs.Map.Iter.{deref_pair}
use Rattle.attrs.specs.declared.route.Row.{Row}
use Rattle.attrs.specs.Select.{covers}
use Rattle.rib.specs.Entries.{rows_of}
use Rattle.rib.proofs.nets.Nets.lend_within.Given as goal

abbrev pub invariant-loop-net : goal.invariant-loop-net
invariant-loop-net l = l.rows.items ≡ filter (λ (row : Row). covers l.fn.asked row.net) (rows_of (map deref_pair l.yielded))
