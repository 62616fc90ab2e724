use Rattle.std.proofs.Common.{◌≡◌, ◌++◌}
use Rattle.room_report.proofs.standing.join_entries.Given as goal

abbrev pub invariant-loop-entry : goal.invariant-loop-entry
invariant-loop-entry l =
    (l.stood.items ≡ l.fn.stood.items ++ l.yielded)
    × (l.yielded ++ l.entry-iterator.rest.items ≡ l.fn.entries)
