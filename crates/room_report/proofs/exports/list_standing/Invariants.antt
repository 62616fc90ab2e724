use Rattle.std.proofs.Common.{◌≡◌, ◌++◌, map}
use Rattle.core_setup.specs.Reports.{standing_of}
use Rattle.room_report.proofs.exports.list_standing.Given as goal

abbrev pub invariant-loop-key : goal.invariant-loop-key
invariant-loop-key l =
    (l.standing ≡ map standing_of l.yielded)
    × (l.yielded ++ l.key-iterator.rest.items ≡ l.fn.values.items)
