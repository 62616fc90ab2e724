use Rattle.std.proofs.Common.{◌≡◌, ◌++◌}
use Rattle.std.specs.Map.{keys_of}
use Rattle.run_tables.proofs.channel.keys_of.Given as goal

abbrev pub invariant-loop-key : goal.invariant-loop-key
invariant-loop-key l =
    (l.yielded ++ l.key-iterator.rest.items ≡ l.fn.values.items) × (l.keys.items ≡ keys_of l.yielded)
