use Rattle.std.proofs.Common.{◌≡◌, ℕ, ◌+◌, ◌*◌, ◌^◌, ◌<◌, List}
use Rattle.conf_names.specs.Names.{free_from, free_number}
use Rattle.conf_names.specs.Seen.{known_of}
use Rattle.conf_names.proofs.names.free_name.Given as goal

abbrev pub invariant-loop-left : goal.invariant-loop-left
invariant-loop-left l = record {
  room : l.left + l.number < 3 * 2 ^ 63 + 1;
  free : (text : List ℕ) → free_number (known_of text l.declared) l.stem ≡ free_from (known_of text l.declared) l.stem l.left l.number;
}

abbrev pub decreases-loop-left : goal.decreases-loop-left
decreases-loop-left l = l.left
