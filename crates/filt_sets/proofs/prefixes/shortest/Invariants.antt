use Rattle.std.specs.List.{AllWithin}
use Rattle.filt_sets.specs.Search.{IsNet, Reaches}
use Rattle.filt_sets.proofs.prefixes.shortest.Given as goal

abbrev pub invariant-loop-item : goal.invariant-loop-item
invariant-loop-item l = record { nets : AllWithin IsNet l.items 0 l.item-index; least : AllWithin (Reaches l.shortest) l.items 0 l.item-index }
