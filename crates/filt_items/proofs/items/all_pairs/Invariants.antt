use Rattle.std.proofs.Common.{◌≡◌, ℕ, List, drop}
use Rattle.filt_meaning.specs.Names.{Around}
use Rattle.filt_meaning.specs.Scopes.{context_of}
use Rattle.filt_items.specs.Seen.{each}
use Rattle.filt_items.specs.Seen.{pair_of}
use Rattle.filt_items.proofs.Sets.{rest_of}
use Rattle.filt_items.proofs.items.all_pairs.Given as goal

abbrev pub invariant-loop-item : goal.invariant-loop-item
invariant-loop-item l = (around : Around) (variables : List (List ℕ)) → rest_of (pair_of (context_of l.text around l.scope variables)) l.all.items (drop l.item-index l.items) ≡ each (pair_of (context_of l.text around l.scope variables)) l.items
