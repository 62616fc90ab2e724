use Rattle.std.proofs.Common.{◌≡◌, ◌+◌, ◌-◌, ◌≤◌, length, IsTrue}
use Rattle.outside_io.specs.Faults.{NoneFell, KeepsOthers}
use Rattle.outside_io.specs.Whole.{limit}
use Rattle.outside_io.proofs.Blocks.{IsFront}
use Rattle.outside_io.proofs.whole.read_blocks.Given as goal

abbrev pub invariant-loop-shelf : goal.invariant-loop-shelf
invariant-loop-shelf g l = record {
  front : IsFront (g.F.Shelf.held l.fn.shelf l.name) l.bytes.items;
  same : g.F.Shelf.held l.shelf ≡ g.F.Shelf.held l.fn.shelf;
  lacks : g.F.Shelf.lacks l.shelf ≡ g.F.Shelf.lacks l.fn.shelf;
  unread : IsTrue (g.F.Shelf.lacks l.fn.shelf l.name) → length l.bytes.items ≡ 0;
  later : g.F.Shelf.faults l.fn.shelf ≤ g.F.Shelf.faults l.shelf;
  none_fell : NoneFell (g.F.Shelf.missed l.fn.shelf) (g.F.Shelf.missed l.shelf);
  others : KeepsOthers (g.F.Shelf.held l.fn.shelf) l.name (g.F.Shelf.missed l.fn.shelf) (g.F.Shelf.missed l.shelf);
}

abbrev pub decreases-loop-shelf : goal.decreases-loop-shelf
decreases-loop-shelf g l = limit + 1 - length l.bytes.items
