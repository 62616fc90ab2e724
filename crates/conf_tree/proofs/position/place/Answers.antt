use Rattle.std.proofs.Common.{◌≤◌, length, arith}
use Rattle.std.proofs.lemmas.List.{length-take}
use Rattle.conf_tree.proofs.PlaceSteps.{place_small, newline_place, other_place}
use Rattle.conf_tree.proofs.position.place.Goals as goal
use Rattle.conf_tree.proofs.position.place.Goals.{then-byte-eq10, else-byte-eq10}

pub overflow_add-line : goal.overflow_add-line
overflow_add-line c =
    let inside : c.loop-byte.byte-index ≤ length c.args.text.now = omega (arith, c.loop-byte-test.true, length-take c.args.at c.args.text.now, c.requires.within) in
    omega (arith, place_small c.args.text.now c.loop-byte.byte-index c.loop-byte.line c.loop-byte.column inside c.loop-byte.invariant, c.loop-byte.invariant.column_is, c.loop-byte-test.true, length-take c.args.at c.args.text.now, c.requires.within, c.requires.short)

pub loop-byte-preserved : goal.loop-byte-preserved
loop-byte-preserved c = elim c.if-byte-eq10.branch [
  | then-byte-eq10 w ↦ rw (w.line-is, w.column-is) (newline_place c.args.text.now c.args.at c.loop-byte.byte-index c.loop-byte.line c.loop-byte.column c.requires.within c.loop-byte-test.true w.if-byte-eq10.true c.loop-byte.invariant)
  | else-byte-eq10 w ↦ rw (w.line-is, w.column-is) (other_place c.args.text.now c.args.at c.loop-byte.byte-index c.loop-byte.line c.loop-byte.column c.requires.within c.loop-byte-test.true w.if-byte-eq10.false c.loop-byte.invariant)
]
