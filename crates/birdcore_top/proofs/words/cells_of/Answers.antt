use Rattle.std.proofs.Common.{sym}
use Rattle.birdcore_top.proofs.Cells.{cells_read, not_cells}
use Rattle.birdcore_top.proofs.words.cells_of.Goals as goal

pub returns-in_err-number : goal.returns-in_err-number
returns-in_err-number c = rw c.from_residual.ensures (not_cells c.args.word.now c.parse.result c.parse.ensures.value.0 (sym c.in_err-number.ensures.value))

pub returns-then-number-le-MOST_CELLS : goal.returns-then-number-le-MOST_CELLS
returns-then-number-le-MOST_CELLS c =
    cells_read c.args.word.now c.parse.result c.in_ok-number.number c.parse.ensures.value.0 (sym c.in_ok-number.ensures.value) c.if-number-ge1.true c.if-number-le-MOST_CELLS.true
