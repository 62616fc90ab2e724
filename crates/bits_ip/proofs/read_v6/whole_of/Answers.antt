use Rattle.std.proofs.Common.{sym, ◌∙◌, arith}
use Rattle.bits_ip.proofs.Bits.{row_whole, whole_count}
use Rattle.bits_ip.proofs.read_v6.whole_of.Goals as goal

pub returns-in_err-row : goal.returns-in_err-row
returns-in_err-row c = rw c.from_residual.ensures (λ n small is.
    let counts = whole_count c.args.text.now n is in c.in_err-row.ensures counts.0 (omega (arith, counts.1)))

pub returns-then-row-eq8 : goal.returns-then-row-eq8
returns-then-row-eq8 c = row_whole c.args.text.now c.in_ok-row.row.count c.in_ok-row.row.bits c.in_ok-row.ensures.0 c.in_ok-row.ensures.1 c.if-row-eq8.true

pub returns-else-row-eq8 : goal.returns-else-row-eq8
returns-else-row-eq8 c = λ n small is.
    let counts = whole_count c.args.text.now n is in c.if-row-eq8.false (sym c.in_ok-row.ensures.1.counted ∙ counts.2)
