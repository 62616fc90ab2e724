use Rattle.std.proofs.Common.{◌+◌, ap, arith}
use Rattle.bits_ip.proofs.Bits.{beside_count, row_beside, row_fits}
use Rattle.bits_ip.proofs.read_v6.shortened_of.Goals as goal

pub returns-in_err-before : goal.returns-in_err-before
returns-in_err-before c = rw c.from_residual.ensures (λ n small is.
    let counts = beside_count c.args.front.now c.args.back.now n is in c.in_err-before.ensures is.front_are (omega (arith, counts.0)))

pub returns-in_err-behind : goal.returns-in_err-behind
returns-in_err-behind c = rw c.from_residual-in_err-behind.ensures (λ n small is.
    let counts = beside_count c.args.front.now c.args.back.now n is in c.in_err-behind.ensures is.back_are (omega (arith, counts.0)))

pub at_front-requires-clause-fits : goal.at_front-requires-clause-fits
at_front-requires-clause-fits c = row_fits c.args.front.now c.in_ok-before.before.count c.in_ok-before.before.bits c.in_ok-before.ensures.0 c.in_ok-before.ensures.1

pub overflow_add-result : goal.overflow_add-result
overflow_add-result c =
    let made = row_beside c.args.front.now c.args.back.now c.in_ok-before.before.count c.in_ok-behind.behind.count c.in_ok-before.before.bits c.in_ok-behind.behind.bits
    (c.at_front.result + c.in_ok-behind.behind.bits) c.in_ok-before.ensures.0 c.in_ok-behind.ensures.0 c.in_ok-before.ensures.1 c.in_ok-behind.ensures.1
    c.if-before-behind-lt8.true (ap (λ k. k + c.in_ok-behind.behind.bits) c.at_front.ensures) in
    omega (arith, made.0)

pub returns-then-before-behind-lt8 : goal.returns-then-before-behind-lt8
returns-then-before-behind-lt8 c =
    row_beside c.args.front.now c.args.back.now c.in_ok-before.before.count c.in_ok-behind.behind.count c.in_ok-before.before.bits c.in_ok-behind.behind.bits
    (c.at_front.result + c.in_ok-behind.behind.bits) c.in_ok-before.ensures.0 c.in_ok-behind.ensures.0 c.in_ok-before.ensures.1 c.in_ok-behind.ensures.1
    c.if-before-behind-lt8.true (ap (λ k. k + c.in_ok-behind.behind.bits) c.at_front.ensures)

pub returns-else-before-behind-lt8 : goal.returns-else-before-behind-lt8
returns-else-before-behind-lt8 c = λ n small is.
    let counts = beside_count c.args.front.now c.args.back.now n is in
    omega (arith, counts.1, c.in_ok-before.ensures.1.counted, c.in_ok-behind.ensures.1.counted, c.if-before-behind-lt8.false)
