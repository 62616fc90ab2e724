use Rattle.std.proofs.Common.{arith, sym}
use Rattle.export_core.proofs.TwoMaps.{absent, first_gone, first_of, none_drop}
use Rattle.export_core.proofs.marks.place_of.Goals as goal

pub returns-in_err-place-clause-none : goal.returns-in_err-place-clause-none
returns-in_err-place-clause-none c =
    rw c.from_residual.ensures (none_drop c.args.from c.args.key.now c.args.map.now.entries (absent c.args.key.now c.args.map.now.entries c.in_err-place.ensures.found))

pub returns-then-place-from-clause-none : goal.returns-then-place-from-clause-none
returns-then-place-from-clause-none c =
    let before = c.if-place-from.true in
    first_gone c.args.from c.in_ok-place.place c.args.key.now c.args.map.now.entries (omega (arith, before))
    (first_of c.args.key.now c.args.map.now.entries c.in_ok-place.place (sym c.in_ok-place.ensures.index)) c.requires

pub returns-clause-some : goal.returns-clause-some
returns-clause-some c =
    let behind = c.if-place-from.false in
    (first_of c.args.key.now c.args.map.now.entries c.in_ok-place.place (sym c.in_ok-place.ensures.index), omega (arith, behind))
