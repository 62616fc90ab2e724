use Rattle.std.proofs.Common.{◌≡◌, ◌+◌, ◌-◌, suc, length, arith, sym, subst}
use Rattle.sys_run.specs.Made.{AreFound, found_from}
use Rattle.sys_run.proofs.MakingWays.{within_same}
use Rattle.sys_run.proofs.ways.ways_from.Goals as goal

pub go_on-requires-clause-within : goal.go_on-requires-clause-within
go_on-requires-clause-within c =
    (c.requires.0, λ k d at. within_same c.args.tables (length c.loop-len.found.items) c.requires.0 d (sym c.loop-len.invariant.count) (c.requires.1 k d at))

pub go_on-requires-clause-short : goal.go_on-requires-clause-short
go_on-requires-clause-short c = omega (arith, c.loop-len-test.true, c.saturating_sub-len-end.ensures, c.loop-len.invariant.count)

pub loop-len-preserved : goal.loop-len-preserved
loop-len-preserved c =
    subst (λ n. AreFound c.args.tables c.go_on.new.found.items (found_from c.args.directions.now c.args.home n))
    (let e : suc c.loop-len.len ≡ c.loop-len.len + 1 = omega arith in e)
    (c.go_on.ensures.found c.args.tables (found_from c.args.directions.now c.args.home c.loop-len.len) c.loop-len.invariant)

pub returns : goal.returns
returns c =
    subst (λ n. AreFound c.args.tables c.loop-len.found.items (found_from c.args.directions.now c.args.home n))
    (let e : c.loop-len.len ≡ c.args.tables - 1 = omega (arith, c.loop-len-test.false, c.loop-len.auto.len-end, c.saturating_sub-len-end.ensures) in e) c.loop-len.invariant
