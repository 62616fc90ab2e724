use Rattle.std.proofs.Common.{arith}
use Rattle.filt_resolve.specs.Seen.{names_of}
use Rattle.filt_resolve.proofs.Levels.{counted_with, joined_with}
use Rattle.filt_resolve.proofs.names.Names.with.Goals as goal

pub invariant_of-result : goal.invariant_of-result
invariant_of-result c = omega (arith, c.self.invariant, counted_with c.self.inside.levels.items c.deref.result.now c.in_ok-levels.levels.items c.args.own.items c.len.result c.deref.ensures.value c.in_ok-levels.ensures (omega (arith, c.len.ensures, c.args.own.ok.0)))

pub returns : goal.returns
returns c = joined_with c.self.inside.levels.items c.deref.result.now c.in_ok-levels.levels.items c.args.self.now (names_of c.args.own.items) c.self.view_is c.deref.ensures.value c.in_ok-levels.ensures
