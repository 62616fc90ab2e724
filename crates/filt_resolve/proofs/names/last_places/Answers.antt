use Rattle.std.proofs.Common.{ap, arith, refl}
use Rattle.std.specs.Map.{lookup}
use Rattle.filt_resolve.specs.Levels.{is_key}
use Rattle.filt_resolve.proofs.Levels.{noted_next, noted_all}
use Rattle.filt_resolve.proofs.names.last_places.Goals as goal

pub loop-name-init : goal.loop-name-init
loop-name-init c = (refl, λ name. ap (λ l. lookup (is_key name) l) c.new-last.ensures.empty)

pub loop-name-preserved : goal.loop-name-preserved
loop-name-preserved c = (omega (arith, c.loop-name.invariant.0), noted_next c.args.names.now c.loop-name.name-index _ c.loop-name.place _ c.loop-name.last.entries c.insert.new.self.entries c.loop-name.invariant.0 (omega (arith, c.loop-name-test.true)) refl c.in_ok-insert.ensures.entries c.loop-name.invariant.1)

pub returns : goal.returns
returns c = noted_all c.args.names.now c.loop-name.name-index c.loop-name.last.entries (omega (arith, c.loop-name-test.false)) c.loop-name.invariant.1
