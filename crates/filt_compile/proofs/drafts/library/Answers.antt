use Rattle.std.proofs.Common.{List, arith, subst}
use Rattle.filt_code.specs.declared.code.Routine.{Routine}
use Rattle.filt_compile.specs.Compiles.{IsCompiled}
use Rattle.filt_compile.proofs.Compiling as cm
use Rattle.filt_compile.proofs.drafts.library.Goals as goal

pub loop-function-preserved : goal.loop-function-preserved
loop-function-preserved c = (cm.compiled_more c.args.constants.now c.loop-function.function-index c.args.functions.now c.loop-function.routines.items c.push.new.self.items c.function-item.result c.in_ok-made.made c.loop-function-test.true c.function-item.is c.in_ok-push.ensures.items c.loop-function.invariant.0 (subst (λ (before : List Routine). IsCompiled c.args.constants.now before c.function-item.result c.in_ok-made.made) c.as_slice.ensures.value c.in_ok-made.ensures.0), cm.costs_more c.loop-function.function-index c.args.functions.now c.loop-function.routines.items c.push.new.self.items c.function-item.result c.in_ok-made.made c.loop-function-test.true c.function-item.is c.in_ok-push.ensures.items c.loop-function.invariant.1 c.in_ok-made.ensures.1)

pub returns-clause-means : goal.returns-clause-means
returns-clause-means c = cm.compiled_end c.args.constants.now c.loop-function.function-index c.args.functions.now c.loop-function.routines.items (omega (arith, c.loop-function-test.false)) c.loop-function.invariant.0

pub returns-clause-cost : goal.returns-clause-cost
returns-clause-cost c = cm.costs_end c.loop-function.function-index c.args.functions.now c.loop-function.routines.items (omega (arith, c.loop-function-test.false)) c.loop-function.invariant.1
