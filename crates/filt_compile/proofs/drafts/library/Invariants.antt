use Rattle.std.proofs.Common.{[], take}
use Rattle.filt_compile.specs.Compiles.{AreCompiled, CostTheirSteps}
use Rattle.filt_compile.proofs.drafts.library.Given as goal

abbrev pub invariant-loop-function : goal.invariant-loop-function
invariant-loop-function l = AreCompiled l.constants [] (take l.function-index l.functions) l.routines.items × CostTheirSteps (take l.function-index l.functions) l.routines.items
