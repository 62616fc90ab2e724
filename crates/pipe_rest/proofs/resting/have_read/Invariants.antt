use Rattle.std.proofs.Common.{take}
use Rattle.std.specs.List.{AllByRecursion}
use Rattle.pipe_rest.specs.Heads.{HasRead}
use Rattle.pipe_rest.proofs.resting.have_read.Given as goal

abbrev pub invariant-loop-member : goal.invariant-loop-member
invariant-loop-member g l = AllByRecursion (HasRead l.fn.heads) (take l.member-index l.fn.members)
