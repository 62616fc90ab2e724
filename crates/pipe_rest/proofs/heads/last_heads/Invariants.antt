use Rattle.std.proofs.Common.{◌≡◌, length, take}
use Rattle.std.specs.List.{AllByRecursion}
use Rattle.pipe_rest.specs.Heads.{IsBelow}
use Rattle.pipe_rest.proofs.heads.last_heads.Given as goal

abbrev pub invariant-loop-member : goal.invariant-loop-member
invariant-loop-member g l = record {
  count : length l.heads.items ≡ l.fn.tables;
  below : AllByRecursion (IsBelow l.heads.items) (take l.member-index l.fn.members);
}
