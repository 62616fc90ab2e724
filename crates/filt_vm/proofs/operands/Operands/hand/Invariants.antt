use Rattle.std.proofs.Common.{◌≡◌, ◌≤◌, drop, length, take}
use Rattle.filt_vm.proofs.operands.Operands.hand.Given as goal

abbrev pub invariant-loop : goal.invariant-loop
invariant-loop l = record {
  counted : l.counter ≤ l.few;
  enough : l.few ≤ length l.initial.self.here;
  left : l.self ≡ record { here = drop l.counter l.initial.self.here; under = l.initial.self.under };
  taken : l.variables ≡ record { here = take l.counter l.initial.self.here; under = l.initial.variables.under };
}
