use Rattle.filt_vm.proofs.machine.Machine.give.Goals as goal

pub go_back-requires-clause-variables : goal.go_back-requires-clause-variables
go_back-requires-clause-variables c = c.requires.0

pub go_back-requires-clause-operands : goal.go_back-requires-clause-operands
go_back-requires-clause-operands c = c.requires.1
