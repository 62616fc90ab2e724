use Rattle.std.proofs.Common.{◌∙◌, sym}
use Rattle.filt_code.specs.Codes.{mean, setting}
use Rattle.filt_vm.specs.Machines.{handed}
use Rattle.filt_route.specs.Seen.{around_in}
use Rattle.filt_vm.specs.Seen.{first_of, rest_of}
use Rattle.filt_vm.proofs.Waits as w
use Rattle.filt_vm.proofs.machine.Machine.give_nothing.Goals as goal

pub returns-then-is_some-clause-goes : goal.returns-then-is_some-clause-goes
returns-then-is_some-clause-goes c =
    let around = around_in c.args.self.now.around in
    w.gives-none around c.args.self.now.levels.levels (rest_of c.args.self.now.locals.under) (rest_of c.args.self.now.operands.under) c.args.self.now.levels.lists c.args.call.gives (handed c.args.call.puts (λ os attrs. mean (setting around c.args.call.functions.now) c.args.call.rest.now 0 (first_of c.args.self.now.locals.under) os attrs) (first_of c.args.self.now.operands.under)) c.args.self.now.attrs (sym c.is_some.ensures ∙ c.if-is_some.true)

pub returns-clause-goes : goal.returns-clause-goes
returns-clause-goes c =
    rw (c.go_back.ensures) (w.gives-nothing (around_in c.args.self.now.around) c.args.call c.args.self.now.locals c.args.self.now.operands c.args.self.now.levels c.args.self.now.attrs (sym c.is_some.ensures ∙ c.if-is_some.false) c.requires.unstuck)

pub returns-clause-whole : goal.returns-clause-whole
returns-clause-whole c = rw (c.go_back.ensures) c.requires.whole.2

pub go_back-requires-clause-variables : goal.go_back-requires-clause-variables
go_back-requires-clause-variables c = c.requires.whole.0

pub go_back-requires-clause-operands : goal.go_back-requires-clause-operands
go_back-requires-clause-operands c = c.requires.whole.1
