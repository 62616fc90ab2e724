use Rattle.std.proofs.Common.{◌∙◌, ◌∷◌, ap}
use Rattle.filt_meaning.specs.Flow.{Done}
use Rattle.filt_code.specs.Codes.{setting}
use Rattle.filt_route.specs.Seen.{around_in}
use Rattle.filt_vm.specs.declared.level.Level.{Level}
use Rattle.filt_vm.specs.declared.level.Level.TheVariants as levels
use Rattle.filt_vm.proofs.Unstuck as u
use Rattle.filt_vm.proofs.Waits as w
use Rattle.filt_vm.proofs.Wholes as whole
use Rattle.filt_vm.proofs.machine.Machine.end.Goals as goal

pub give_nothing-requires-clause-unstuck : goal.give_nothing-requires-clause-unstuck
give_nothing-requires-clause-unstuck c =
    let around = around_in c.args.self.now.around in
    let m = c.args.self.now in
    u.moved _ _ (w.popped around m.functions.now m.rest.now (levels.Returns c.in-Some-Returns.call) m.locals m.operands m.levels c.pop.new.self (Done m.locals.here m.attrs) m.attrs (c.requires.ends (setting around m.functions.now) m.locals.here m.operands.here m.attrs) (c.in-Some-Returns.ensures.level ∙ ap (λ (level : Level). level ∷ c.pop.new.self.levels) c.in-Some-Returns.field-0-is) c.pop.ensures.lists) c.requires.unstuck

pub give_nothing-requires-clause-whole : goal.give_nothing-requires-clause-whole
give_nothing-requires-clause-whole c =
    let m = c.args.self.now in
    whole.popped (levels.Returns c.in-Some-Returns.call) m.levels c.pop.new.self m.locals.under m.operands.under (c.in-Some-Returns.ensures.level ∙ ap (λ (level : Level). level ∷ c.pop.new.self.levels) c.in-Some-Returns.field-0-is) c.pop.ensures.lists c.requires.whole

pub turn-requires : goal.turn-requires
turn-requires c =
    let m = c.args.self.now in
    whole.popped (levels.Turns c.in-Some-Turns.turn) m.levels c.pop.new.self m.locals.under m.operands.under (c.in-Some-Turns.ensures.level ∙ ap (λ (level : Level). level ∷ c.pop.new.self.levels) c.in-Some-Turns.field-0-is) c.pop.ensures.lists c.requires.whole
