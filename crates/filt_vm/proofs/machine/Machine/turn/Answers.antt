use Rattle.std.proofs.Common.{refl, arith, ◌∙◌, sym, ◌+◌, length}
use Rattle.std.proofs.lemmas.Bool.{ltb-true, ltb-false}
use Rattle.filt_meaning.specs.Seen.{val_of}
use Rattle.filt_vm.specs.Levels.{top_elements}
use Rattle.filt_route.specs.Seen.{around_in}
use Rattle.filt_vm.specs.declared.level.Turn.{Turn}
use Rattle.filt_vm.proofs.Waits as w
use Rattle.filt_vm.proofs.machine.Machine.turn.Goals as goal

pub overflow_add-again : goal.overflow_add-again
overflow_add-again c = omega (arith, c.has.ensures.few c.if-has.true)

pub returns-then-has-clause-goes : goal.returns-then-has-clause-goes
returns-then-has-clause-goes c =
    let again : Turn = record { functions = c.args.turn.functions; body = c.args.turn.body; over = c.args.turn.over; variables = c.args.turn.variables; next = c.args.turn.next + 1 } in
    w.goes-on (around_in c.args.self.now.around) c.args.turn again c.args.self.now.locals c.truncate.new.self c.push.new.self c.args.self.now.operands c.clear.new.self c.args.self.now.levels c.push-then-has.new.self c.args.self.now.attrs (val_of c.element-value.result) (ltb-true c.args.turn.next (length (top_elements c.args.self.now.levels.lists)) (sym c.has.ensures.has ∙ c.if-has.true)) refl refl refl refl refl c.element-value.ensures c.truncate.ensures c.in_ok-push.ensures c.clear.ensures c.in_ok-push-2.ensures

pub returns-clause-goes : goal.returns-clause-goes
returns-clause-goes c =
    w.is-over (around_in c.args.self.now.around) c.args.turn c.behind-self.result.now c.args.self.now.locals c.truncate.new.self c.args.self.now.operands c.leave.new.self c.args.self.now.levels c.end.new.self c.args.self.now.attrs (ltb-false c.args.turn.next (length (top_elements c.args.self.now.levels.lists)) (sym c.has.ensures.has ∙ c.if-has.false)) c.behind-self.ensures c.truncate.ensures c.leave.ensures c.end.ensures

pub has-requires : goal.has-requires
has-requires c = c.requires.1

pub leave-requires : goal.leave-requires
leave-requires c = c.requires.0

pub returns-then-has-clause-whole : goal.returns-then-has-clause-whole
returns-then-has-clause-whole c = rw (c.in_ok-push-2.ensures, c.clear.ensures, c.in_ok-push.ensures, c.truncate.ensures) (c.requires.0, c.requires.1, c.requires.2)

pub returns-clause-whole : goal.returns-clause-whole
returns-clause-whole c = rw (c.leave.ensures, c.end.ensures, c.truncate.ensures) c.requires.2
