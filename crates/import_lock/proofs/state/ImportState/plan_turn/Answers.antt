use Rattle.std.proofs.Common.{refl, ap, ◌∙◌, ◌++◌, ◌∷◌, []}
use Rattle.jour.specs.Seats.{number_of}
use Rattle.import_lock.proofs.Planning.{planned}
use Rattle.import_lock.proofs.state.ImportState.plan_turn.Goals as goal

pub returns-clause-kept : goal.returns-clause-kept
returns-clause-kept g c = λ key made o line.
    planned g.J.Judge.verdict key made (number_of c.args.hand.now.1.role) c.args.line c.args.op.now c.in_ok-step.step c.args.self.now
    (record {
      importer = c.apply.new.self;
      port = c.args.self.now.port;
      ops = c.push_reserved.new.self;
      backlog = c.in_ok-step.step.changes;
      sent = 0;
      turns = c.record.new.turns;
      stamp = c.args.self.now.stamp;
      fault = c.args.self.now.fault;
    })
    (record {
      next = c.in_ok-step.ensures.step;
      kept = c.in_ok-step.ensures.kept;
      turns = c.record.ensures.here.0;
      list = c.record.ensures.list;
      ops = c.push_reserved.ensures.items ∙ ap (λ z. z ++ record { line = c.args.line; over = c.in_ok-step.step.over } ∷ []) c.in_ok-reserve.ensures.items;
      backlog = refl;
      sent = refl;
      port = refl;
      stamp = refl;
    })
    line c.requires.rest o
