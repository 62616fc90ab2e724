use Rattle.std.proofs.Common.{refl, ap, false, ◌∙◌, ◌++◌, ◌∷◌, []}
use Rattle.jour.specs.Seats.{number_of}
use Rattle.pipe_lock.proofs.Planning.{planned}
use Rattle.pipe_lock.proofs.state.PipeState.plan_turn.Goals as goal

pub returns-clause-kept : goal.returns-clause-kept
returns-clause-kept c = λ key o line.
    planned key (number_of c.args.hand.now.1.role) c.args.line c.args.op.now c.pipe_mark-mark.result c.args.self.now
    (record {
      up = c.is_up_behind-self.result;
      ops = c.push_reserved.new.self;
      turns = c.record.new.turns;
      out = c.args.self.now.out;
      back = c.args.self.now.back;
      fault = c.args.self.now.fault;
    })
    (record {
      signal = c.pipe_mark-mark.ensures;
      up = c.is_up_behind-self.ensures;
      turns = c.record.ensures.here.0;
      list = c.record.ensures.list;
      ops = c.push_reserved.ensures.items ∙ ap (λ z. z ++ record { line = c.args.line; over = false } ∷ []) c.in_ok-reserve.ensures.items;
      only = record { out = refl; back = refl; fault = refl };
    })
    line o
