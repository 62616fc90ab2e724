use Rattle.pipe_lock.proofs.Marking.{back_late, back_so_far, none_late, out_late, out_marked}
use Rattle.std.proofs.Common.{◌∷◌}
use Rattle.pipe_lock.proofs.state.PipeState.mark_both.Goals as goal

pub returns-in_err-mark_turn-clause-so_far : goal.returns-in_err-mark_turn-clause-so_far
returns-in_err-mark_turn-clause-so_far g c = λ key op earlier due out back. record {
  out = out_late key op earlier c.args.mark c.args.self.now due c.mark_turn.new.stamp c.mark_turn.ensures.same c.in_err-mark_turn.ensures.refused;
  back = back_late key op earlier c.args.mark c.args.self.now due;
}

pub returns-clause-so_far : goal.returns-clause-so_far
returns-clause-so_far g c = λ key op earlier due out back. record {
  out =
      none_late key key.out (op ∷ earlier) c.mark_turn.new.stamp
      (out_marked key op earlier c.args.mark c.args.self.now due (g.D.Direction.table c.args.out.now) c.mark_turn.new.stamp out c.mark_turn.ensures.same c.in_ok-mark_turn.ensures.marked);
  back =
      back_so_far key op earlier c.args.mark c.args.self.now due c.mark_turn-2.result (g.D.Direction.table c.args.back.now) c.mark_turn-2.new.stamp back c.mark_turn-2.ensures.same c.mark_turn-2.ensures.marked
      c.mark_turn-2.ensures.refused;
}
