use Rattle.std.proofs.Common.{◌≡◌}
use Rattle.core_setup.specs.Protocols.{signal_of}
use Rattle.export_lock.specs.MarkTurns.{IsUnmarked}
use Rattle.jour.specs.Seats.{own}
use Rattle.pipe_lock.proofs.Passing.{mark_keeps}
use Rattle.pipe_lock.proofs.lane.take_mark.Goals as goal

pub returns-clause-kept : goal.returns-clause-kept
returns-clause-kept g c =
    mark_keeps g.J.Judge.verdict c.args.lane.now c.mark_turn.new.self c.mark_turn.result (signal_of c.args.mark) (IsUnmarked c.args.lane.now.state c.mark_turn.new.self.state) (own c.mark_turn.new.stamp.1 ≡ own c.args.stamp.now.1)
    c.mark_turn.ensures.kept c.mark_turn.ensures.refused
