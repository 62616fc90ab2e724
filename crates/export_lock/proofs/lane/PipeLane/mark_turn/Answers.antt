use Rattle.std.proofs.Common.{◌≡◌, refl}
use Rattle.jour.specs.Seats.{own}
use Rattle.core_setup.specs.Protocols.{signal_of}
use Rattle.export_lock.proofs.LaneMarks.{marked_kept, unmarked_kept}
use Rattle.export_lock.proofs.lane.PipeLane.mark_turn.Goals as goal

pub returns-clause-kept : goal.returns-clause-kept
returns-clause-kept g c =
    marked_kept g.J.Judge.verdict c.args.self.now (record { state = c.mark_alone.new.self; port = c.args.self.now.port }) refl c.mark_alone.ensures.goes c.mark_alone.result (signal_of c.args.mark) c.position.ensures.lawful
    c.requires.may.withdrawn c.requires.may.running c.mark_alone.ensures.marked

pub returns-clause-refused : goal.returns-clause-refused
returns-clause-refused g c =
    unmarked_kept g.J.Judge.verdict c.args.self.now (record { state = c.mark_alone.new.self; port = c.args.self.now.port }) refl c.mark_alone.ensures.goes c.mark_alone.result
    (own c.mark_alone.new.stamp.1 ≡ own c.args.stamp.now.1) c.mark_alone.ensures.refused
