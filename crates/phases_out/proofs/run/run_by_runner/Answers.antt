use Rattle.std.proofs.Common.{map}
use Rattle.core_setup.specs.Plays.{IsLegalPlay}
use Rattle.phases_out.specs.Written.{AreRun}
use Rattle.phases_out.proofs.Writing.{ends_whole}
use Rattle.phases_out.proofs.run.run_by_runner.Goals as goal

pub returns-in-Ok : goal.returns-in-Ok
returns-in-Ok g c = λ setup start.
    ends_whole (AreRun setup c.args.actors.now) (map (λ phase. phase.items) c.args.phases.now) c.args.form _ _ _ _ c.write_end.result setup
    (IsLegalPlay setup c.args.actors.now) (λ done reports run. run) _ (c.in-Ok.ensures.run setup start) _ c.in-Ok.ensures.later
    c.write_end.ensures.end c.write_end.ensures.whole c.write_end.ensures.front c.write_end.ensures.write

pub run_each-requires-clause-start : goal.run_each-requires-clause-start
run_each-requires-clause-start g c κs within = c.requires.start

pub returns-in-Err : goal.returns-in-Err
returns-in-Err g c = λ setup start. c.in-Err.ensures.stopped setup start
