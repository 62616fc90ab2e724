use Rattle.std.proofs.Common.{◌≡◌, ◌≤◌, [], map, take}
use Rattle.core_setup.specs.Setup.{Setup}
use Rattle.sys_threads.specs.Running.{HasRun}
use Rattle.phases_out.specs.Inside.{HasWritten, RunBy}
use Rattle.phases_out.proofs.run.run_each.Given as goal

abbrev pub invariant-loop-lines : goal.invariant-loop-lines
invariant-loop-lines g l = record {
  so_far : (setup : Setup) → HasRun g.J.Judge.verdict setup l.actors [] [] l.fn.runner
      → HasWritten (RunBy g.J.Judge.verdict setup l.actors l.runner) setup (map (λ phase. phase.items) (take l.lines-index l.phases)) l.fn.form
      (g.K.Sink.contents l.fn.out) (g.K.Sink.contents l.out);
  later : g.K.Sink.faults l.fn.out ≤ g.K.Sink.faults l.out;
}
