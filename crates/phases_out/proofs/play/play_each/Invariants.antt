use Rattle.std.proofs.Common.{◌≡◌, ◌≤◌, ◌++◌, [], map}
use Rattle.core_setup.specs.Setup.{Setup}
use Rattle.sys_run.specs.Playing.{HasPlayed}
use Rattle.phases_out.specs.Inside.{HasWritten, PlayedBy}
use Rattle.phases_out.proofs.play.play_each.Given as goal

abbrev pub invariant-loop-lines : goal.invariant-loop-lines
invariant-loop-lines g l = record {
  so_far : (setup : Setup) → HasPlayed g.J.Judge.verdict setup l.actors [] [] l.fn.core
      → HasWritten (PlayedBy g.J.Judge.verdict setup l.actors l.core) setup (map (λ phase. phase.items) l.yielded) l.fn.form
      (g.K.Sink.contents l.fn.out) (g.K.Sink.contents l.out);
  whole : l.yielded ++ l.lines-iterator.rest.items ≡ l.fn.phases.items;
  later : g.K.Sink.faults l.fn.out ≤ g.K.Sink.faults l.out;
}
