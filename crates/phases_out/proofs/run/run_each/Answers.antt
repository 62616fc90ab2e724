use Rattle.std.proofs.Common.{◌+◌, ◌++◌, ◌∙◌, Err, List, Vec, ap, arith, drop, length, map, refl, subst, sym, take}
use Rattle.std.specs.Global.{Global}
use Rattle.core_setup.specs.Plays.{IsLegalPlay}
use Rattle.script_lines.specs.declared.script.Line.{Line}
use Rattle.sys_run.specs.Scripts.{phase_of}
use Rattle.phases_out.specs.Inside.{HasWritten, RunBy}
use Rattle.phases_out.specs.Written.{AreRun}
use Rattle.phases_out.specs.declared.ending.Ending.{Ending}
use Rattle.phases_out.proofs.Running.{can_play, done_all, done_and_left, done_more}
use Rattle.phases_out.proofs.Writing.{cut_between, cut_in_phase, ends_cut, is_run, made_of, nothing_yet, phase_more, written_so}
use Rattle.phases_out.proofs.run.run_each.Goals as goal

pub run_phase-requires : goal.run_phase-requires
run_phase-requires g c =
    let setup = c.requires.start.0 in
    let done = c.loop-lines.invariant.so_far setup c.requires.start.1 in (
      c.type_bounds.sync-R,
      (
        c.type_bounds.sync-G,
        (
          c.type_bounds.sync-J,
          (
            setup,
            map (phase_of setup.queries) (map (λ phase. phase.items) (take c.loop-lines.lines-index c.args.phases.now)),
            done.reports,
            done.played,
            can_play setup (length c.args.actors.now) c.args.phases.now c.loop-lines.lines-index c.lines-item.result _ c.loop-lines-test.true c.lines-item.is c.requires.start.2 c.requires.start.3 c.requires.start.4,
          ),
        ),
      ),
    )

pub loop-lines-init : goal.loop-lines-init
loop-lines-init g c = record {
  so_far = λ setup start. nothing_yet setup c.args.form (RunBy g.J.Judge.verdict setup c.args.actors.now c.args.runner) (g.K.Sink.contents c.args.out.now) start;
  later = omega arith;
}

pub loop-lines-preserved : goal.loop-lines-preserved
loop-lines-preserved g c = record {
  so_far = λ setup start.
      let done = c.loop-lines.invariant.so_far setup start in
      subst (λ (l : List (List Line)). HasWritten (RunBy g.J.Judge.verdict setup c.args.actors.now c.in_ok-runner.runner) setup l c.args.form (g.K.Sink.contents c.args.out.now) (g.K.Sink.contents c.run_phase.new.out))
      (sym (done_more c.args.phases.now c.loop-lines.lines-index c.lines-item.result _ c.loop-lines-test.true c.lines-item.is))
      (phase_more setup c.args.form (RunBy g.J.Judge.verdict setup c.args.actors.now c.loop-lines.runner) (RunBy g.J.Judge.verdict setup c.args.actors.now c.in_ok-runner.runner)
      (map (λ phase. phase.items) (take c.loop-lines.lines-index c.args.phases.now)) c.lines-item.result.items c.in_ok-runner.ensures.run.report _ _ _ done
      (c.in_ok-runner.ensures.run.run setup _ done.reports done.played) c.in_ok-runner.ensures.run.said);
  later = omega (arith, c.loop-lines.invariant.later, c.in_ok-runner.ensures.later);
}

pub returns-in_err-runner-clause-stopped : goal.returns-in_err-runner-clause-stopped
returns-in_err-runner-clause-stopped g c =
    let ending = c.in_err-runner.field-0.0 in
    made_of _ c.from_residual.result ending c.from_residual.ensures.1
    (λ setup start.
    let done = c.loop-lines.invariant.so_far setup start in
    ends_cut (AreRun setup c.args.actors.now) (map (λ phase. phase.items) c.args.phases.now) c.args.form _ _ _ _ ending c.in_err-runner.ensures.cut
    (λ is.
    let cut = c.in_err-runner.ensures.front (ap (λ (e : Ending). Err e) is) in
    cut_in_phase setup c.args.form (RunBy g.J.Judge.verdict setup c.args.actors.now c.loop-lines.runner) (RunBy g.J.Judge.verdict setup c.args.actors.now cut.0)
    (map (λ phase. phase.items) (take c.loop-lines.lines-index c.args.phases.now)) c.lines-item.result.items cut.1.report _ _ _ done (cut.1.run setup _ done.reports done.played)
    (AreRun setup c.args.actors.now) (λ phases reports run. is_run g.J.Judge.verdict setup c.args.actors.now cut.0 _ reports run)
    (map (λ phase. phase.items) c.args.phases.now) (map (λ phase. phase.items) (drop (c.loop-lines.lines-index + 1) c.args.phases.now))
    (done_and_left c.args.phases.now (c.loop-lines.lines-index + 1)
    ∙ ap (λ (l : List (List Line)). l ++ map (λ (phase : Vec Line Global). phase.items) (drop (c.loop-lines.lines-index + 1) c.args.phases.now))
    (done_more c.args.phases.now c.loop-lines.lines-index c.lines-item.result _ c.loop-lines-test.true c.lines-item.is))
    cut.1.said)
    (λ is. cut_between setup c.args.form (RunBy g.J.Judge.verdict setup c.args.actors.now c.loop-lines.runner) (AreRun setup c.args.actors.now)
    (λ phases reports run. is_run g.J.Judge.verdict setup c.args.actors.now c.loop-lines.runner _ reports run)
    (map (λ phase. phase.items) (take c.loop-lines.lines-index c.args.phases.now)) _ _ _ done
    (map (λ phase. phase.items) c.args.phases.now) (map (λ phase. phase.items) (drop c.loop-lines.lines-index c.args.phases.now)) (done_and_left c.args.phases.now c.loop-lines.lines-index)
    (c.in_err-runner.ensures.nothing (ap (λ (e : Ending). Err e) is)))
    _ c.loop-lines.invariant.later (λ is. c.in_err-runner.ensures.write (ap (λ (e : Ending). Err e) is)))

pub returns-clause-run : goal.returns-clause-run
returns-clause-run g c = λ setup start.
    subst (λ (l : List (List Line)). HasWritten (IsLegalPlay setup c.args.actors.now) setup l c.args.form (g.K.Sink.contents c.args.out.now) (g.K.Sink.contents c.loop-lines.out))
    (done_all c.args.phases.now c.loop-lines.lines-index c.loop-lines-test.false)
    (written_so setup c.args.form (RunBy g.J.Judge.verdict setup c.args.actors.now c.loop-lines.runner) (IsLegalPlay setup c.args.actors.now)
    (is_run g.J.Judge.verdict setup c.args.actors.now c.loop-lines.runner) _ _ _ (c.loop-lines.invariant.so_far setup start))
