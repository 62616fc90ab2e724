use Rattle.std.proofs.Common.{[], map, refl, subst, sym}
use Rattle.core_setup.specs.Setup.{IsSetup, Setup}
use Rattle.sys_threads.specs.Running.{HasRun}
use Rattle.phases_out.specs.Written.{AreRun}
use Rattle.phases_out.proofs.Writing.{ends_before, none_run}
use Rattle.phases_out.proofs.run.run_all.Goals as goal

pub of-requires-clause-setup : goal.of-requires-clause-setup
of-requires-clause-setup g c = subst IsSetup (sym c.requires.start.1) c.requires.start.2

pub of-requires-clause-few : goal.of-requires-clause-few
of-requires-clause-few g c = c.can_run.ensures.few c.if-not-can_run.false

pub run_by_runner-requires-clause-start : goal.run_by_runner-requires-clause-start
run_by_runner-requires-clause-start g c κs within =
    let run = subst (λ (s : Setup). HasRun g.J.Judge.verdict s c.args.actors.now [] [] c.in-Ok.runner) c.requires.start.1 (c.in-Ok.ensures c.args.actors.now refl) in
    (c.requires.start.0, run, c.requires.start.3, c.requires.start.4, c.can_run.ensures.short c.if-not-can_run.false)

pub returns-in-Ok : goal.returns-in-Ok
returns-in-Ok g c = λ setup is.
    c.run_by_runner.ensures setup (subst (λ (s : Setup). HasRun g.J.Judge.verdict s c.args.actors.now [] [] c.in-Ok.runner) is (c.in-Ok.ensures c.args.actors.now refl))

pub returns-in-Err : goal.returns-in-Err
returns-in-Err g c = λ setup is. ends_before (AreRun setup c.args.actors.now) (none_run setup c.args.actors.now) (map (λ phase. phase.items) c.args.phases.now) c.args.form _ _
