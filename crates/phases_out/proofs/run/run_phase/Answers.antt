use Rattle.std.proofs.Common.{◌≡◌, Err, ap}
use Rattle.phases_out.specs.declared.ending.Ending.{Ending}
use Rattle.phases_out.specs.declared.ending.Ending.TheVariants.{OutOfMemory, SinkFailed}
use Rattle.phases_out.proofs.Running.{made_is}
use Rattle.phases_out.proofs.run.run_phase.Goals as goal

pub returns-in_err-report-clause-front : goal.returns-in_err-report-clause-front
returns-in_err-report-clause-front g c = λ is.
    absurd (let e : OutOfMemory ≡ SinkFailed = made_is c.from_residual.result _ _ c.from_residual.ensures.1 is in cc)

pub returns-in_err-write_phase-clause-front : goal.returns-in_err-write_phase-clause-front
returns-in_err-write_phase-clause-front g c = λ is.
    let failed = made_is c.from_residual-in_err-write_phase.result _ _ c.from_residual-in_err-write_phase.ensures.1 is in
    (_, record { report = _; run = c.in_ok-report.ensures; said = c.in_err-write_phase.ensures.front (ap (λ (e : Ending). Err e) failed) })

pub returns-clause-run : goal.returns-clause-run
returns-clause-run g c = record { report = _; run = c.in_ok-report.ensures; said = c.in_ok-write_phase.ensures.whole }
