use Rattle.std.proofs.Common.{Err, ap}
use Rattle.std.proofs.KnownBytes.{Keeps-refl}
use Rattle.birdcore_top.specs.Command.{Run}
use Rattle.birdcore_top.specs.declared.status.Status.{Status}
use Rattle.birdcore_top.proofs.Owed.{ended, stopped, stops_run}
use Rattle.birdcore_top.proofs.top.run_files.Goals as goal

pub returns-in-Ok : goal.returns-in-Ok
returns-in-Ok g c =
    rw c.from.ensures
    (ended (record { accepted = c.files_have_one_outcome.ensures.accepted; one = c.files_have_one_outcome.ensures.one })
    (Run c.args.conf.now c.args.script.now c.args.cells c.args.form) _ _ _ _ _ _ _ (c.in-Ok.ensures.files c.args.cells) c.in-Ok.ensures.absent c.run_phases.result
    c.run_phases.ensures.report c.run_phases.ensures.front c.run_phases.ensures.begun c.run_phases.ensures.write)

pub returns-in-Err : goal.returns-in-Err
returns-in-Err g c =
    stopped (record { accepted = c.files_have_one_outcome.ensures.accepted; one = c.files_have_one_outcome.ensures.one })
    (Run c.args.conf.now c.args.script.now c.args.cells c.args.form) _ _ _ _ c.in-Err.status (stops_run c.args.conf.now c.args.script.now c.args.cells c.args.form (g.F.Shelf.held c.args.shelf.now) c.in-Err.status c.in-Err.ensures.stopped)
    (λ is. c.in-Err.ensures.read (ap (λ (s : Status). Err s) is)) (λ is. c.in-Err.ensures.in_turn (ap (λ (s : Status). Err s) is))
    (record { conf_lacked = c.in-Err.ensures.absent.0; script_lacked = c.in-Err.ensures.absent.1 }) (Keeps-refl _)

pub run_phases-requires-clause-fits : goal.run_phases-requires-clause-fits
run_phases-requires-clause-fits g c κs within = c.in-Ok.ensures.fits c.args.cells

pub run_phases-requires-clause-named : goal.run_phases-requires-clause-named
run_phases-requires-clause-named g c κs within = c.in-Ok.ensures.named c.args.cells
