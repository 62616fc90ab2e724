use Rattle.std.proofs.Common.{Err, ap}
use Rattle.std.proofs.KnownBytes.{Keeps-refl}
use Rattle.birdcore_top.specs.Command.{Play}
use Rattle.birdcore_top.specs.declared.status.Status.{Status}
use Rattle.birdcore_top.proofs.Owed.{ended, stopped, stops_play}
use Rattle.birdcore_top.proofs.top.play_files.Goals as goal

pub returns-in-Ok : goal.returns-in-Ok
returns-in-Ok g c =
    rw c.from.ensures
    (ended (record { accepted = c.files_have_one_outcome.ensures.accepted; one = c.files_have_one_outcome.ensures.one })
    (Play c.args.conf.now c.args.script.now c.args.cells c.args.form) _ _ _ _ _ _ _ (c.in-Ok.ensures.files c.args.cells) c.in-Ok.ensures.absent c.play_phases.result
    c.play_phases.ensures.report c.play_phases.ensures.front c.play_phases.ensures.begun c.play_phases.ensures.write)

pub returns-in-Err : goal.returns-in-Err
returns-in-Err g c =
    stopped (record { accepted = c.files_have_one_outcome.ensures.accepted; one = c.files_have_one_outcome.ensures.one })
    (Play c.args.conf.now c.args.script.now c.args.cells c.args.form) _ _ _ _ c.in-Err.status (stops_play c.args.conf.now c.args.script.now c.args.cells c.args.form (g.F.Shelf.held c.args.shelf.now) c.in-Err.status c.in-Err.ensures.stopped)
    (λ is. c.in-Err.ensures.read (ap (λ (s : Status). Err s) is)) (λ is. c.in-Err.ensures.in_turn (ap (λ (s : Status). Err s) is))
    (record { conf_lacked = c.in-Err.ensures.absent.0; script_lacked = c.in-Err.ensures.absent.1 }) (Keeps-refl _)

pub play_phases-requires-clause-fits : goal.play_phases-requires-clause-fits
play_phases-requires-clause-fits g c = c.in-Ok.ensures.fits c.args.cells
