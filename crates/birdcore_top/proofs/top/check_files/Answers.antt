use Rattle.std.proofs.Common.{Err, Some, ap}
use Rattle.std.proofs.KnownBytes.{Keeps-refl}
use Rattle.birdcore_top.specs.Command.{Check, usual_cells}
use Rattle.birdcore_top.specs.Given.{phases_read, setup_read}
use Rattle.birdcore_top.specs.declared.status.Status.{Status}
use Rattle.birdcore_top.proofs.Owed.{accepted, stopped, stops_check}
use Rattle.birdcore_top.proofs.top.check_files.Goals as goal

pub returns-in-Ok : goal.returns-in-Ok
returns-in-Ok g c =
    let files = c.in-Ok._files in
    accepted (record { accepted = c.files_have_one_outcome.ensures.accepted; one = c.files_have_one_outcome.ensures.one })
    (Check c.args.conf.now (Some c.args.script.now)) _ _ _ _
    (setup_read files.system files.script usual_cells, files.script.actors.items, phases_read files.script, c.in-Ok.ensures.files usual_cells) c.in-Ok.ensures.absent
    c.write_accepted.result c.write_accepted.ensures.end c.write_accepted.ensures.whole c.write_accepted.ensures.front c.write_accepted.ensures.write

pub returns-in-Err : goal.returns-in-Err
returns-in-Err g c =
    stopped (record { accepted = c.files_have_one_outcome.ensures.accepted; one = c.files_have_one_outcome.ensures.one })
    (Check c.args.conf.now (Some c.args.script.now)) _ _ _ _ c.in-Err.status (stops_check c.args.conf.now c.args.script.now (g.F.Shelf.held c.args.shelf.now) c.in-Err.status c.in-Err.ensures.stopped)
    (λ is. c.in-Err.ensures.read (ap (λ (s : Status). Err s) is)) (λ is. c.in-Err.ensures.in_turn (ap (λ (s : Status). Err s) is))
    (record { conf_lacked = c.in-Err.ensures.absent.0; script_lacked = c.in-Err.ensures.absent.1 }) (Keeps-refl _)
