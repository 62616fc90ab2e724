use Rattle.std.proofs.Common.{Err, None, ap, inl}
use Rattle.std.proofs.KnownBytes.{Keeps-refl}
use Rattle.conf_system.specs.Seen.{system_of}
use Rattle.birdcore_top.specs.Command.{Check}
use Rattle.birdcore_top.specs.declared.status.Status.{Status}
use Rattle.birdcore_top.proofs.Joined.{accepted_of}
use Rattle.birdcore_top.proofs.Owed.{accepted, stopped, stops_alone}
use Rattle.birdcore_top.proofs.top.check_conf.Goals as goal

pub returns-in-Ok : goal.returns-in-Ok
returns-in-Ok g c =
    accepted (record { accepted = c.files_have_one_outcome.ensures.accepted; one = c.files_have_one_outcome.ensures.one })
    (Check c.args.conf.now None) _ _ _ _
    (accepted_of (g.F.Shelf.held c.args.shelf.now c.args.conf.now) (system_of c.in-Ok._system) c.in-Ok.ensures.config) (c.in-Ok.ensures.absent, tt)
    c.write_accepted.result c.write_accepted.ensures.end c.write_accepted.ensures.whole c.write_accepted.ensures.front c.write_accepted.ensures.write

pub returns-in-Err : goal.returns-in-Err
returns-in-Err g c =
    stopped (record { accepted = c.files_have_one_outcome.ensures.accepted; one = c.files_have_one_outcome.ensures.one })
    (Check c.args.conf.now None) _ _ _ _ c.in-Err.status (stops_alone c.args.conf.now (g.F.Shelf.held c.args.shelf.now) c.in-Err.status c.in-Err.ensures.stopped)
    (λ is. c.in-Err.ensures.read (ap (λ (s : Status). Err s) is)) (λ is. inl (c.in-Err.ensures.by_name (ap (λ (s : Status). Err s) is)))
    (record { conf_lacked = c.in-Err.ensures.absent; script_lacked = tt }) (Keeps-refl _)
