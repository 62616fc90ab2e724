use Rattle.std.proofs.Common.{subst}
use Rattle.std.specs.Prelude.{option_map}
use Rattle.export_lock.specs.Locks.{terms_of}
use Rattle.phase_room.specs.Sessions.{IsChannelOf}
use Rattle.phase_room.proofs.Dues.{unmarked_keeps}
use Rattle.phase_room.proofs.session.Session.mark_export.Goals as goal

pub mark_channel-requires-clause-due : goal.mark_channel-requires-clause-due
mark_channel-requires-clause-due g c =
    let d = c.requires.due in
    (d.0, d.1, d.2, d.3, d.4, d.5, subst (λ z. IsChannelOf d.0 (option_map (λ lock. terms_of g.P.Sends.exports lock.1) z)) c.in-Some.is d.6)

pub returns-in-None : goal.returns-in-None
returns-in-None g c =
    let d = c.requires.due in
    record {
      kept = unmarked_keeps g.J.Judge.verdict d.0 d.1 d.2 d.3 c.args.mark c.args.state.now d.4
          (subst (λ z. IsChannelOf d.0 (option_map (λ lock. terms_of g.P.Sends.exports lock.1) z)) c.in-None.is d.6) c.requires.rest;
    }
