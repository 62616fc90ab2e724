use Rattle.std.proofs.Common.{Some, ap, subst, sym, ◌∙◌}
use Rattle.std.specs.Prelude.{slice_get}
use Rattle.jour.specs.Seats.{front, journal}
use Rattle.jour_rule.specs.Laws.{AreOfMakers}
use Rattle.phase_legal.specs.Shown.{HandView}
use Rattle.room_members.specs.Members.{room_seen}
use Rattle.room_run.specs.Inside.{StartsOnce}
use Rattle.room_run.proofs.Starters.{starts_once}
use Rattle.room_run.proofs.starting.start_with.Goals as goal

pub tell_actors-requires-clause-starter : goal.tell_actors-requires-clause-starter
tell_actors-requires-clause-starter g c = c.requires.hand ∙ ap Some (sym c.operate_start.ensures.hand.0)

pub returns-clause-starts : goal.returns-clause-starts
returns-clause-starts g c =
    let did = c.operate_start.ensures in
    let starter = (g.P.Phase.terms c.args.room.now.played.value).starter in
    let same = c.tell_actors.ensures.starter in
    let lawful = subst (λ (z : HandView). AreOfMakers z.1.seen.terms.opening (front z.1)) same c.seen-seen.ensures.lawful in
    subst (StartsOnce c.args.hand.now) (sym same)
    (starts_once starter c.args.hand.now c.operate_start.new.hand did.hand.0 did.hand.1 did.prefix c.in_ok-operate_start.ensures.said c.requires.number c.requires.hands lawful c.in_ok-tell_actors.ensures.none)
