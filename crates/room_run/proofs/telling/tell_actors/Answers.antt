use Rattle.std.proofs.Common.{◌≡◌, ◌∙◌, Some, arith, refl, subst, sym}
use Rattle.std.specs.Prelude.{slice_get}
use Rattle.jour.specs.Seats.{front, journal}
use Rattle.phase_legal.specs.Shown.{HandView}
use Rattle.room_members.specs.Members.{room_seen}
use Rattle.room_run.specs.Inside.{AreOfOthers}
use Rattle.room_run.proofs.Turns.{others_more}
use Rattle.room_run.proofs.telling.tell_actors.Goals as goal

pub loop-place-init : goal.loop-place-init
loop-place-init g c = record { same = refl; are = c.requires.actors; none = λ actor below. absurd (omega (arith, below)) }

pub tell_one-requires-clause-starter : goal.tell_one-requires-clause-starter
tell_one-requires-clause-starter g c =
    subst (λ (z : HandView). slice_get (room_seen g.P.Phase.terms c.args.room.now).turns c.args.number ≡ Some (journal z)) (sym c.loop-place.invariant.same) c.requires.starter

pub tell_one-requires-clause-actors : goal.tell_one-requires-clause-actors
tell_one-requires-clause-actors g c = c.loop-place.invariant.are

pub tell_one-requires-clause-place : goal.tell_one-requires-clause-place
tell_one-requires-clause-place g c =
    let w = c.loop-place-test.true in
    let n = c.len-place-end.ensures in
    let m = c.args.actors.now.ok.0 in
    let count = c.requires.actors.count in
    omega (arith, w, n, m, count)

pub loop-place-preserved : goal.loop-place-preserved
loop-place-preserved g c =
    let i = c.loop-place.invariant in record {
      same = c.tell_one.ensures.starter ∙ i.same;
      are = c.in_ok-tell_one.ensures.actors;
      none = others_more c.loop-place.place (front c.args.starter.now.1) i.none (subst (λ (z : HandView). AreOfOthers c.loop-place.place (front z.1)) i.same c.in_ok-tell_one.ensures.none);
    }

pub returns-clause-starter : goal.returns-clause-starter
returns-clause-starter g c = c.loop-place.invariant.same

pub returns-clause-none : goal.returns-clause-none
returns-clause-none g c = λ actor below.
    let past = c.loop-place-test.false in
    let n = c.len-place-end.ensures in
    let m = c.args.actors.now.ok.0 in
    let count = c.requires.actors.count in
    c.loop-place.invariant.none actor (omega (arith, below, past, n, m, count))
