use Rattle.std.proofs.Common.{◌≡◌, ◌+◌, length, refl, ap, subst, arith}
use Rattle.phase_actors.specs.declared.actor.Actor.{Actor}
use Rattle.phase_room.proofs.Dealing.{all_none, longer_by_one}
use Rattle.room_open.proofs.Places.{all_later, later_more}
use Rattle.room_open.proofs.Seating.{all_seated, seated_more}
use Rattle.room_open.specs.Laid.{IsSeated}
use Rattle.room_open.specs.Lists.{AreLater}
use Rattle.room_open.proofs.actors.seat_all.Goals as goal

pub loop-number-init : goal.loop-number-init
loop-number-init c = record {
  many = ap length c.new-actors.ensures.items;
  seated = λ number actor at. all_none (λ (a : Actor). IsSeated c.args.hands.now.items c.args.passes.now.items number a) c.new-actors.result.items c.new-actors.ensures.items number actor at;
  hands_are = all_later 0 c.args.hands.now.items;
  passes_are = all_later 0 c.args.passes.now.items;
}

pub loop-number-preserved : goal.loop-number-preserved
loop-number-preserved c =
    let i = c.loop-number.invariant in
    let n = c.loop-number.number in
    let hands = c.args.hands.now.items in
    let passes = c.args.passes.now.items in
    let seated = seated_more hands c.loop-number.hands.items passes c.loop-number.passes.items n c.seat_next-actor.result i.hands_are i.passes_are c.seat_next-actor.ensures.seated in
    record {
      many = longer_by_one c.loop-number.actors.items c.push.new.self.items c.seat_next-actor.result n i.many c.in_ok-push.ensures.items;
      seated = all_seated hands passes c.loop-number.actors.items c.push.new.self.items c.seat_next-actor.result n i.seated i.many seated c.in_ok-push.ensures.items;
      hands_are = later_more n (n + 1) hands c.loop-number.hands.items c.seat_next-actor.new.hands.items refl i.hands_are c.seat_next-actor.ensures.hands;
      passes_are = later_more n (n + 1) passes c.loop-number.passes.items c.seat_next-actor.new.passes.items refl i.passes_are c.seat_next-actor.ensures.passes;
    }

pub seat_next-actor-requires : goal.seat_next-actor-requires
seat_next-actor-requires c =
    let i = c.loop-number.invariant in
    let below = c.loop-number-test.true in
    let hands = i.hands_are.count in
    let passes = i.passes_are.count in
    let enough = c.requires in
    let own = enough.0 in
    let shown = enough.1 in
    (omega (arith, below, hands, own), omega (arith, below, passes, shown))

pub returns-clause-count : goal.returns-clause-count
returns-clause-count c =
    let many = c.loop-number.invariant.many in
    let end = c.loop-number.auto.number-end in
    let past = c.loop-number-test.false in
    omega (arith, many, end, past)

pub returns-clause-seated : goal.returns-clause-seated
returns-clause-seated c = c.loop-number.invariant.seated

pub returns-clause-left : goal.returns-clause-left
returns-clause-left c =
    let i = c.loop-number.invariant in
    let end = c.loop-number.auto.number-end in
    let past = c.loop-number-test.false in
    let all : c.loop-number.number ≡ c.args.count = omega (arith, end, past) in (
      subst (λ n. AreLater n c.args.hands.now.items c.loop-number.hands.items) all i.hands_are,
      subst (λ n. AreLater n c.args.passes.now.items c.loop-number.passes.items) all i.passes_are,
    )
