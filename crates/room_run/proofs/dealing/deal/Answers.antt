use Rattle.std.proofs.Common.{map}
use Rattle.room_run.specs.Inside.{actor_of}
use Rattle.room_run.proofs.Seats.{starts_among, starts_as_many, starts_dealt}
use Rattle.room_run.proofs.dealing.deal.Goals as goal

pub deal_actors-requires-clause-none : goal.deal_actors-requires-clause-none
deal_actors-requires-clause-none g c = c.in_ok-none.ensures

pub deal_seats-requires : goal.deal_seats-requires
deal_seats-requires g c = starts_as_many g.P.Phase.terms c.args.room.now c.args.starters.items c.args.passes c.requires.seats (map actor_of c.args.all.items) c.in_ok-dealt.dealt c.in_ok-dealt.ensures

pub returns-clause-dealt : goal.returns-clause-dealt
returns-clause-dealt g c =
    starts_dealt g.P.Phase.terms c.args.room.now c.args.starters.items c.args.passes c.requires.seats (map actor_of c.args.all.items) c.in_ok-dealt.dealt c.deal_seats.new.self
    c.in_ok-deal_seats.ensures.deals c.in_ok-deal_seats.ensures.told c.in_ok-dealt.ensures

pub returns-clause-starters : goal.returns-clause-starters
returns-clause-starters g c = starts_among g.P.Phase.terms c.args.room.now c.args.starters.items c.args.passes c.requires.seats c.in_ok-dealt.dealt c.deal_seats.new.self c.in_ok-deal_seats.ensures.deals
