use Rattle.room_run.proofs.Rooms.{are_new, have_not_started, start_seats}
use Rattle.room_ends.specs.Played.{starts_of}
use Rattle.room_run.proofs.playing.play_room.Goals as goal

pub start_and_act-requires-clause-room : goal.start_and_act-requires-clause-room
start_and_act-requires-clause-room g c κs within = c.requires.opening.3.room

pub start_and_act-requires-clause-actors : goal.start_and_act-requires-clause-actors
start_and_act-requires-clause-actors g c κs within = let o = c.requires.opening in are_new g.P.Phase.terms g.P.Sends.exports g.P.Sends.rules o.0 o.1 o.2 c.args.opening o.3

pub start_and_act-requires-clause-seats : goal.start_and_act-requires-clause-seats
start_and_act-requires-clause-seats g c κs within = let o = c.requires.opening in start_seats g.P.Phase.terms g.P.Sends.exports g.P.Sends.rules o.0 o.1 o.2 c.args.opening o.3

pub start_and_act-requires-clause-none : goal.start_and_act-requires-clause-none
start_and_act-requires-clause-none g c κs within = let o = c.requires.opening in have_not_started g.P.Phase.terms g.P.Sends.exports g.P.Sends.rules o.0 o.1 o.2 c.args.opening o.3

pub end_room-requires-clause-room : goal.end_room-requires-clause-room
end_room-requires-clause-room g c = c.requires.opening.3.room

pub end_room-requires-clause-ports : goal.end_room-requires-clause-ports
end_room-requires-clause-ports g c = c.requires.opening.3.ports

pub returns-clause-played : goal.returns-clause-played
returns-clause-played g c = c.in_ok-played.ensures (starts_of c.args.statics.now) c.in_ok-through.ensures.started
