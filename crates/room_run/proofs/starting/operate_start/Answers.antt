use Rattle.std.proofs.Common.{arith}
use Rattle.jour.specs.Seats.{number_of}
use Rattle.room_run.proofs.Starters.{start_line}
use Rattle.room_run.proofs.starting.operate_start.Goals as goal

pub operate-requires-clause-there : goal.operate-requires-clause-there
operate-requires-clause-there g c = let w = c.requires.there in let n = c.args.room.now.members.ok.0 in omega (arith, n, w)

pub operate-requires-clause-line : goal.operate-requires-clause-line
operate-requires-clause-line g c =
    start_line g.P.Phase.terms g.P.Sends.exports g.P.Sends.rules c.args.room.now c.requires.room c.args.number (number_of c.args.hand.now.1.role) c.requires.number
