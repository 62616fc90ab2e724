use Rattle.room_members.proofs.Rooms.{table_here, table_there}
use Rattle.room_workers.proofs.Reading.{reads_here}
use Rattle.room_workers.proofs.serving.serve_own.Goals as goal

pub index-table-requires : goal.index-table-requires
index-table-requires g c = table_there g.P.Phase.terms g.P.Sends.exports g.P.Sends.rules c.args.room.now c.requires.room c.requires.there.0 c.args.session.now c.requires.there.1

pub serve_channel-busy-requires : goal.serve_channel-busy-requires
serve_channel-busy-requires g c =
    reads_here g.P.Phase.terms g.P.Sends.exports g.P.Sends.rules c.args.room.now c.requires.room c.requires.there.0 c.args.session.now c.requires.there.1 c.in-Some.channel c.index-table.result.now c.in-Some.is
    (table_here g.P.Phase.terms g.P.Sends.exports g.P.Sends.rules c.args.room.now c.requires.room c.requires.there.0 c.args.session.now c.requires.there.1 c.index-table.result.now c.index-table.ensures)
