use Rattle.room_members.proofs.Pipes.{peer_there, primary_there}
use Rattle.room_workers.proofs.Doors.{back_door}
use Rattle.room_workers.proofs.lanes.serve_back.Goals as goal

pub index-primary-requires : goal.index-primary-requires
index-primary-requires g c = primary_there g.P.Phase.terms g.P.Sends.exports g.P.Sends.rules c.args.room.now c.requires.room c.requires.there.0 c.args.pipe.now c.requires.there.1

pub index-peer-requires : goal.index-peer-requires
index-peer-requires g c = peer_there g.P.Phase.terms g.P.Sends.exports g.P.Sends.rules c.args.room.now c.requires.room c.requires.there.0 c.args.pipe.now c.requires.there.1

pub serve_lane-requires : goal.serve_lane-requires
serve_lane-requires g c = record {
  door = back_door g.P.Phase.terms g.P.Sends.exports g.P.Sends.rules c.args.room.now c.requires.room c.requires.there.0 c.args.pipe.now c.requires.there.1
      c.index-primary.result.now c.index-peer.result.now c.index-primary.ensures c.index-peer.ensures c.directions_know_their_sources.ensures c.as_slice-sources.result.now c.as_slice-sources.ensures.value;
}
