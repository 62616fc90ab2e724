use Rattle.std.proofs.Common.{subst, sym}
use Rattle.std.specs.Prelude.{vec_len}
use Rattle.std.proofs.lemmas.Option.{slice_get_read}
use Rattle.phase_pipes.specs.Sessions.{pipe_terms}
use Rattle.phase_pipes.specs.Sources.{AreSourcesOf}
use Rattle.room_members.proofs.Pipes.{peer_there, primary_there, session_here, sources_here}
use Rattle.room_members.proofs.room.Room.operate_pipe.Goals as goal

pub index-primary-requires : goal.index-primary-requires
index-primary-requires g c = primary_there g.P.Phase.terms g.P.Sends.exports g.P.Sends.rules c.args.self.now c.requires.room c.args.protocol c.args.pipe.now c.requires.there

pub index-peer-requires : goal.index-peer-requires
index-peer-requires g c = peer_there g.P.Phase.terms g.P.Sends.exports g.P.Sends.rules c.args.self.now c.requires.room c.args.protocol c.args.pipe.now c.requires.there

pub operate-requires-clause-session : goal.operate-requires-clause-session
operate-requires-clause-session g c =
    let tables = c.args.self.now.tables in
    let first = primary_there g.P.Phase.terms g.P.Sends.exports g.P.Sends.rules c.args.self.now c.requires.room c.args.protocol c.args.pipe.now c.requires.there in
    let second = peer_there g.P.Phase.terms g.P.Sends.exports g.P.Sends.rules c.args.self.now c.requires.room c.args.protocol c.args.pipe.now c.requires.there in (
      tables.items,
      c.args.protocol,
      session_here g.P.Phase.terms g.P.Sends.exports g.P.Sends.rules c.args.self.now c.requires.room c.args.protocol c.args.pipe.now c.requires.there,
      slice_get_read tables.items (vec_len tables) c.args.pipe.now.primary c.index-primary.result.now tables.ok.0 first c.index-primary.ensures,
      slice_get_read tables.items (vec_len tables) c.args.pipe.now.peer c.index-peer.result.now tables.ok.0 second c.index-peer.ensures,
    )

pub operate-requires-clause-sources : goal.operate-requires-clause-sources
operate-requires-clause-sources g c =
    subst (AreSourcesOf (pipe_terms g.P.Phase.terms c.args.pipe.now).phase.setup) (sym c.as_slice-sources.ensures.value)
    (sources_here g.P.Phase.terms g.P.Sends.exports g.P.Sends.rules c.args.self.now c.requires.room c.args.protocol c.args.pipe.now c.requires.there)
