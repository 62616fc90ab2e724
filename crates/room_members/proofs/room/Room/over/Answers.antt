use Rattle.std.proofs.Common.{subst, sym}
use Rattle.phase_pipes.specs.Sources.{AreSourcesOf}
use Rattle.room_members.proofs.Rooms.{no_members}
use Rattle.room_members.proofs.room.Room.over.Goals as goal

pub returns-clause-room : goal.returns-clause-room
returns-clause-room g c = record {
  sources = subst (λ z. AreSourcesOf (g.P.Phase.terms z).setup c.args.sources.items) (sym c.of.ensures) c.requires.sources;
  members = no_members g.P.Phase.terms g.P.Sends.exports g.P.Sends.rules (g.P.Phase.terms c.of.result.value) c.args.tables.items c.new.result.items c.new.ensures.items;
}
