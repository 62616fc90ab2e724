-- The directions of a pipe of a room are doors between the room's tables.
use Rattle.std.proofs.Common.{◌≡◌, ℕ, List, Some, ap, get_or, subst, sym, ◌∙◌}
use Rattle.std.specs.Prelude.{slice_get, vec_len}
use Rattle.std.proofs.lemmas.Option.{slice_get_read}
use Rattle.atomic_table.specs.Seated.{TableId}
use Rattle.attrs.specs.declared.route.Src.{Src}
use Rattle.core_machine.specs.Rules.{Rules}
use Rattle.core_setup.specs.Protocols.{rules_of}
use Rattle.core_setup.specs.Setup.{Exports, IsSetup, Setup}
use Rattle.jour_rule.specs.declared.views.Terms.{Terms}
use Rattle.table_shared.specs.Opening.{TableOpening}
use Rattle.import_lock.specs.Terms.{PhaseTerms}
use Rattle.export_lock.specs.Lanes.{LaneTerms}
use Rattle.export_lock.specs.LaneTurns.{AreSources}
use Rattle.pipe_lock.specs.Doors.{IsDoor}
use Rattle.phase_pipes.specs.Sessions.{back_terms, out_terms, pipe_terms}
use Rattle.phase_pipes.specs.Sources.{AreSourcesOf}
use Rattle.phase_pipes.specs.declared.session.PipeSession.{PipeSession}
use Rattle.phase_pipes.proofs.Operating.{door_is}
use Rattle.room_members.specs.Members.{IsRoom}
use Rattle.room_members.specs.declared.member.Member.TheVariants.{Pipe}
use Rattle.room_members.specs.declared.room.Room.{Room}
use Rattle.room_members.proofs.Pipes.{peer_there, primary_there, session_here, sources_here}

-- what the law says of a direction's sources
abbrev pub KnowSources : Type 0
KnowSources =
    (setup : Setup) (lane : LaneTerms) (table : ℕ) (sources : List Src) → IsSetup setup → lane.rules ≡ rules_of setup
    → (rules_of setup).target lane.number ≡ Some table → AreSourcesOf setup sources → AreSources lane sources

module _ {J P : Type 0} (terms : P → PhaseTerms) (exports : P → ℕ → Exports) (rules : P → Rules) (room : Room J P) (is : IsRoom terms exports rules room) (number : ℕ) (pipe : PipeSession J P) (at : slice_get room.members.items number ≡ Some (Pipe pipe))
    (primary peer : TableId × Terms TableOpening) (first : primary ≡ get_or room.tables.items pipe.primary primary) (second : peer ≡ get_or room.tables.items pipe.peer peer) (know : KnowSources) where
  first_at : slice_get room.tables.items pipe.primary ≡ Some primary
  first_at = slice_get_read room.tables.items (vec_len room.tables) pipe.primary primary room.tables.ok.0 (primary_there terms exports rules room is number pipe at) first

  second_at : slice_get room.tables.items pipe.peer ≡ Some peer
  second_at = slice_get_read room.tables.items (vec_len room.tables) pipe.peer peer room.tables.ok.0 (peer_there terms exports rules room is number pipe at) second

  pub out_door : (sources : List Src) → sources ≡ room.sources.items → IsDoor (out_terms exports rules pipe) primary peer sources
  out_door sources e =
      let session = session_here terms exports rules room is number pipe at in
      let setup = (pipe_terms terms pipe).phase.setup in
      door_is (pipe_terms terms pipe) room.tables.items pipe.primary pipe.peer (pipe_terms terms pipe).out (out_terms exports rules pipe) session.out_is primary peer first_at second_at sources
      (know setup (out_terms exports rules pipe) pipe.peer sources session.terms.setup session.out_is.rules_are (ap (rules_of setup).target session.out_is.number_is ∙ session.out_is.writes_is)
      (subst (AreSourcesOf setup) (sym e) (sources_here terms exports rules room is number pipe at)))

  pub back_door : (sources : List Src) → sources ≡ room.sources.items → IsDoor (back_terms exports rules pipe) peer primary sources
  back_door sources e =
      let session = session_here terms exports rules room is number pipe at in
      let setup = (pipe_terms terms pipe).phase.setup in
      door_is (pipe_terms terms pipe) room.tables.items pipe.peer pipe.primary (pipe_terms terms pipe).back (back_terms exports rules pipe) session.back_is peer primary second_at first_at sources
      (know setup (back_terms exports rules pipe) pipe.primary sources session.terms.setup session.back_is.rules_are (ap (rules_of setup).target session.back_is.number_is ∙ session.back_is.writes_is)
      (subst (AreSourcesOf setup) (sym e) (sources_here terms exports rules room is number pipe at)))
