-- A pipe at its place in a room: its tables are those of its session, and it gives no change that a
-- pass has to see.
use Rattle.std.proofs.Common.{◌≡◌, ℕ, ◌<◌, ◌≤◌, List, [], length, get_or, Some, arith, sym, ap, subst, ◌∙◌}
use Rattle.std.specs.Prelude.{slice_get, vec_len}
use Rattle.std.proofs.lemmas.Option.{get_or_from_slice_get, slice_get_within}
use Rattle.atomic_table.specs.Seated.{TableId}
use Rattle.attrs.specs.declared.route.Src.{Src}
use Rattle.core_machine.specs.Rules.{Rules}
use Rattle.core_machine.specs.Lines.{ops_of}
use Rattle.core_setup.specs.Protocols.{rules_of}
use Rattle.core_setup.specs.Setup.{Exports}
use Rattle.import_core.specs.declared.operation.Op.{Op}
use Rattle.import_lock.specs.Terms.{PhaseTerms}
use Rattle.jour_rule.specs.declared.views.Terms.{Terms}
use Rattle.jour_rule.specs.Journal.{receipts}
use Rattle.jour.specs.Seats.{front}
use Rattle.phase_legal.specs.Changes.{given}
use Rattle.phase_legal.specs.Shown.{HandView, IsSeen, PassView}
use Rattle.phase_legal.specs.Turns.{turns_told}
use Rattle.phase_pipes.specs.Sessions.{IsPipeSession, back_terms, out_terms, pipe_terms}
use Rattle.phase_pipes.specs.Sources.{AreSourcesOf}
use Rattle.phase_pipes.specs.declared.session.PipeSession.{PipeSession}
use Rattle.pipe_lock.proofs.Signalling.{gives_none}
use Rattle.pipe_lock.specs.Terms.{PipeTerms}
use Rattle.table_shared.specs.Opening.{TableOpening}
use Rattle.room_members.specs.Members.{IsRoom, room_seen}
use Rattle.room_members.specs.declared.member.Member.TheVariants.{Pipe}
use Rattle.room_members.specs.declared.room.Room.{Room}

module _ {J P : Type 0} (terms : P → PhaseTerms) (exports : P → ℕ → Exports) (rules : P → Rules) (room : Room J P) (is : IsRoom terms exports rules room) (number : ℕ) (pipe : PipeSession J P) (at : slice_get room.members.items number ≡ Some (Pipe pipe)) where
  here : IsPipeSession (terms room.played.value) room.tables.items number pipe.primary pipe.peer (pipe_terms terms pipe) (out_terms exports rules pipe) (back_terms exports rules pipe)
  here = is.members number (Pipe pipe) at

  pub primary_there : pipe.primary < vec_len room.tables
  primary_there = subst (λ n. pipe.primary < n) (sym room.tables.ok.0) (slice_get_within room.tables.items pipe.primary (pipe_terms terms pipe).out.table here.out_is.read)

  pub peer_there : pipe.peer < vec_len room.tables
  peer_there = subst (λ n. pipe.peer < n) (sym room.tables.ok.0) (slice_get_within room.tables.items pipe.peer (pipe_terms terms pipe).back.table here.back_is.read)

  -- the pipe's session over the room's tables
  pub session_here :
      IsPipeSession (pipe_terms terms pipe).phase room.tables.items number pipe.primary pipe.peer (pipe_terms terms pipe) (out_terms exports rules pipe) (back_terms exports rules pipe)
  session_here = subst (λ z. IsPipeSession z room.tables.items number pipe.primary pipe.peer (pipe_terms terms pipe) (out_terms exports rules pipe) (back_terms exports rules pipe)) (sym here.phase_is) here

  pub sources_here : AreSourcesOf (pipe_terms terms pipe).phase.setup room.sources.items
  sources_here = subst (λ (z : PhaseTerms). AreSourcesOf z.setup room.sources.items) (sym here.phase_is) is.sources

  none_given : (past ops : List Op) → given (rules_of (terms room.played.value).setup) number past ops ≡ []
  none_given past ops =
      subst (λ (z : PhaseTerms). given (rules_of z.setup) number past ops ≡ []) here.phase_is
      (subst (λ i. given (rules_of (pipe_terms terms pipe).phase.setup) i past ops ≡ []) here.number_is (gives_none (pipe_terms terms pipe) past ops here.terms))

  -- all that it gives, which is nothing, is seen
  pub pipe_seen : (port : ℕ) (hand : HandView) (pass : PassView) → IsSeen (room_seen terms room) number port hand pass
  pipe_seen port hand pass =
      let past = ops_of ((terms room.played.value).past number) in
      let told = ops_of (turns_told (terms room.played.value).lines (front hand.1)) in
      let none = ap length (none_given past told) in
      omega (arith, none)
