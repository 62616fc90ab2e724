-- What is left of a session of either kind.
use Rattle.std.proofs.Common.{◌≡◌, ℕ}
use Rattle.std.specs.Prelude.{IfOk}
use Rattle.std.specs.declared.result.Result.{Result}
use Rattle.std.specs.declared.result.Result.TheVariants.{Err, Ok}
use Rattle.attrs.specs.declared.judge.Verdict.{Verdict}
use Rattle.attrs.specs.declared.route.Route.{Route}
use Rattle.bits_ip.specs.Prefix.{Net}
use Rattle.core_machine.specs.Rules.{Rules}
use Rattle.core_setup.specs.Setup.{Exports}
use Rattle.import_lock.specs.Terms.{PhaseTerms}
use Rattle.import_lock.specs.declared.state.OpFault.{OpFault}
use Rattle.phase_close.specs.Left.{IsSessionLeft}
use Rattle.phase_close.specs.Rooms.{HandsView, IsLeftOf}
use Rattle.phase_close.specs.declared.session.SessionLeft.{SessionLeft}
use Rattle.phase_pipes.specs.declared.session.ClosedPipe.{ClosedPipe}
use Rattle.phase_pipes.specs.declared.session.PipeSession.{PipeSession}
use Rattle.phase_room.specs.Sessions.{channel_terms, protocol_terms}
use Rattle.phase_room.specs.declared.session.Session.{Session}
use Rattle.pipe_close.specs.Left.{IsClosing, IsPipeLeft, PipeLocks}
use Rattle.pipe_close.specs.declared.close.PipeLeft.{PipeLeft}
use Rattle.room_ends.specs.Left.{IsPipeLeftOf, locks_of}

module _ {J P : Type 0} (terms : P → PhaseTerms) (exports : P → ℕ → Exports) (rules : P → Rules) (verdict : J → Net → Route → Verdict) (hands : HandsView) where
  pub own_left : (session : Session J P) (result : Result (SessionLeft J) OpFault) → IfOk result (λ (left : SessionLeft J). left.table ≡ session.table)
      → IfOk result (λ (left : SessionLeft J). IsSessionLeft verdict (protocol_terms terms session) (channel_terms exports session) hands.items left) → IfOk result (IsLeftOf terms exports verdict session hands)
  own_left session (Ok left) table is = record { table = table; left_is = is }
  own_left session (Err fault) table is = tt

  pub pipe_left : (pipe : PipeSession J P) (closed : ClosedPipe J) → IsClosing verdict (locks_of terms exports rules pipe) hands.items closed → (result : Result (PipeLeft J) OpFault)
      → IfOk result (λ (left : PipeLeft J). (left.primary ≡ pipe.primary) × (left.peer ≡ pipe.peer))
      → IfOk result (λ (left : PipeLeft J). (key : PipeLocks) → IsClosing verdict key hands.items closed → IsPipeLeft verdict key hands.items left) → IfOk result (IsPipeLeftOf terms exports rules verdict pipe hands)
  pipe_left pipe closed closing (Ok left) tables is = record { primary = tables.0; peer = tables.1; left_is = is (locks_of terms exports rules pipe) closing }
  pipe_left pipe closed closing (Err fault) tables is = tt
