-- All that is given of a phase that threads have played (`Given`), and its parts by short names.
use Rattle.std.proofs.Common.{◌≡◌, ℕ, List, length, Option}
use Rattle.attrs.specs.declared.journal.JEntry.{JEntry}
use Rattle.attrs.specs.declared.judge.Verdict.{Verdict}
use Rattle.attrs.specs.declared.route.Route.{Route}
use Rattle.bits_ip.specs.Prefix.{Net}
use Rattle.export_core.specs.declared.log.LogItem.{LogItem}
use Rattle.jour_rule.specs.declared.views.Entry.{Entry}
use Rattle.core_machine.specs.Legal.{Joined}
use Rattle.core_machine.specs.Lines.{Act, Line}
use Rattle.core_machine.specs.Rules.{IsRules, Rules}
use Rattle.core_setup.specs.Protocols.{rules_of}
use Rattle.core_setup.specs.Setup.{Exports, Setup}
use Rattle.phase_legal.specs.Shown.{HandView, Room}
use Rattle.import_lock.specs.Terms.{ImportTerms, PhaseTerms}
use Rattle.export_lock.specs.Terms.{ExportTerms}
use Rattle.pipe_lock.specs.Terms.{PipeTerms}
use Rattle.phase_room.specs.Sessions.{channel_terms, protocol_terms}
use Rattle.phase_room.specs.declared.session.Session.{Session}
use Rattle.phase_pipes.specs.Sessions.{pipe_terms}
use Rattle.phase_pipes.specs.declared.session.PipeSession.{PipeSession}
use Rattle.phase_close.specs.Closed.{SessionTerms, TableList}
use Rattle.phase_close.specs.Whole.{entries_at, said_at}
use Rattle.pipe_close.specs.Left.{PipeLocks}
use Rattle.room_members.specs.Members.{room_seen}
use Rattle.room_open.specs.Opening.{IsOpening}
use Rattle.room_open.specs.Standing.{Stands}
use Rattle.room_open.specs.declared.opening.Opening.{Opening}
use Rattle.room_open.specs.declared.standing.Standing.{Standing}
use Rattle.room_ends.specs.Left.{locks_of}
use Rattle.room_ends.specs.Played.{AreOfFew, AreStartActs, IsPlayed}
use Rattle.room_ends.specs.declared.played.PlayedRoom.{PlayedRoom}
use Rattle.room_whole.specs.Past.{HasPast}
use Rattle.room_whole.specs.Starts.{AreOfProtocols}

pub record Given (J P : Type 0) : Type 0 where
  pub verdict : J → Net → Route → Verdict
  pub terms : P → PhaseTerms
  pub exports : P → ℕ → Exports
  pub rules : P → Rules
  pub old : Standing J
  pub opening : Opening J P
  pub starts : List Act
  pub made : PlayedRoom J
  pub past : Joined
  pub ruled : IsRules (rules_of (terms opening.room.played.value).setup)
  pub stands : Stands verdict (terms opening.room.played.value) (exports opening.room.played.value) old
  pub was : HasPast (terms opening.room.played.value).setup past old
  pub same_past : (terms opening.room.played.value).past ≡ past.ops
  pub few : AreOfFew (terms opening.room.played.value).starter (length (terms opening.room.played.value).setup.protocols) (terms opening.room.played.value).lines
  pub begin : AreStartActs starts
  pub begins : AreOfProtocols (length (terms opening.room.played.value).setup.protocols) starts
  pub opens : IsOpening terms exports rules opening.room.played.value old.tables.items old.members.items opening
  pub played : IsPlayed verdict terms exports rules opening.room starts made

module _ {J P : Type 0} where
  abbrev pub phase_of : Given J P → PhaseTerms
  phase_of g = g.terms g.opening.room.played.value

  abbrev pub exports_of : Given J P → ℕ → Exports
  exports_of g = g.exports g.opening.room.played.value

  abbrev pub setup_of : Given J P → Setup
  setup_of g = (phase_of g).setup

  abbrev pub rules_in : Given J P → Rules
  rules_in g = rules_of (setup_of g)

  abbrev pub lines_of : Given J P → List Line
  lines_of g = (phase_of g).lines

  abbrev pub seen_of : Given J P → Room
  seen_of g = room_seen g.terms g.opening.room

  -- the logs that stood
  abbrev pub logs_of : Given J P → ℕ → List LogItem
  logs_of g = g.was.logs

  abbrev pub lists_of : Given J P → List TableList
  lists_of g = g.played.synced.over.lists

  abbrev pub entries_of : Given J P → ℕ → List Entry
  entries_of g = entries_at (lists_of g)

  abbrev pub said_of : Given J P → ℕ → List JEntry
  said_of g = said_at g.made.ended.phases.items

  -- ---- the locks of a protocol with routes of its own

  abbrev pub key_of : Given J P → Session J P → ImportTerms
  key_of g session = protocol_terms g.terms session

  abbrev pub lock_of : Given J P → Session J P → Option ExportTerms
  lock_of g session = channel_terms g.exports session

  abbrev pub seats_of : Given J P → Session J P → List HandView → SessionTerms
  seats_of g session hands = record { protocol = key_of g session; channel = lock_of g session; hands = hands }

  -- ---- and of a pipe

  abbrev pub pipe_of : Given J P → PipeSession J P → PipeTerms
  pipe_of g session = pipe_terms g.terms session

  abbrev pub locks_in : Given J P → PipeSession J P → PipeLocks
  locks_in g session = locks_of g.terms g.exports g.rules session
