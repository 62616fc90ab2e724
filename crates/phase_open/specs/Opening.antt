-- The session of a protocol with routes of its own as a phase begins, over what stood of it before
-- (`IsOpenSession`).
-- Not modelled: pipes.
-- From: own.
-- Example: in the first phase of a BGP protocol with two actors its turns have three hands, and its
-- channel's log is empty.
use Rattle.std.specs.Prelude.{◌≡◌, ◌+◌, ℕ, List, reverse, Option, Some, None, slice_get, ⊤}
use Rattle.core_setup.specs.Setup.{Exports}
use Rattle.export_lock.specs.Terms.{ExportTerms}
use Rattle.import_lock.specs.Terms.{PhaseTerms}
use Rattle.phase_room.specs.Journals.{turns_terms}
use Rattle.phase_room.specs.Sessions.{channel_terms, protocol_terms}
use Rattle.phase_room.specs.declared.session.Session.{Session}
use Rattle.phase_open.specs.declared.standing.StandingChannel.{StandingChannel}
use Rattle.phase_open.specs.declared.standing.StandingProtocol.{StandingProtocol}
use Rattle.phase_open.specs.declared.standing.StandingTable.{StandingTable}

module _ {J P : Type 0} (terms : P → PhaseTerms) (exports : P → ℕ → Exports) (played : P)
    (tables : List StandingTable) where
  -- the channel's lock is of what the channel lets pass, its log and its table's entries before
  pub record IsOpenChannel
      (table : ℕ) (held : StandingChannel J) (lock : ExportTerms) : Type 0 where
    pub exports_are : lock.exports ≡ exports played held.number
    pub log : lock.log ≡ reverse held.exporter.log
    pub stood : StandingTable
    pub stood_is : slice_get tables table ≡ Some stood
    pub before : lock.before ≡ stood.before.items

  -- where there is one
  abbrev pub AreOpenChannels : ℕ → Option (StandingChannel J) → Option ExportTerms → Type 0
  AreOpenChannels table None None = ⊤
  AreOpenChannels table (Some held) (Some lock) = IsOpenChannel table held lock
  AreOpenChannels table _ _ = ⊥

  -- the session of the protocol of a number
  pub record IsOpenSession (number : ℕ) (held : StandingProtocol J) (session : Session J P)
      : Type 0 where
    pub table : session.table ≡ held.table
    pub port : (protocol_terms terms session).port_number ≡ number
    pub turns : (protocol_terms terms session).turns.1 ≡ turns_terms ((terms played).starter + 1)
    pub channels : AreOpenChannels held.table held.channel (channel_terms exports session)
