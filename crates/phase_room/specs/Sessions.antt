-- Protocols with routes of their own in a room (`IsSession`): a session is its protocol's, of the
-- phase, over its table, and its channel, where it has one, has the one table and the one list of
-- marks.
-- Not modelled: pipes.
-- From: own.
-- Example: the room of a phase of one BGP protocol over one table has one session, whose table is the
-- first.
use Rattle.std.specs.Prelude.{◌≡◌, ℕ, List, Option, Some, None, option_map, slice_get, ⊤}
use Rattle.atomic_table.specs.Seated.{TableId}
use Rattle.attrs.specs.declared.judge.Verdict.{Verdict}
use Rattle.attrs.specs.declared.route.Route.{Route}
use Rattle.bits_ip.specs.Prefix.{Net}
use Rattle.core_setup.specs.Protocols.{rules_of}
use Rattle.core_setup.specs.Setup.{Exports}
use Rattle.jour_rule.specs.declared.views.Terms.{Terms}
use Rattle.table_shared.specs.Opening.{TableOpening}
use Rattle.import_lock.specs.Locks.{terms_of}
use Rattle.import_lock.specs.Terms.{ImportTerms, PhaseTerms}
use Rattle.export_lock.specs.Kept.{IsExports}
use Rattle.export_lock.specs.Locks.{terms_of as export_terms_of}
use Rattle.export_lock.specs.Terms.{ExportTerms}
use Rattle.export_lock.specs.declared.key.ExportKey.{ExportKey}
use Rattle.export_lock.specs.declared.state.ExportState.{ExportState}
use Rattle.phase_room.specs.Together.{AreTogether}
use Rattle.phase_room.specs.declared.session.Session.{Session}

-- the channel of a protocol, where it has one
abbrev pub IsChannelOf : ImportTerms → Option ExportTerms → Type 0
IsChannelOf protocol None = protocol.marks ≡ None
IsChannelOf protocol (Some channel) = AreTogether protocol channel

-- the protocol of a number in a phase, over the table of a number
pub record IsSession
    (phase : PhaseTerms) (tables : List (TableId × Terms TableOpening)) (number home : ℕ)
    (protocol : ImportTerms) (channel : Option ExportTerms) : Type 0 where
  pub phase_is : protocol.phase ≡ phase
  pub number_is : protocol.number ≡ number
  pub home_is : (rules_of phase.setup).table number ≡ home
  pub table : slice_get tables home ≡ Some protocol.port
  pub channel_is : IsChannelOf protocol channel

module _ {J P : Type 0} where
  abbrev pub protocol_terms : (P → PhaseTerms) → Session J P → ImportTerms
  protocol_terms terms session = terms_of terms session.import.1

  abbrev pub channel_terms : (P → ℕ → Exports) → Session J P → Option ExportTerms
  channel_terms exports session = option_map (λ lock. export_terms_of exports lock.1) session.export

-- what lay under a channel's lock as the phase ended, where there is a channel
abbrev pub AreClosed :
    {J P : Type 0} → (J → Net → Route → Verdict) → (P → ℕ → Exports)
    → Option (TableId × ExportKey P) → Option (ExportState J) → Type 0
AreClosed verdict exports None None = ⊤
AreClosed verdict exports (Some lock) (Some state) =
    IsExports verdict (export_terms_of exports lock.1) state
AreClosed verdict exports _ _ = ⊥
