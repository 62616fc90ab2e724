-- What a session begins a phase with: what stands of its protocol, with its port
-- (`IsProtocolPart`), and of its channel, if it has one, with its cursor (`IsChannelPart`).
-- Entries before the phase are in their order.
-- Not modelled: pipes.
-- From: own.
-- Example: in the first phase all channels are down, so no cursor is started.
use Rattle.std.specs.Prelude.{◌≡◌, ℕ, true, [], length}
use Rattle.atomic_table.specs.Seated.{TableId}
use Rattle.attrs.specs.declared.judge.Verdict.{Verdict}
use Rattle.attrs.specs.declared.route.Route.{Route}
use Rattle.bits_ip.specs.Prefix.{Net}
use Rattle.export_core.specs.Standing.{is_open}
use Rattle.jour_rule.specs.Moves.{position_of}
use Rattle.jour_rule.specs.declared.views.Terms.{Terms}
use Rattle.jour.specs.Seats.{front, journal, number_of, own}
use Rattle.core_setup.specs.Setup.{Exports, Source}
use Rattle.table_shared.specs.Opening.{TableOpening}
use Rattle.import_lock.specs.Terms.{PhaseTerms}
use Rattle.phase_room.specs.Rooms.{BeginsTable, IsOwnPort, TableTerms}
use Rattle.phase_room.specs.Stands.{StandsChannel, StandsSource, StandsTable}
use Rattle.phase_room.specs.declared.parts.ChannelPart.{ChannelPart}
use Rattle.phase_room.specs.declared.parts.ProtocolPart.{ProtocolPart}

module _ {J : Type 0} (verdict : J → Net → Route → Verdict) (phase : PhaseTerms)
    (stood : TableTerms) (here : TableId × Terms TableOpening) where
  -- The protocol's port is of its table, has this protocol alone, and nothing is made under it.
  pub record IsProtocolPart (part : ProtocolPart J) : Type 0 where
    pub source : Source
    pub table_is : part.table ≡ source.table
    pub begins : BeginsTable stood here.1
    pub own_port : IsOwnPort part.number here.1.opening
    pub stands : StandsSource verdict phase part.number source stood part.importer
    pub port : journal part.port ≡ here
    pub port_number : number_of part.port.1.role ≡ part.number
    pub unmade : own part.port.1 ≡ []

  -- The channel of the protocol of a number has a cursor of the table that has seen nothing of the
  -- phase, and which is started, where the table begins, if the channel is up.
  pub record IsChannelPart (exports : ℕ → Exports) (number : ℕ) (part : ChannelPart J)
      : Type 0 where
    pub begun : StandsTable stood
    pub stands : StandsChannel verdict phase number (exports part.number) stood part.exporter
    pub log : part.log.value.items ≡ part.exporter.log
    pub cursor : journal part.cursor.0 ≡ here
    pub unread : front part.cursor.0.1 ≡ []
    pub mode : part.cursor.1 ≡ is_open part.exporter.log
    pub position :
        is_open part.exporter.log ≡ true
        → position_of part.cursor.0.1.role ≡ length stood.before
