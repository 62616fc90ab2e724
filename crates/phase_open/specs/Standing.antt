-- What stands between two phases: of a table its rows and all its entries so far (`IsStandingTable`), of
-- a protocol with routes of its own its importer, and the exporter of its channel, if it has one
-- (`IsStandingProtocol`).
-- Entries are in their order.
-- Not modelled: pipes.
-- From: own.
-- Example: before the first phase no table has an entry, and all is as it is made.
use Rattle.std.specs.Prelude.{◌≡◌, ℕ, List, Option, Some, None, slice_get, ⊤}
use Rattle.attrs.specs.Table.{AreRows}
use Rattle.attrs.specs.declared.judge.Verdict.{Verdict}
use Rattle.attrs.specs.declared.route.Route.{Route}
use Rattle.bits_ip.specs.Prefix.{Net}
use Rattle.bits_ip.specs.declared.address.Family.{Family}
use Rattle.rib.specs.Rib.{AreOfFamily}
use Rattle.core_setup.specs.Channels.{Channel, channel_at}
use Rattle.core_setup.specs.Setup.{Exports, Source}
use Rattle.import_lock.specs.Terms.{PhaseTerms}
use Rattle.phase_room.specs.Rooms.{TableTerms}
use Rattle.phase_room.specs.Stands.{StandsChannel, StandsSource, StandsTable}
use Rattle.phase_open.specs.declared.standing.StandingChannel.{StandingChannel}
use Rattle.phase_open.specs.declared.standing.StandingProtocol.{StandingProtocol}
use Rattle.phase_open.specs.declared.standing.StandingTable.{StandingTable}

abbrev pub table_stood : StandingTable → TableTerms
table_stood stood =
    record { family = stood.family; rows = stood.rows.rows; before = stood.before.items }

-- what stands in a table of this name and family
pub record IsStandingTable (table : List ℕ × Family) (stood : StandingTable) : Type 0 where
  pub family : stood.family ≡ table.1
  pub kept : stood.rows.family ≡ stood.family
  pub rows : AreRows stood.rows.rows
  pub nets : AreOfFamily stood.family stood.rows.rows
  pub begun : StandsTable (table_stood stood)

module _ {J : Type 0} (verdict : J → Net → Route → Verdict) (phase : PhaseTerms)
    (exports : ℕ → Exports) where
  -- The channel of the protocol of a number has a number of its own, under which what is played has
  -- what it lets pass.
  pub record IsStandingChannel
      (number : ℕ) (stood : TableTerms) (mine : Exports) (held : StandingChannel J) : Type 0 where
    pub channel : Channel
    pub channel_is : channel_at phase.setup held.number ≡ Some channel
    pub owner : channel.owner ≡ number
    pub exports_are : exports held.number ≡ mine
    pub stands : StandsChannel verdict phase number mine stood held.exporter

  -- where it has one
  abbrev pub AreStandingChannels :
      ℕ → TableTerms → Option Exports → Option (StandingChannel J) → Type 0
  AreStandingChannels number stood None None = ⊤
  AreStandingChannels number stood (Some mine) (Some held) =
      IsStandingChannel number stood mine held
  AreStandingChannels number stood _ _ = ⊥

  -- the protocol of a number, over tables of which these stand
  pub record IsStandingProtocol
      (tables : List StandingTable) (number : ℕ) (held : StandingProtocol J) : Type 0 where
    pub source : Source
    pub table_is : held.table ≡ source.table
    pub stood : StandingTable
    pub stood_is : slice_get tables held.table ≡ Some stood
    pub stands : StandsSource verdict phase number source (table_stood stood) held.importer
    pub channels : AreStandingChannels number (table_stood stood) source.exports held.channel
