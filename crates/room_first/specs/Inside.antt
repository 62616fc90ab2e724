-- For private contracts alone: what stands before the first phase.
use Rattle.std.specs.Prelude.{◌≡◌, ◌+◌, ◌<◌, ◌^◌, ℕ, true, List, [], ◌∷◌, map, Option, Some, None, ⊤}
use Rattle.attrs.specs.declared.judge.Verdict.{Verdict}
use Rattle.attrs.specs.declared.route.Route.{Route}
use Rattle.bits_ip.specs.Prefix.{Net}
use Rattle.bits_ip.specs.declared.address.Family.{Family}
use Rattle.core_setup.specs.Channels.{family_or_first, gate_of_pipe}
use Rattle.core_setup.specs.Pairs.{Pairs}
use Rattle.core_setup.specs.Setup.{family_at}
use Rattle.export_core.specs.declared.passing.ExportSpec.{ExportSpec}
use Rattle.phase_answers.specs.declared.lent.Lent.{Lent}
use Rattle.phase_open.specs.declared.standing.StandingChannel.{StandingChannel}
use Rattle.phase_open.specs.declared.standing.StandingProtocol.{StandingProtocol}
use Rattle.phase_open.specs.declared.standing.StandingTable.{StandingTable}
use Rattle.phase_pipes.specs.First.{open_exporter}
use Rattle.phase_room.specs.First.{new_exporter, new_importer}
use Rattle.room_open.specs.declared.standing.Standing.{Standing}
use Rattle.room_open.specs.declared.standing.StandingMember.{StandingMember}
use Rattle.room_open.specs.declared.standing.StandingMember.TheVariants as members
use Rattle.room_open.specs.declared.standing.StandingPipe.{StandingPipe}
use Rattle.sys_run.specs.Parts.{table_seen}
use Rattle.sys_run.specs.declared.parts.BodyParts.{BodyParts}
use Rattle.sys_run.specs.declared.parts.BodyParts.TheVariants as bodies
use Rattle.sys_run.specs.declared.parts.ExportParts.{ExportParts}
use Rattle.sys_run.specs.declared.parts.PipeParts.{PipeParts}
use Rattle.sys_run.specs.declared.parts.ProtocolParts.{ProtocolParts}
use Rattle.sys_run.specs.declared.parts.SourceParts.{SourceParts}
use Rattle.sys_run.specs.declared.parts.TableParts.{TableParts}
use Rattle.room_first.specs.Sent.{lent_by}

pub record IsFirstTable (table : TableParts) (stood : StandingTable) : Type 0 where
  pub family : stood.family ≡ table.family
  pub rows : stood.rows ≡ record { family = table.family; rows = []; room = None }
  pub before : stood.before.items ≡ []

-- ---- how many channels there are

abbrev pub sessions_in : {J : Type 0} → Option (ExportParts J) → ℕ
sessions_in None = 0
sessions_in (Some exports) = 1

-- those of a protocol
abbrev pub own_channels : {J : Type 0} → BodyParts J → ℕ
own_channels (bodies.Source p) = sessions_in p.exports
own_channels (bodies.Pipe p) = 2

-- the numbers of its tables are some of 32 bits
abbrev pub HasFewTables : {J : Type 0} → BodyParts J → Type 0
HasFewTables (bodies.Source p) = p.table < 2 ^ 32
HasFewTables (bodies.Pipe p) = (p.primary < 2 ^ 32) × (p.peer < 2 ^ 32)

-- ---- what stands of protocols

-- the gate of the pipe of a number, over a table of this family, which passes these sources
abbrev pub gate_with : Family → ℕ → List ℕ → ExportSpec
gate_with family number passed = record (gate_of_pipe family number) { sources = passed }

module _ {J : Type 0} (verdict : J → Net → Route → Verdict) where
  pub record IsFirstChannel
      (channel : ℕ) (exports : ExportParts J) (stood : StandingChannel (Lent J))
      : Type 0 where
    pub number : stood.number ≡ channel
    pub judge : Lent J
    pub filter : lent_by verdict judge ≡ verdict exports.judge
    pub exporter : stood.exporter ≡ new_exporter exports.spec judge

  abbrev pub AreFirstChannels :
      ℕ → Option (ExportParts J) → Option (StandingChannel (Lent J)) → Type 0
  AreFirstChannels channel None None = ⊤
  AreFirstChannels channel (Some exports) (Some stood) = IsFirstChannel channel exports stood
  AreFirstChannels channel exports stood = ⊥

  pub record IsFirstSource
      (channel : ℕ) (source : SourceParts J) (stood : StandingProtocol (Lent J))
      : Type 0 where
    pub table : stood.table ≡ source.table
    pub judge : Lent J
    pub filter : lent_by verdict judge ≡ verdict source.judge
    pub importer : stood.importer ≡ new_importer source.spec judge
    pub exports : AreFirstChannels channel source.exports stood.channel

  -- A direction of a pipe of this gate and filter has come up at 0, and has sent nothing.
  pub record IsFirstDirection
      (channel : ℕ) (gate : ExportSpec) (filter : J) (stood : StandingChannel (Lent J))
      : Type 0 where
    pub number : stood.number ≡ channel
    pub judge : Lent J
    pub same : lent_by verdict judge ≡ verdict filter
    pub exporter : stood.exporter ≡ open_exporter gate judge

  -- over tables of these names and families, where directions pass these sources by number
  module _ (tables : List (List ℕ × Family)) (passed : ℕ → List ℕ) where
    -- the gate of a direction that reads a table
    abbrev pub gate_from : (number channel table : ℕ) → ExportSpec
    gate_from number channel table =
        gate_with (family_or_first (family_at tables table)) number (passed channel)

    -- the pipe of a number, whose directions have the number `channel` and the next
    pub record IsFirstPipe
        (number channel : ℕ) (pipe : PipeParts J) (stood : StandingPipe (Lent J))
        : Type 0 where
      pub primary : stood.primary ≡ pipe.primary
      pub peer : stood.peer ≡ pipe.peer
      pub up : stood.up ≡ true
      pub out :
          IsFirstDirection channel (gate_from number channel pipe.primary) pipe.export stood.out
      pub back :
          IsFirstDirection (channel + 1) (gate_from number (channel + 1) pipe.peer) pipe.import
          stood.back

    abbrev pub IsFirstProtocol : ℕ → ℕ → BodyParts J → StandingMember (Lent J) → Type 0
    IsFirstProtocol number channel (bodies.Source p) (members.Own stood) =
        IsFirstSource channel p stood
    IsFirstProtocol number channel (bodies.Pipe p) (members.Pipe stood) =
        IsFirstPipe number channel p stood
    IsFirstProtocol number channel body stood = ⊥

    -- protocols, where the next has this number, and its first channel that one
    abbrev pub AreFirst :
        ℕ → ℕ → List (ProtocolParts J) → List (StandingMember (Lent J)) → Type 0
    AreFirst number channel [] [] = ⊤
    AreFirst number channel (p ∷ more) (stood ∷ others) =
        IsFirstProtocol number channel p.body stood
        × AreFirst (number + 1) (channel + own_channels p.body) more others
    AreFirst number channel protocols stood = ⊥

  pub record StandsFirst
      (tables : List TableParts) (passed : ℕ → List ℕ) (protocols : List (ProtocolParts J))
      (standing : Standing (Lent J)) : Type 0 where
    pub tables_are :
        Pairs (λ number table stood. IsFirstTable table stood) 0 tables standing.tables.items
    pub members_are :
        AreFirst (map table_seen tables) passed 0 0 protocols standing.members.items
