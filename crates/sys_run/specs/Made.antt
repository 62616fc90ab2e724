-- For private contracts alone: what is made of the parts of tables and protocols.
use Rattle.std.specs.Prelude.{◌≡◌, ◌==◌, ◌&&◌, ◌+◌, ◌++◌, ◌<◌, ℕ, zero, suc, not, Bool, true, false, List, [], ◌∷◌, length, map, take, Option, Some, None, is_some, option_map, nat_lt, slice_get, if◌then◌else◌, ◌≤◌}
use Rattle.std.specs.declared.alloc.Global.{Global}
use Rattle.std.specs.declared.vec.Vec.{Vec}
use Rattle.bits_ip.specs.Prefix.{Net}
use Rattle.bits_ip.specs.declared.address.Family.{Family}
use Rattle.attrs.specs.declared.judge.Verdict.{Verdict}
use Rattle.attrs.specs.declared.route.Route.{Route}
use Rattle.attrs.specs.declared.route.Src.{Src}
use Rattle.export_core.specs.declared.floors.FeedState.TheVariants.{Done}
use Rattle.import_core.specs.Imports.{nothing_yet}
use Rattle.core_machine.specs.Channels.{new_channel, opened}
use Rattle.core_machine.specs.Machine.{State}
use Rattle.core_machine.specs.Pipes.{ends_with}
use Rattle.core_machine.specs.Rules.{IsRules, Rules}
use Rattle.core_machine.specs.Ways.{Found, gone_on}
use Rattle.core_setup.specs.Channels as setups
use Rattle.core_setup.specs.Channels.{channels, channels_from, channels_in}
use Rattle.core_setup.specs.Pairs.{Pairs}
use Rattle.core_setup.specs.Protocols.{exports_to, rules_of, sources, src_in}
use Rattle.core_setup.specs.Setup as setup
use Rattle.core_setup.specs.Setup.{IsSetup, Setup}
use Rattle.run_tables.specs.Channels.{AreSources}
use Rattle.run_tables.specs.Routes.{numbers_in}
use Rattle.run_tables.specs.Tables.{IsTable}
use Rattle.run_tables.specs.declared.channel.Channel.{Channel}
use Rattle.run_tables.specs.declared.table.Table.{Table}
use Rattle.sys_run.specs.Parts.{body_seen, protocol_seen}
use Rattle.sys_run.specs.declared.made.Made.{Made}
use Rattle.sys_run.specs.declared.parts.BodyParts.{BodyParts}
use Rattle.sys_run.specs.declared.parts.BodyParts.TheVariants as parts
use Rattle.sys_run.specs.declared.parts.ProtocolParts.{ProtocolParts}
use Rattle.sys_run.specs.declared.parts.TableParts.{TableParts}
use Rattle.sys_run.specs.declared.protocol.Body.{Body}
use Rattle.sys_run.specs.declared.protocol.Body.TheVariants as body
use Rattle.sys_run.specs.declared.protocol.Protocol.{Protocol}
use Rattle.sys_run.specs.declared.ways.Direction.{Direction}
use Rattle.sys_run.specs.declared.ways.Way.{Way}

-- a table without routes, whatever the rules
abbrev pub IsMadeTable : ℕ → TableParts → Table → Type 0
IsMadeTable number parts table = (rules : Rules) → IsTable rules parts.family [] table

-- ---- directions of pipes, and the ways that go by them

abbrev pub direction_of : ℕ → ℕ → Option ℕ → List Direction
direction_of channel reads None = []
direction_of channel reads (Some writes) =
    record { channel = channel; reads = reads; writes = writes } ∷ []

-- the directions among channels, which have numbers from this one on
abbrev pub directions_in : ℕ → List setups.Channel → List Direction
directions_in number [] = []
directions_in number (channel ∷ more) =
    direction_of number channel.reads channel.target ++ directions_in (number + 1) more

-- there are so many tables and channels
pub record IsWithin (tables channels : ℕ) (d : Direction) : Type 0 where
  pub channel : d.channel < channels
  pub reads : d.reads < tables
  pub writes : d.writes < tables

abbrev pub AreWithin : ℕ → ℕ → List Direction → Type 0
AreWithin tables channels directions =
    (k : ℕ) (d : Direction) → slice_get directions k ≡ Some d → IsWithin tables channels d

-- how many directions a way has, and the last
abbrev pub way_of : List ℕ → Way
way_of ds = record { len = length ds; last = slice_get ds 0 }

-- the ways to all tables
pub record AreFound (tables : ℕ) (held : List (Option Way)) (found : Found) : Type 0 where
  pub count : length held ≡ tables
  pub each :
      (table : ℕ) (way : Option Way) → slice_get held table ≡ Some way
      → way ≡ option_map way_of (found table)

-- whether a direction goes on from the first way, where the second comes to the table that it
-- writes
abbrev pub goes_on : ℕ → Option (List ℕ) → Option (List ℕ) → Bool
goes_on len None other = false
goes_on len (Some ds) other = (length ds == len) && not (is_some other)

abbrev pub gone_one : ℕ → Direction → Found → Found
gone_one len d found = gone_on d.channel len d.writes found (found d.reads)

abbrev pub gone_all : ℕ → List Direction → Found → Found
gone_all len [] found = found
gone_all len (d ∷ more) found = gone_all len more (gone_one len d found)

-- the ways from a table, after so many levels
abbrev pub found_from : List Direction → ℕ → ℕ → Found
found_from directions home zero = λ table. if home == table then Some [] else None
found_from directions home (suc len) = gone_all len directions (found_from directions home len)

abbrev pub is_last : ℕ → Option ℕ → Bool
is_last d None = false
is_last d (Some last) = last == d

-- ---- which sources each channel passes

-- lists by their places
abbrev pub AreLists : List (Vec ℕ Global) → (ℕ → List ℕ) → Type 0
AreLists held lists =
    (c : ℕ) (items : Vec ℕ Global) → slice_get held c ≡ Some items → items.items ≡ lists c

-- one more number in the list at a place, where the test says so
abbrev pub given : ℕ → Bool → ℕ → (ℕ → List ℕ) → ℕ → List ℕ
given place test number lists c =
    if place == c then lists c ++ (if test then number ∷ [] else []) else lists c

abbrev pub given_one : Found → ℕ → Direction → (ℕ → List ℕ) → ℕ → List ℕ
given_one found number d lists =
    given d.channel (ends_with d.channel (found d.writes)) number lists

abbrev pub given_all : Found → ℕ → List Direction → (ℕ → List ℕ) → ℕ → List ℕ
given_all found number [] lists = lists
given_all found number (d ∷ more) lists =
    given_all found number more (given_one found number d lists)

-- each channel's sources, which it passes as a direction of a pipe
pub record ArePassed (setup : Setup) (held : List (Vec ℕ Global)) : Type 0 where
  pub count : length held ≡ length (channels setup)
  pub each : AreLists held (sources setup)

-- the list at a place
abbrev pub passed_at : List (Vec ℕ Global) → ℕ → List ℕ
passed_at held c = numbers_in (slice_get held c)

-- what is still to be taken, of places from a number on
abbrev pub Left : ℕ → List (Vec ℕ Global) → (ℕ → List ℕ) → Type 0
Left from held lists = (c : ℕ) → from ≤ c → passed_at held c ≡ lists c

-- ---- readers of tables

-- the readers of a table among channels, which have numbers from this one on
abbrev pub readers_from : {J : Type 0} → ℕ → List (Channel J) → ℕ → List ℕ
readers_from number [] table = []
readers_from number (channel ∷ more) table =
    (if channel.table == table then number ∷ [] else []) ++ readers_from (number + 1) more table

abbrev pub readers_in : {J : Type 0} → List (Channel J) → ℕ → List ℕ
readers_in channels table = readers_from 0 channels table

-- ---- protocols and channels that have done nothing

-- the sources of protocols' routes, by number
abbrev pub IsSource : ℕ → setup.Protocol → Src → Type 0
IsSource number p src = src ≡ src_in number p.body

module _ {J : Type 0} (verdict : J → Net → Route → Verdict) where
  -- The exporter of channel c has sent nothing. `passed` are the sources that a channel passes as
  -- a direction of a pipe, by its number.
  pub record IsNewChannel
      (passed : ℕ → List ℕ) (c : ℕ) (seen : setups.Channel) (held : Channel J) : Type 0 where
    pub table : held.table ≡ seen.reads
    pub target : held.target ≡ seen.target
    pub cursor : held.cursor ≡ None
    pub spec : held.exporter.spec ≡ (exports_to seen.target (passed c) seen.exports).spec
    pub filter :
        verdict held.exporter.judge ≡ (exports_to seen.target (passed c) seen.exports).filter
    pub position : held.exporter.position ≡ 0
    pub floors : held.exporter.floors ≡ []
    pub feed : held.exporter.feed ≡ Done
    pub marks : held.exporter.marks ≡ []
    pub log : held.exporter.log ≡ []
    pub rest : held.exporter.flushing ≡ false

  -- a protocol with routes of its own has imported nothing, and a pipe is up
  abbrev pub IsMadeBody : BodyParts J → Body J → Type 0
  IsMadeBody (parts.Source p) (body.Source held) =
      (held.table ≡ p.table) × (held.kind ≡ p.spec.kind)
      × (held.importer ≡ record { spec = p.spec; judge = p.judge; imports = nothing_yet })
  IsMadeBody (parts.Source p) (body.Pipe up) = ⊥
  IsMadeBody (parts.Pipe p) (body.Source held) = ⊥
  IsMadeBody (parts.Pipe p) (body.Pipe up) = up ≡ true

  module _ (tables : List (List ℕ × Family)) (protocols : List (ProtocolParts J)) where
    -- the channels of the first of these protocols
    abbrev pub channels_before : ℕ → List setups.Channel
    channels_before number =
        channels_from tables 0 (map (protocol_seen verdict) (take number protocols))

    pub record IsMadeProtocol (number : ℕ) (p : ProtocolParts J) (held : Protocol J) : Type 0 where
      pub body : IsMadeBody p.body held.body
      pub from : held.from ≡ length (channels_before number)
      pub upto : held.upto ≡ length (channels_before (suc number))
      pub done : held.done.items ≡ []

  abbrev pub seen_in : List (List ℕ × Family) → List (ProtocolParts J) → List setups.Channel
  seen_in tables protocols = channels_from tables 0 (map (protocol_seen verdict) protocols)

  pub record IsMade
      (tables : List (List ℕ × Family)) (passed : ℕ → List ℕ) (protocols : List (ProtocolParts J))
      (made : Made J) : Type 0 where
    pub names : made.names.items ≡ map (λ (p : ProtocolParts J). p.name) protocols
    pub bodies : Pairs (IsMadeProtocol tables protocols) 0 protocols made.protocols.items
    pub channels : Pairs (IsNewChannel passed) 0 (seen_in tables protocols) made.channels.items
    pub channel_names :
        made.channel_names.items
        ≡ map (λ (c : setups.Channel). c.name) (seen_in tables protocols)
    pub sources :
        Pairs IsSource 0 (map (protocol_seen verdict) protocols) made.sources.items

  -- these channels are added, and nothing else
  pub record AddsChannels
      (passed : ℕ → List ℕ) (seen : List setups.Channel) (old new : Made J) : Type 0 where
    pub names : new.names ≡ old.names
    pub protocols : new.protocols ≡ old.protocols
    pub sources : new.sources ≡ old.sources
    pub added : List (Channel J)
    pub channels : new.channels.items ≡ old.channels.items ++ added
    pub are : Pairs (IsNewChannel passed) (length old.channels.items) seen added
    pub channel_names :
        new.channel_names.items
        ≡ old.channel_names.items ++ map (λ (c : setups.Channel). c.name) seen

  -- what is added of one more protocol, but for its name
  pub record Adds
      (tables : List (List ℕ × Family)) (passed : ℕ → List ℕ) (number : ℕ) (name : List ℕ)
      (p : BodyParts J) (old new : Made J) : Type 0 where
    pub names : new.names ≡ old.names
    pub held : Protocol J
    pub protocols : new.protocols.items ≡ old.protocols.items ++ held ∷ []
    pub body : IsMadeBody p held.body
    pub from : held.from ≡ length old.channels.items
    pub upto : held.upto ≡ length new.channels.items
    pub done : held.done.items ≡ []
    pub added : List (Channel J)
    pub channels : new.channels.items ≡ old.channels.items ++ added
    pub are :
        Pairs (IsNewChannel passed) (length old.channels.items)
        (channels_in tables number name (body_seen verdict p)) added
    pub channel_names :
        new.channel_names.items
        ≡ old.channel_names.items
        ++ map (λ (c : setups.Channel). c.name)
        (channels_in tables number name (body_seen verdict p))
    pub src : Src
    pub sources : new.sources.items ≡ old.sources.items ++ src ∷ []
    pub source : src ≡ src_in number (body_seen verdict p)

  -- ---- all that routes are made of

  pub record AreNew
      (setup : Setup) (cells : ℕ) (tables : List Table) (held : List (Channel J))
      (sources_held : List Src) : Type 0 where
    pub setup_is : IsSetup setup
    pub rules_are : IsRules (rules_of setup)
    pub cells_are : cells ≡ setup.cells
    pub tables_are :
        Pairs (λ n seen table. (rules : Rules) → IsTable rules seen.1 [] table)
        0 setup.tables tables
    pub channels_are : Pairs (IsNewChannel (sources setup)) 0 (channels setup) held
    pub sources_are : AreSources (rules_of setup) sources_held

-- the pipes among channels below a number have come up
abbrev pub opened_to : Rules → ℕ → State
opened_to rules number = record {
  history = λ table. [];
  ops = λ i. [];
  channels = λ c.
      if nat_lt c number && rules.first (rules.owner c) then opened 0 new_channel else new_channel;
  replies = [];
}
