-- For private contracts, and for what `HasPlayed` keeps of a core from phase to phase; nothing
-- promised rests on it: a core in the midst of a phase, and the machine's state.
use Rattle.std.specs.Prelude.{◌≡◌, ◌+◌, ◌-◌, ◌≤◌, ◌++◌, ◌<◌, ℕ, zero, suc, Bool, true, false, List, [], ◌∷◌, length, map, reverse, Option, Some, option_and_then, option_map, slice_get, ⊤}
use Rattle.std.specs.List.{All, AllByRecursion}
use Rattle.std.specs.declared.alloc.Global.{Global}
use Rattle.std.specs.declared.vec.Vec.{Vec}
use Rattle.bits_ip.specs.Prefix.{Net}
use Rattle.attrs.specs.declared.judge.Verdict.{Verdict}
use Rattle.attrs.specs.declared.route.Change.{Change}
use Rattle.attrs.specs.declared.route.Route.{Route}
use Rattle.export_core.specs.declared.log.LogItem.{LogItem}
use Rattle.core_machine.specs.Channels.{is_open}
use Rattle.core_machine.specs.Histories.{content_of, front}
use Rattle.core_machine.specs.Legal.{Joined}
use Rattle.core_machine.specs.Lines.{Reply, Turn, ops_of}
use Rattle.core_machine.specs.Machine.{State}
use Rattle.core_machine.specs.Replies.{replies_to}
use Rattle.core_machine.specs.Rounds.{HasRounds}
use Rattle.core_machine.specs.Rules.{Fits, Signal, is_up}
use Rattle.core_setup.specs.Announced.{FitsTable}
use Rattle.core_setup.specs.Channels as setups
use Rattle.core_setup.specs.Pairs.{Pairs}
use Rattle.core_setup.specs.Protocols.{imports_after, pipe_is_up, rules_of, signal_of}
use Rattle.core_setup.specs.Queries.{choice_of, sends_of}
use Rattle.core_setup.specs.Reports.{dones, protocol_names, table_name}
use Rattle.core_setup.specs.Setup.{Body as SeenBody, IsPipe, IsSource, Protocol as SeenProtocol, Setup, Source as SeenSource}
use Rattle.attrs.specs.declared.attributes.Kind.{Kind}
use Rattle.attrs.specs.declared.attributes.Kind.TheVariants as kinds
use Rattle.import_core.specs.declared.operation.Op.{Op}
use Rattle.import_core.specs.declared.step.Mark.{Mark}
use Rattle.show_route.specs.Shown.{IsReply}
use Rattle.show_route.specs.declared.query.Query.{Query}
use Rattle.export_core.specs.declared.passing.Through.{Through}
use Rattle.run_tables.specs.Routes.{AdmitsAt, AreRoutes}
use Rattle.run_tables.specs.declared.channel.Channel.{Channel}
use Rattle.run_tables.specs.declared.routes.Routes.{Routes}
use Rattle.sys_run.specs.declared.parts.TableParts.{TableParts}
use Rattle.sys_run.specs.declared.player.Answered.{Answered}
use Rattle.sys_run.specs.declared.player.Core.{Core}
use Rattle.sys_run.specs.declared.protocol.Body.{Body}
use Rattle.sys_run.specs.declared.protocol.Body.TheVariants.{Pipe, Source}
use Rattle.sys_run.specs.declared.protocol.Protocol.{Protocol}
use Rattle.sys_run.specs.declared.protocol.Source.{Source as HeldSource}

-- the reply is held with its text: it answers the query of its number, over the query's table as
-- it was at the reply's position
pub record IsAnswered (setup : Setup) (s : State) (held : Answered) (reply : Reply) : Type 0 where
  pub query : Query
  pub query_is : slice_get setup.queries reply.query ≡ Some query
  pub table_is : reply.table ≡ query.table
  pub table : held.table ≡ query.table
  pub at : held.at ≡ reply.at
  pub within : reply.at ≤ length (s.history query.table)
  pub text :
      IsReply (protocol_names setup) (table_name setup query.table) query
      (choice_of setup query) (sends_of setup query)
      (content_of (front reply.at (s.history query.table))) held.text.items

-- so many numbers from one on
abbrev pub counted : ℕ → ℕ → List ℕ
counted number zero = []
counted number (suc count) = number ∷ counted (number + 1) count

module _ {J : Type 0} (verdict : J → Net → Route → Verdict) where
  -- imports behind a protocol's operations
  pub record Imports (p : SeenSource) (ops : List Op) (held : HeldSource J) : Type 0 where
    pub table : held.table ≡ p.table
    pub kind : held.kind ≡ p.spec.kind
    pub spec : held.importer.spec ≡ p.spec
    pub judge : verdict held.importer.judge ≡ p.filter
    pub imports : held.importer.imports ≡ imports_after p ops

  -- what a protocol has come to behind its operations
  abbrev pub Does : SeenBody → List Op → Body J → Type 0
  Does (IsSource p) ops (Source held) = Imports p ops held
  Does (IsSource p) ops (Pipe up) = ⊥
  Does (IsPipe p) ops (Source held) = ⊥
  Does (IsPipe p) ops (Pipe up) = up ≡ pipe_is_up ops

  -- A protocol behind its operations, of which those before the phase are told apart; its channels
  -- follow each other.
  pub record PlaysAs
      (setup : Setup) (i : ℕ) (p : SeenProtocol) (base ops : List Turn) (held : Protocol J)
      : Type 0 where
    pub body : Does p.body (ops_of ops) held.body
    pub ordered : held.from ≤ held.upto
    pub within : held.upto ≤ length (setups.channels setup)
    pub belong : (rules_of setup).belong i ≡ counted held.from (held.upto - held.from)
    -- it was told nothing of another family than its table's
    pub fits : AllByRecursion (FitsTable setup.tables p.body) (ops_of ops)
    pub new : List Turn
    pub since : ops ≡ new ++ base
    pub done :
        held.done.items ≡ reverse (dones (rules_of setup) i (ops_of base) (ops_of new))

  -- `past` is what was printed before the phase, and `s` the machine's state now.
  pub record IsCore (setup : Setup) (past : Joined) (s : State) (core : Core J) : Type 0 where
    pub routes : AreRoutes verdict setup s core.routes
    pub protocols :
        Pairs (λ i p held. PlaysAs setup i p (past.ops i) (s.ops i) held)
        0 setup.protocols core.protocols.items
    pub up :
        (c : ℕ) → is_open (s.channels c)
        ≡ is_up (rules_of setup) ((rules_of setup).owner c)
        (ops_of (s.ops ((rules_of setup).owner c)))
    -- what there was before the phase
    pub histories :
        (n : ℕ) → (changes : List Change) × (s.history n ≡ changes ++ past.history n)
    pub operations : (i : ℕ) → (turns : List Turn) × (s.ops i ≡ turns ++ past.ops i)
    pub logs :
        (c : ℕ) → (items : List LogItem) × ((s.channels c).log ≡ items ++ past.logs c)
    pub replies :
        (actor : ℕ) (held : Vec Answered Global) → slice_get core.replies.items actor ≡ Some held
        → Pairs (λ n answered reply. IsAnswered setup s answered reply) 0 held.items
        (reverse (replies_to actor s.replies))
    -- names
    pub channels :
        core.channels.items ≡ map (λ (c : setups.Channel). c.name) (setups.channels setup)
    pub tables : Pairs (λ n seen (held : TableParts). (seen ≡ (held.name, held.family)))
        0 setup.tables core.tables.items
    pub names : core.names.items ≡ protocol_names setup
    -- what can be asked
    pub choices : map verdict core.choices.items ≡ setup.choices
    pub queries : core.queries.items ≡ setup.queries

  abbrev pub Holds : Core J → Type 0
  Holds core = (setup : Setup) × (past : Joined) × (s : State) × IsCore setup past s core

  -- and this fits what is played
  abbrev pub HoldsWith : (Setup → Type 0) → Core J → Type 0
  HoldsWith Fits core =
      (setup : Setup) × (past : Joined) × (s : State) × IsCore setup past s core × Fits setup

  -- and a sync has few rounds
  abbrev pub Ends : Core J → Type 0
  Ends core =
      (setup : Setup) × (past : Joined) × (s : State) × IsCore setup past s core
      × (rounds : ℕ) × HasRounds (rules_of setup) s rounds × (rounds ≤ length setup.tables)

-- ---- parts of an operation

abbrev pub is_static_kind : Kind → Bool
is_static_kind kinds.Static = true
is_static_kind kinds.Bgp = false

module _ {J : Type 0} where
  abbrev pub is_static : Body J → Bool
  is_static (Source held) = is_static_kind held.kind
  is_static (Pipe up) = false

  -- the number of the table to which a protocol imports, and 0 of a pipe, which makes no change
  abbrev pub table_of : Body J → ℕ
  table_of (Source held) = held.table
  table_of (Pipe up) = 0

  abbrev pub made_by : Body J → List Change → List Change
  made_by (Source held) changes = changes
  made_by (Pipe up) changes = []

  -- its changes are such as that table admits
  abbrev pub AreAdmitted : Body J → Routes J → List Change → Type 0
  AreAdmitted held routes changes =
      All (AdmitsAt (table_of held) routes) (made_by held changes)

  -- that table is there
  abbrev pub ImportsTo : ℕ → Body J → Type 0
  ImportsTo tables (Source held) = held.table < tables
  ImportsTo tables (Pipe up) = ⊤

-- the channels from one number to below another are all up or all down, as the signal wants
abbrev pub AllFit : Signal → ℕ → ℕ → State → Type 0
AllFit signal from_is upto s =
    (c : ℕ) → from_is ≤ c → c < upto → Fits signal (is_open (s.channels c))

abbrev pub MayObey :
    {J : Type 0} → (J → Net → Route → Verdict) → Mark → ℕ → ℕ → Routes J → Type 0
MayObey verdict mark from_is upto routes =
    (setup : Setup) × (s : State) × AreRoutes verdict setup s routes
    × AllFit (signal_of mark) from_is upto s × (upto ≤ length (setups.channels setup))

-- how many phases have ended, for how many actors there are replies, and the queries, stays
pub record Keeps {J : Type 0} (old new : Core J) : Type 0 where
  pub phases : new.phases ≡ old.phases
  pub replies : length new.replies.items ≡ length old.replies.items
  pub queries : new.queries ≡ old.queries

-- ---- what a query names

module _ {J : Type 0} where
  -- the gate and the filter of a channel
  abbrev pub through_of : Channel J → Through J
  through_of held = record { spec = held.exporter.spec; judge = held.exporter.judge }

  -- the first channel of a protocol, which of one of BGP is the only one
  abbrev pub channel_of : Core J → ℕ → Option (Channel J)
  channel_of core number =
      option_and_then (λ (held : Protocol J). slice_get core.routes.channels.items held.from)
      (slice_get core.protocols.items number)

  -- of the protocol whose exports are asked for
  abbrev pub export_in : Core J → Query → Option (Through J)
  export_in core query =
      option_map through_of (option_and_then (channel_of core) query.export)

  -- the filter by which routes are chosen
  abbrev pub choice_in : Core J → Query → Option J
  choice_in core query =
      option_and_then (λ (number : ℕ). slice_get core.choices.items number) query.choice
