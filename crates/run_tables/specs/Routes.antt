-- For private contracts, and for what `HasPlayed` of sys_run keeps of a core from phase to phase;
-- nothing promised rests on it: all tables and channels, and the machine's state of them.
use Rattle.std.specs.Prelude.{◌≡◌, ◌==◌, ◌&&◌, ◌≤◌, ℕ, nat_lt, true, false, List, [], ◌∷◌, length, Option, Some, None, slice_get, take}
use Rattle.std.specs.declared.alloc.Global.{Global}
use Rattle.std.specs.declared.vec.Vec.{Vec}
use Rattle.bits_ip.specs.Address.{family_of}
use Rattle.bits_ip.specs.Prefix.{Net}
use Rattle.attrs.specs.declared.judge.Verdict.{Verdict}
use Rattle.attrs.specs.declared.route.Change.{Change}
use Rattle.attrs.specs.declared.route.Route.{Route}
use Rattle.export_core.specs.Candidates.{among}
use Rattle.export_core.specs.declared.log.LogItem.{LogItem}
use Rattle.export_core.specs.declared.log.LogItem.TheVariants.{Sent}
use Rattle.export_core.specs.declared.log.Sending.{Sending}
use Rattle.core_machine.specs.Channels.{is_open}
use Rattle.core_machine.specs.Machine.{State}
use Rattle.core_machine.specs.Room.{in_room}
use Rattle.core_machine.specs.Rounds.{HasRounds}
use Rattle.core_machine.specs.Rules.{IsRules, Rules}
use Rattle.core_setup.specs.Channels as setups
use Rattle.core_setup.specs.Pairs.{Pairs}
use Rattle.core_setup.specs.Protocols.{rules_of}
use Rattle.core_setup.specs.Setup.{IsSetup, Setup, family_at}
use Rattle.run_tables.specs.Channels.{AreSources, IsChannel, IsOfProtocol}
use Rattle.run_tables.specs.Tables.{Admits, IsTable}
use Rattle.run_tables.specs.declared.routes.Routes.{Routes}
use Rattle.run_tables.specs.declared.table.Table.{Table}

-- room is made in a table
abbrev pub with_room : Rules → ℕ → State → State
with_room rules table s =
    record s { channels = in_room rules table (s.history table) s.channels }

-- These are the channels below a number that read a table, each once.
pub record AreReaders (rules : Rules) (count table : ℕ) (numbers : List ℕ) : Type 0 where
  pub are : (c : ℕ) → among c numbers ≡ (nat_lt c count && (rules.reads c == table))
  pub once :
      (place c : ℕ) → slice_get numbers place ≡ Some c → among c (take place numbers) ≡ false

-- the readers of a table, by its number
abbrev pub numbers_in : Option (Vec ℕ Global) → List ℕ
numbers_in None = []
numbers_in (Some numbers) = numbers.items

abbrev pub readers_at : {J : Type 0} → ℕ → Routes J → List ℕ
readers_at table routes = numbers_in (slice_get routes.readers.items table)

-- the table of a number admits the change
abbrev pub AdmitsAt : {J : Type 0} → ℕ → Routes J → Change → Type 0
AdmitsAt number routes c =
    (table : Table) → slice_get routes.tables.items number ≡ Some table → Admits table.family c

module _ {J : Type 0} (verdict : J → Net → Route → Verdict) where
  pub record AreRoutes (setup : Setup) (s : State) (routes : Routes J) : Type 0 where
    pub setup_is : IsSetup setup
    pub rules_are : IsRules (rules_of setup)
    pub cells : routes.cells ≡ setup.cells
    pub tables :
        Pairs (λ n seen table. IsTable (rules_of setup) seen.1 (s.history n) table)
        0 setup.tables routes.tables.items
    pub readers :
        Pairs (λ n seen (numbers : Vec ℕ Global).
        AreReaders (rules_of setup) (length (setups.channels setup)) n numbers.items)
        0 setup.tables routes.readers.items
    pub channels :
        Pairs (λ c seen held.
        IsChannel verdict (rules_of setup) c (family_at setup.tables seen.reads)
        (s.history seen.reads) held (s.channels c))
        0 (setups.channels setup) routes.channels.items
    pub beyond : (c : ℕ) → length (setups.channels setup) ≤ c → is_open (s.channels c) ≡ false
    pub sources : AreSources (rules_of setup) routes.sources.items

  -- the same of some state, as conditions
  abbrev pub Holds : Routes J → Type 0
  Holds routes = (setup : Setup) × (s : State) × AreRoutes setup s routes

  -- and the channel of a number is up
  abbrev pub HoldsUp : ℕ → Routes J → Type 0
  HoldsUp c routes =
      (setup : Setup) × (s : State) × AreRoutes setup s routes × (is_open (s.channels c) ≡ true)

  -- and the channel's last item is a value, of a net of its table's family, and of a protocol
  -- where it writes a table
  abbrev pub HasSent : ℕ → Routes J → Type 0
  HasSent c routes =
      (setup : Setup) × (s : State) × AreRoutes setup s routes × (x : Sending)
      × (earlier : List LogItem) × ((s.channels c).log ≡ Sent x ∷ earlier)
      × IsOfProtocol (rules_of setup) c x
      × (family_at setup.tables ((rules_of setup).reads c) ≡ Some (family_of x.key.net.addr))

  -- and a sync has few rounds
  abbrev pub Ends : Routes J → Type 0
  Ends routes =
      (setup : Setup) × (s : State) × AreRoutes setup s routes
      × (rounds : ℕ) × HasRounds (rules_of setup) s rounds
      × (rounds ≤ length setup.tables)
