-- For private contracts, and for what `HasPlayed` of sys_run keeps of a core from phase to phase;
-- nothing promised rests on it: a channel, and the machine's channel that it is.
use Rattle.std.specs.Prelude.{◌≡◌, ◌-◌, ◌<◌, ◌≤◌, ℕ, min, Bool, true, false, List, [], ◌∷◌, length, Option, Some, None, IsSome, if◌then◌else◌, slice_get, reverse}
use Rattle.std.specs.List.Sorted.{IsStrictlySortedBy}
use Rattle.std.specs.Map.{keys_of}
use Rattle.std.specs.declared.alloc.Global.{Global}
use Rattle.std.specs.declared.vec.Vec.{Vec}
use Rattle.bits_ip.specs.Address.{family_of}
use Rattle.bits_ip.specs.Prefix.{Net}
use Rattle.bits_ip.specs.declared.address.Family.{Family}
use Rattle.attrs.specs.declared.attributes.Attrs.{Attrs}
use Rattle.attrs.specs.declared.judge.Verdict.{Verdict}
use Rattle.attrs.specs.declared.route.Change.{Change}
use Rattle.attrs.specs.declared.route.Route.{Route}
use Rattle.attrs.specs.declared.route.Src.{Src}
use Rattle.export_core.specs.declared.floors.FeedState.TheVariants.{From}
use Rattle.export_core.specs.declared.log.Key.{Key}
use Rattle.export_core.specs.declared.log.LogItem.{LogItem}
use Rattle.export_core.specs.declared.log.LogItem.TheVariants.{Sent}
use Rattle.export_core.specs.declared.log.Sending.{Sending}
use Rattle.export_core.specs.declared.exporter.Pushed.{Pushed}
use Rattle.export_core.specs.declared.exporter.Pushed.TheVariants as pushed
use Rattle.export_core.specs.Calls.{ended}
use Rattle.export_core.specs.Keys.{key_cmp}
use Rattle.export_core.specs.Logs.{account, highest, value_of}
use Rattle.export_core.specs.Marks.{at}
use Rattle.export_core.specs.States.{State as Exporter}
use Rattle.core_machine.specs.Channels as machine
use Rattle.core_machine.specs.Channels.{is_open}
use Rattle.core_machine.specs.Machine.{gained}
use Rattle.core_machine.specs.Match.{Matches, MatchesFed, change_of_sending}
use Rattle.core_machine.specs.Pipes.{is_pipe}
use Rattle.core_machine.specs.Rules.{IsRules, Rules}
use Rattle.run_tables.specs.Tables.{IsTable}
use Rattle.run_tables.specs.declared.channel.Channel.{Channel}
use Rattle.run_tables.specs.declared.table.Table.{Table}

-- up to where a channel that is up has read its table
abbrev pub cursor_of : machine.Channel → Option ℕ
cursor_of ch = if is_open ch then Some ch.position else None

-- a channel that is down does nothing
abbrev pub if_up : (machine.Channel → machine.Channel) → machine.Channel → machine.Channel
if_up f ch = if is_open ch then f ch else ch

module _ {J : Type 0} (verdict : J → Net → Route → Verdict) (rules : Rules) (c : ℕ)
    (family : Option Family) (history : List Change) where
  -- the exporter of channel c, over a table of this family with this history
  pub record IsExporter (e : Exporter J) (ch : machine.Channel) : Type 0 where
    pub matches : Matches verdict rules c history e ch
    pub family_is : family ≡ Some e.spec.family
    pub told : highest ch.log ≤ length history

  pub record IsChannel (held : Channel J) (ch : machine.Channel) : Type 0 where
    pub table : held.table ≡ rules.reads c
    pub target : held.target ≡ rules.target c
    pub cursor : held.cursor ≡ cursor_of ch
    pub exporter : IsExporter held.exporter ch

-- how many of so many changes there are still to take, and none where the channel is down
abbrev pub left_of : Option ℕ → ℕ → ℕ → ℕ
left_of None head count = 0
left_of (Some position) head count = min count (head - position)

-- The values that stand as sent, in the order of keys.
pub record AreValues (ch : machine.Channel) (items : List (Key × Attrs)) : Type 0 where
  pub ascend : IsStrictlySortedBy key_cmp (keys_of items)
  pub values : (k : Key) → at k items ≡ value_of (account k ch.log)

-- what stands of a channel, and nothing of one that is down
abbrev pub TellsStanding : machine.Channel → Option (Vec (Key × Attrs) Global) → Type 0
TellsStanding ch None = is_open ch ≡ false
TellsStanding ch (Some values) = (is_open ch ≡ true) × AreValues ch values.items

-- the sources of protocols' routes, by number
pub record AreSources (rules : Rules) (sources : List Src) : Type 0 where
  pub count : length sources ≡ rules.protocols
  pub tell :
      (num : ℕ) (src : Src) → slice_get sources num ≡ Some src
      → (attrs : Attrs) → rules.route num attrs ≡ record { src = src; attrs = attrs }

-- a value that a direction of a pipe sends is of a protocol
abbrev pub IsOfProtocol : Rules → ℕ → Sending → Type 0
IsOfProtocol rules c x =
    is_pipe rules c ≡ true → IsSome x.value → x.key.num < rules.protocols

-- the last item of a log is no value, or its source is one of these
abbrev pub Tells : List LogItem → List Src → Type 0
Tells log sources =
    (x : Sending) (earlier : List LogItem) → reverse log ≡ Sent x ∷ earlier
    → IsSome x.value → x.key.num < length sources

-- What a withdrawal leaves: what ends with it, and what was left before.
abbrev pub Withdraws : {J : Type 0} → Exporter J → Exporter J → Bool → Type 0
Withdraws e e' true =
    (k : Key) × (e.left ≡ k ∷ e'.left) × (ended e' ≡ ended e) × (e'.log ≡ e.log)
    × (e'.spec ≡ e.spec)
Withdraws e e' false = (e.left ≡ []) × (e' ≡ e)

-- What a push tells, by its answer: what was sent is the log's last item, of a net of this family,
-- and its change is the machine's.
abbrev pub TellsPush :
    Rules → ℕ → Family → List Change → List LogItem → List LogItem → machine.Channel → Pushed
    → Type 0
TellsPush rules c family history log log' ch pushed.Nothing = ch.marks ≡ []
TellsPush rules c family history log log' ch pushed.Quiet =
    (1 ≤ length ch.marks) × (gained rules c history ch.marks ch ≡ None)
TellsPush rules c family history log log' ch pushed.Sent =
    (1 ≤ length ch.marks)
    × (x : Sending) × (reverse log' ≡ Sent x ∷ reverse log)
    × (gained rules c history ch.marks ch ≡ change_of_sending rules x)
    × IsOfProtocol rules c x
    × (family_of x.key.net.addr ≡ family)

-- ---- the same of some channel of the machine, as conditions

module _ {J : Type 0} (verdict : J → Net → Route → Verdict) where
  -- one that is up or isn't
  pub record IsSomeChannel (held : Channel J) (up : Bool) : Type 0 where
    pub rules : Rules
    pub c : ℕ
    pub family : Family
    pub history : List Change
    pub ch : machine.Channel
    pub is_up : is_open ch ≡ up
    pub channel : IsChannel verdict rules c (Some family) history held ch

  -- over this table
  pub record Reads (held : Channel J) (table : Table) : Type 0 where
    pub rules : Rules
    pub c : ℕ
    pub family : Family
    pub history : List Change
    pub ch : machine.Channel
    pub rules_are : IsRules rules
    pub is : IsTable rules family history table
    pub channel : IsChannel verdict rules c (Some family) history held ch

  -- over this table, and up or not
  pub record ReadsUp (held : Channel J) (table : Table) (up : Bool) : Type 0 where
    pub reads : Reads held table
    pub is_up : is_open reads.ch ≡ up

  -- an exporter, over this table, which is up or isn't
  pub record IsOver (e : Exporter J) (table : Table) (up : Bool) : Type 0 where
    pub rules : Rules
    pub c : ℕ
    pub family : Family
    pub history : List Change
    pub ch : machine.Channel
    pub rules_are : IsRules rules
    pub is : IsTable rules family history table
    pub is_up : is_open ch ≡ up
    pub exporter : IsExporter verdict rules c (Some family) history e ch

  -- one whose feed has begun
  pub record HasBegun (e : Exporter J) (table : Table) : Type 0 where
    pub rules : Rules
    pub c : ℕ
    pub family : Family
    pub history : List Change
    pub due : Bool
    pub ch : machine.Channel
    pub rules_are : IsRules rules
    pub is : IsTable rules family history table
    pub family_is : e.spec.family ≡ family
    pub feed_is : e.feed ≡ From None
    pub begun : MatchesFed verdict rules c history due [] e ch
