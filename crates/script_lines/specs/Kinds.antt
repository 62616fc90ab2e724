-- Why a line that is of the grammar is refused: each kind by itself (`has_wrong_actor`,
-- `has_unknown_name`, `has_other_family`, `is_over_limit`, `is_barred_step`, `is_actor_too_many`),
-- and the least of those that apply (`least_kind`). What scripts can name (`channel_of`, `protocol_of`,
-- `session_of`, `is_of_family`, `table_of`, `filter_of`), by names, kinds of protocols and families;
-- which table is asked (`asked_table`); who has spoken before. A kind that rests on what is unknown
-- doesn't apply.
-- Not modelled: the configuration itself; whether a condition is one, which is the greatest kind.
-- From: own, this program's format of scripts; limits of numbers are those of specs/Limits of
-- announcements.
-- Example: `!take nope 4294967296` is S3; an `add` by no bgp protocol has no S4, and `show route
-- 2001:db8::/32 table nope` is S3. Where `!` lines are barred `!take p1 1` is S6, and `!take nope 1`
-- still S3.
use Rattle.std.specs.Prelude.{ℕ, ◌<◌, ◌^◌, Bool, true, false, not, ◌&&◌, ◌||◌, nat_le}
use Rattle.std.specs.Prelude.{is_some, is_none, option_map, option_and_then}
use Rattle.std.specs.Prelude.{List, [], ◌∷◌, length, Option, None, Some}
use Rattle.std.specs.List.{position, find, slice_get}
use Rattle.attrs.specs.declared.route.Select.{Select}
use Rattle.attrs.specs.declared.route.Select.TheVariants.{All, Exact, For, Within}
use Rattle.std.specs.Str.{bytes_eq}
use Rattle.bits_ip.specs.Address.{family_of}
use Rattle.bits_ip.specs.declared.address.Family.{Family}
use Rattle.bits_ip.specs.declared.address.Family.TheVariants as families
use Rattle.queries.specs.Question.{Asked}
use Rattle.script_lines.specs.declared.named.Named.{Named}
use Rattle.script_lines.specs.declared.named.NamedProtocol.{NamedProtocol}
use Rattle.script_lines.specs.declared.named.NamedTable.{NamedTable}
use Rattle.script_lines.specs.declared.named.ProtocolKind.{ProtocolKind}
use Rattle.script_lines.specs.declared.named.ProtocolKind.TheVariants.{Bgp}
use Rattle.script_lines.specs.declared.faults.ScriptKind.{ScriptKind}
use Rattle.script_lines.specs.declared.faults.ScriptKind.TheVariants.{Syntax, UnknownActor}
use Rattle.script_lines.specs.declared.faults.ScriptKind.TheVariants.{UnknownName, Nettype}
use Rattle.script_lines.specs.declared.faults.ScriptKind.TheVariants.{AttrLimit, ScheduleInRun, Actors}
use Rattle.script_lines.specs.declared.faults.ScriptKind.TheVariants.{Expression}
use Rattle.script_lines.specs.Grammar.{Command, Open, Close, Add, Del, Disable, Enable, Reload}
use Rattle.script_lines.specs.Grammar.{ReloadIn, ReloadOut, ShowRoute}
use Rattle.script_lines.specs.Grammar.{Form, Take, Push, Says}
use Rattle.announcements.specs.Limits.{fits, given_fits}

-- There are few enough protocols, channels, tables and filters for numbers of 32 bits.
pub record AreFew (named : Named) : Type 0 where
  pub protocols : length named.protocols < 2 ^ 32
  pub channels : length named.channels < 2 ^ 32
  pub tables : length named.tables < 2 ^ 32
  pub filters : length named.filters < 2 ^ 32

-- the place of a name in a list, from 0, where it is there
abbrev pub place_of : List (List ℕ) → List ℕ → Option ℕ
place_of names name = position (λ other. bytes_eq other name) names

-- the number of the channel of this name
abbrev pub channel_of : Named → List ℕ → Option ℕ
channel_of named name = place_of named.channels name

abbrev pub is_called : List ℕ → NamedProtocol → Bool
is_called name protocol = bytes_eq protocol.name name

-- the number of the protocol of this name
abbrev pub protocol_of : Named → List ℕ → Option ℕ
protocol_of named name = position (is_called name) named.protocols

abbrev pub is_bgp : ProtocolKind → Bool
is_bgp (Bgp family) = true
is_bgp _ = false

-- the protocol is a bgp one of this name
abbrev pub is_session_of : List ℕ → NamedProtocol → Bool
is_session_of name protocol = is_called name protocol && is_bgp protocol.kind

-- the number of the bgp protocol of this name
abbrev pub session_of : Named → List ℕ → Option ℕ
session_of named name = position (is_session_of name) named.protocols

abbrev pub same_family : Family → Family → Bool
same_family families.V4 families.V4 = true
same_family families.V6 families.V6 = true
same_family _ _ = false

abbrev pub is_bgp_of : Family → ProtocolKind → Bool
is_bgp_of family (Bgp own) = same_family own family
is_bgp_of family _ = false

abbrev pub is_some_of : Family → Option NamedProtocol → Bool
is_some_of family None = false
is_some_of family (Some protocol) = is_bgp_of family protocol.kind

-- the bgp protocol of this name has a channel of this family
abbrev pub is_of_family : Named → List ℕ → Family → Bool
is_of_family named name family = is_some_of family (find (is_session_of name) named.protocols)

-- the number of the table of this name
abbrev pub is_table : List ℕ → NamedTable → Bool
is_table name table = bytes_eq table.name name

abbrev pub table_of : Named → List ℕ → Option ℕ
table_of named name = position (is_table name) named.tables

-- the number of the filter of this name
abbrev pub filter_of : Named → List ℕ → Option ℕ
filter_of named name = place_of named.filters name

-- the number of the table of the bgp protocol of this name
abbrev pub export_table : Named → List ℕ → Option ℕ
export_table named name =
    option_map (λ protocol. protocol.table) (find (is_session_of name) named.protocols)

-- the family of the net that is asked for
abbrev pub pick_family : Select → Option Family
pick_family All = None
pick_family (Exact net) = Some (family_of net.addr)
pick_family (For net) = Some (family_of net.addr)
pick_family (Within net) = Some (family_of net.addr)

-- master4, or master6 for a net of IPv6
abbrev pub default_table : Option Family → ℕ
default_table (Some families.V6) = 1
default_table _ = 0

-- the number of the table of this name, or else of that of this export, or else of the default one
abbrev pub table_by : Named → Option (List ℕ) → Option (List ℕ) → Select → Option ℕ
table_by named (Some table) export pick = table_of named table
table_by named None (Some export) pick = export_table named export
table_by named None None pick = Some (default_table (pick_family pick))

-- the number of the table that is asked, where it is known
abbrev pub asked_table : Named → Asked → Option ℕ
asked_table named asked = table_by named asked.table asked.export asked.pick

-- the family of the table of this number
abbrev pub family_at : Named → ℕ → Option Family
family_at named number = option_map (λ table. table.family) (slice_get named.tables number)

-- the family of the table that is asked
abbrev pub asked_family : Named → Asked → Option Family
asked_family named asked = option_and_then (family_at named) (asked_table named asked)

-- a name is given, and nothing has it
abbrev pub lacks : (List ℕ → Option ℕ) → Option (List ℕ) → Bool
lacks number None = false
lacks number (Some name) = is_none (number name)

-- an unknown table, protocol or filter, or exports of no bgp protocol
abbrev pub asks_unknown : Named → Asked → Bool
asks_unknown named asked =
    lacks (table_of named) asked.table || lacks (protocol_of named) asked.protocol
    || lacks (session_of named) asked.export || lacks (filter_of named) asked.filter

-- two families are known, and they differ
abbrev pub differ : Option Family → Option Family → Bool
differ (Some one) (Some other) = not (same_family one other)
differ _ _ = false

-- a net of another family than the table, where that is known
abbrev pub asks_other_family : Named → Asked → Bool
asks_other_family named asked = differ (pick_family asked.pick) (asked_family named asked)

-- operations of a session, which only a bgp protocol has
abbrev pub is_session : Command → Bool
is_session (Open id) = true
is_session Close = true
is_session (Add net given) = true
is_session (Del net) = true
is_session _ = false

-- An operation of a session by an actor that isn't the name of a bgp protocol.
abbrev pub has_wrong_actor : Named → Form → Bool
has_wrong_actor named (Says actor command) = is_session command && is_none (session_of named actor)
has_wrong_actor named _ = false

-- An unknown channel, protocol, table or filter.
abbrev pub has_unknown_name : Named → Form → Bool
has_unknown_name named (Take channel count) = is_none (channel_of named channel)
has_unknown_name named (Push channel count) = is_none (channel_of named channel)
has_unknown_name named (Says actor (Disable name)) = is_none (protocol_of named name)
has_unknown_name named (Says actor (Enable name)) = is_none (protocol_of named name)
has_unknown_name named (Says actor (Reload name)) = is_none (protocol_of named name)
has_unknown_name named (Says actor (ReloadIn name)) = is_none (protocol_of named name)
has_unknown_name named (Says actor (ReloadOut name)) = is_none (protocol_of named name)
has_unknown_name named (Says actor (ShowRoute asked)) = asks_unknown named asked
has_unknown_name named _ = false

-- A net or a gateway of another family than the channel or the table, where that is known.
abbrev pub has_other_family : Named → Form → Bool
has_other_family named (Says actor (Add net given)) =
    is_some (session_of named actor)
    && not (is_of_family named actor (family_of net.addr)
    && is_of_family named actor (family_of given.gw))
has_other_family named (Says actor (Del net)) =
    is_some (session_of named actor) && not (is_of_family named actor (family_of net.addr))
has_other_family named (Says actor (ShowRoute asked)) = asks_other_family named asked
has_other_family named _ = false

-- A number of over 32 bits, a community's part of over sixteen, a path of over 120 numbers, over 64
-- different communities.
abbrev pub is_over_limit : Form → Bool
is_over_limit (Take channel count) = not (fits count)
is_over_limit (Push channel count) = not (fits count)
is_over_limit (Says actor (Add net given)) = not (given_fits given)
is_over_limit _ = false

-- A take or a push, where scripts may not say which channel works when.
abbrev pub is_barred_step : Named → Form → Bool
is_barred_step named (Take channel count) = not named.schedule
is_barred_step named (Push channel count) = not named.schedule
is_barred_step named _ = false

-- The first line of a 65th actor.
abbrev pub is_actor_too_many : List (List ℕ) → Form → Bool
is_actor_too_many actors (Says actor command) =
    is_none (place_of actors actor) && nat_le 64 (length actors)
is_actor_too_many actors _ = false

-- This kind applies to the line, behind lines of these actors.
abbrev pub applies : Named → List (List ℕ) → Form → ScriptKind → Bool
applies named actors form Syntax = false
applies named actors form UnknownActor = has_wrong_actor named form
applies named actors form UnknownName = has_unknown_name named form
applies named actors form Nettype = has_other_family named form
applies named actors form AttrLimit = is_over_limit form
applies named actors form ScheduleInRun = is_barred_step named form
applies named actors form Actors = is_actor_too_many actors form
applies named actors form Expression = false

-- all kinds that are judged here, the least first
abbrev pub kinds : List ScriptKind
kinds =
    Syntax ∷ UnknownActor ∷ UnknownName ∷ Nettype ∷ AttrLimit ∷ ScheduleInRun ∷ Actors ∷ []

-- the least kind that applies
abbrev pub least_kind : Named → List (List ℕ) → Form → Option ScriptKind
least_kind named actors form = find (applies named actors form) kinds
