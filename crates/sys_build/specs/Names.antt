-- What scripts can name of a configuration (`named_of`): its protocols with their kinds and tables,
-- its channels, tables and filters, and whether they may schedule; which kind is that of a protocol that is played (`IsKindOf`).
-- From: own.
-- Example: a protocol of BGP is a protocol and a channel of one name.
use Rattle.std.specs.Prelude.{◌≡◌, ℕ, Bool, List, [], ◌∷◌, ◌++◌, map, codes, Some, ⊤}
use Rattle.attrs.specs.declared.attributes.Kind.TheVariants.{Bgp, Static}
use Rattle.bits_ip.specs.declared.address.Family.{Family}
use Rattle.conf_check.specs.declared.checked.ProtocolBody.{ProtocolBody}
use Rattle.conf_check.specs.declared.checked.ProtocolBody.TheVariants as bodies
use Rattle.core_setup.specs.Setup as setup
use Rattle.core_setup.specs.Setup.{family_at}
use Rattle.script_lines.specs.declared.named.Named.{Named}
use Rattle.script_lines.specs.declared.named.NamedProtocol.{NamedProtocol}
use Rattle.script_lines.specs.declared.named.NamedTable.{NamedTable}
use Rattle.script_lines.specs.declared.named.ProtocolKind.{ProtocolKind}
use Rattle.script_lines.specs.declared.named.ProtocolKind.TheVariants as kinds
use Rattle.conf_system.specs.System.{Body, IsBgp, IsPipe, IsStatic, Protocol, System}

abbrev pub kind_of : Body → ProtocolKind
kind_of (IsStatic p) = kinds.Static p.channel.family
kind_of (IsBgp p) = kinds.Bgp p.channel.family
kind_of (IsPipe p) = kinds.Pipe

-- the table of its channel, of a pipe the primary one
abbrev pub table_of : Body → ℕ
table_of (IsStatic p) = p.channel.table
table_of (IsBgp p) = p.channel.table
table_of (IsPipe p) = p.table

abbrev pub named_protocol : Protocol → NamedProtocol
named_protocol p = record { name = p.name; kind = kind_of p.body; table = table_of p.body }

abbrev pub named_table : List ℕ × Family → NamedTable
named_table table = record { name = table.0; family = table.1 }

-- a pipe has a channel each way
abbrev pub pipe_channels : List ℕ → List (List ℕ)
pipe_channels name = (name ++ codes ".export") ∷ (name ++ codes ".import") ∷ []

-- the channel of a bgp protocol has its name
abbrev pub channels_of : List ℕ → Body → List (List ℕ)
channels_of name (IsStatic p) = []
channels_of name (IsBgp p) = name ∷ []
channels_of name (IsPipe p) = pipe_channels name

abbrev pub all_channels : List Protocol → List (List ℕ)
all_channels [] = []
all_channels (p ∷ more) = channels_of p.name p.body ++ all_channels more

unfoldable pub named_of : System → (schedule : Bool) → Named
named_of system schedule = record {
  protocols = map named_protocol system.protocols;
  channels = all_channels system.protocols;
  tables = map named_table system.tables;
  filters = map (λ filter. filter.0) system.filters;
  schedule = schedule;
}

-- the same number, where the protocol is held in memory; for private contracts
abbrev pub held_table : ProtocolBody → ℕ
held_table (bodies.Static p) = p.channel.table
held_table (bodies.Bgp p) = p.channel.table
held_table (bodies.Pipe p) = p.table

-- a protocol that is played is of this kind, and the family is that of its table
abbrev pub IsKindOf : List (List ℕ × Family) → ProtocolKind → setup.Body → Type 0
IsKindOf tables (kinds.Static family) (setup.IsSource p) =
    (p.spec.kind ≡ Static) × (family_at tables p.table ≡ Some family)
IsKindOf tables (kinds.Bgp family) (setup.IsSource p) =
    (p.spec.kind ≡ Bgp) × (family_at tables p.table ≡ Some family)
IsKindOf tables kinds.Pipe (setup.IsPipe p) = ⊤
IsKindOf tables _ _ = ⊥
