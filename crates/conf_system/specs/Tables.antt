-- Whether the tables that channels and pipes name are there (`AllFit`): each is one of the
-- configuration's, by its number, and of the channel's family, both of a pipe's of one family.
-- From: BIRD User's Guide, "Channel options", `table`, and "Pipe".
-- Example: a channel `ipv6 { table master6; }` has the table of number 1, which is of IPv6.
use Rattle.std.specs.Prelude.{◌≡◌, ⊤, ℕ, List, [], ◌∷◌, Some, slice_get}
use Rattle.bits_ip.specs.declared.address.Family.{Family}
use Rattle.conf_system.specs.System.{Body, Channel, IsBgp, IsPipe, IsStatic, Protocol}

-- tables in the order of their numbers, each with its name and its family
abbrev pub Tables : Type 0
Tables = List (List ℕ × Family)

-- the table of this number is of this family
abbrev pub Has : Tables → ℕ → Family → Type 0
Has tables number family =
    (entry : List ℕ × Family) × (slice_get tables number ≡ Some entry) × (entry.1 ≡ family)

-- the channel's table is there, and of its family
abbrev pub Fits : Tables → Channel → Type 0
Fits tables c = Has tables c.table c.family

abbrev pub BodyFits : Tables → Body → Type 0
BodyFits tables (IsStatic p) = Fits tables p.channel
BodyFits tables (IsBgp p) = Fits tables p.channel
BodyFits tables (IsPipe p) = Has tables p.table p.family × Has tables p.peer p.family

-- so is each protocol's
abbrev pub AllFit : Tables → List Protocol → Type 0
AllFit tables [] = ⊤
AllFit tables (p ∷ more) = BodyFits tables p.body × AllFit tables more
