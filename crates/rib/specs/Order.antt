-- For private contracts alone: the order of selection as one comparison: the preferred route is the
-- lesser.
use Rattle.std.specs.Prelude.{ℕ, List, [], ◌∷◌, Option, Some, None}
use Rattle.std.specs.Ordering.{nat_cmp, ordering_then}
use Rattle.std.specs.declared.cmp.Ordering.{Ordering}
use Rattle.std.specs.declared.cmp.Ordering.TheVariants.{Equal}
use Rattle.bits_ip.specs.declared.address.Addr.{Addr}
use Rattle.bits_ip.specs.declared.address.Addr.TheVariants.{V4, V6}
use Rattle.attrs.specs.declared.route.Route.{Route}
use Rattle.attrs.specs.Selection.{Rule, Lower, Higher, preference, protocol_kind, local_preference, path_length, origin, exit_discriminator, learned_from, internal_distance, router_id, neighbour}

-- the first rule that tells a and b apart, and equal where none does
abbrev pub compare_by : List Rule → Route → Route → Ordering
compare_by [] a b = Equal
compare_by (Lower key ∷ rules) a b = ordering_then (nat_cmp (key a) (key b)) (compare_by rules a b)
compare_by (Higher key ∷ rules) a b = ordering_then (nat_cmp (key b) (key a)) (compare_by rules a b)

-- the parts of the list of rules: what goes by the protocol, by what was announced, and by who
-- announced it
abbrev pub protocol_rules : List Rule
protocol_rules = Higher preference ∷ Lower protocol_kind ∷ []

abbrev pub announcement_rules : List Rule
announcement_rules =
    Higher local_preference ∷ Lower path_length ∷ Lower origin ∷ Lower exit_discriminator ∷ []

abbrev pub neighbour_rules : List Rule
neighbour_rules =
    Lower learned_from ∷ Lower internal_distance ∷ Lower router_id ∷ Lower neighbour ∷ []

-- the address in two numbers: no address, then IPv4, then IPv6; and its bits
abbrev pub family_rank : Option Addr → ℕ
family_rank None = 0
family_rank (Some (V4 number)) = 1
family_rank (Some (V6 number)) = 2

abbrev pub number_in : Option Addr → ℕ
number_in None = 0
number_in (Some (V4 number)) = number
number_in (Some (V6 number)) = number
