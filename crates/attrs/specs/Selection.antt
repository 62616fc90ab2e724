-- Which of two routes of a net is preferred (`before`): the first rule that tells them apart
-- decides (`selection_rules`); and the best of a set (`IsBest`).
-- Not modelled: MEDs compared only within one neighbour AS, the age of routes, and reachability of
-- next hops.
-- From: BIRD User's Guide, "Route selection"; RFC 4271, sections 9.1.1 and 9.1.2.2; a rule that is
-- own says so in its line.
-- Example: the higher preference; static before BGP; then of BGP the higher local preference, the
-- shorter path, the lower origin, the lower MED, external before internal, the lower distance, the
-- lower router id, the lower neighbour's address; last the lower source number.
use Rattle.std.specs.Prelude.{◌≡◌, ◌+◌, ◌^◌, ℕ, Bool, true, false, ◌&&◌, ◌||◌, ◌==◌, nat_lt, List, [], ◌∷◌, length, Option, Some, None, unwrap_or, IsTrue, Contains}
use Rattle.bits_ip.specs.declared.address.Addr.{Addr}
use Rattle.bits_ip.specs.declared.address.Addr.TheVariants.{V4, V6}
use Rattle.attrs.specs.declared.attributes.Kind.{Kind}
use Rattle.attrs.specs.declared.attributes.Kind.TheVariants.{Static, Bgp}
use Rattle.attrs.specs.declared.attributes.Origin.{Origin}
use Rattle.attrs.specs.declared.attributes.Origin.TheVariants.{Igp, Egp, Incomplete}
use Rattle.attrs.specs.declared.route.Route.{Route}

-- a rule prefers the lower or the higher of a number that it reads off a route
pub data Rule : Type 0 where
  Lower : (Route → ℕ) → Rule
  Higher : (Route → ℕ) → Rule

-- the first rule that tells a and b apart prefers a
abbrev pub before_by : List Rule → Route → Route → Bool
before_by [] a b = false
before_by (Lower key ∷ rules) a b =
    nat_lt (key a) (key b) || (key a == key b && before_by rules a b)
before_by (Higher key ∷ rules) a b =
    nat_lt (key b) (key a) || (key a == key b && before_by rules a b)

-- ---- what the rules read

abbrev pub preference : Route → ℕ
preference r = r.attrs.pref

-- static before BGP
abbrev pub kind_rank : Kind → ℕ
kind_rank Static = 0
kind_rank Bgp = 1

abbrev pub protocol_kind : Route → ℕ
protocol_kind r = kind_rank r.attrs.kind

-- a number that only BGP has: all routes of static protocols are alike in it
abbrev pub if_bgp : Kind → ℕ → ℕ
if_bgp Static number = 0
if_bgp Bgp number = number

-- a missing one counts as the default of the route's protocol
abbrev pub local_preference : Route → ℕ
local_preference r = if_bgp r.attrs.kind (unwrap_or r.attrs.lp r.src.def_lp)

abbrev pub path_length : Route → ℕ
path_length r = if_bgp r.attrs.kind (length r.attrs.path)

-- IGP, then EGP, then incomplete, as which a missing one counts
abbrev pub origin_rank : Option Origin → ℕ
origin_rank (Some Igp) = 0
origin_rank (Some Egp) = 1
origin_rank (Some Incomplete) = 2
origin_rank None = 2

abbrev pub origin : Route → ℕ
origin r = if_bgp r.attrs.kind (origin_rank r.attrs.origin)

-- a missing one counts as the default of the route's protocol
abbrev pub exit_discriminator : Route → ℕ
exit_discriminator r = if_bgp r.attrs.kind (unwrap_or r.attrs.med r.src.def_med)

-- another autonomous system before the own
abbrev pub neighbour_rank : Bool → ℕ
neighbour_rank true = 0
neighbour_rank false = 1

abbrev pub learned_from : Route → ℕ
learned_from r = if_bgp r.attrs.kind (neighbour_rank r.attrs.ebgp)

-- a missing one counts as none
abbrev pub internal_distance : Route → ℕ
internal_distance r = if_bgp r.attrs.kind (unwrap_or r.attrs.igp 0)

abbrev pub router_id : Route → ℕ
router_id r = if_bgp r.attrs.kind r.attrs.peer_id

-- a missing address before all, and the addresses of IPv4 before those of IPv6
abbrev pub address_rank : Option Addr → ℕ
address_rank None = 0
address_rank (Some (V4 number)) = 1 + number
address_rank (Some (V6 number)) = 1 + 2 ^ 32 + number

abbrev pub neighbour : Route → ℕ
neighbour r = if_bgp r.attrs.kind (address_rank r.attrs.sender)

-- the protocol's number, so that any two routes of a net are told apart
abbrev pub source_number : Route → ℕ
source_number r = r.src.num

-- ---- the rules

-- The rules in their order. BUG is the BIRD User's Guide: its sections "Routing tables" and "BGP",
-- "Route selection rules".
abbrev pub selection_rules : List Rule
selection_rules =
    Higher preference  -- BUG, "Routing tables"
    ∷ Lower protocol_kind  -- own choice
    ∷ Higher local_preference  -- BUG, "BGP"; RFC 4271, 9.1.1
    ∷ Lower path_length  -- BUG, "BGP"; RFC 4271, 9.1.2.2 a
    ∷ Lower origin  -- BUG, "BGP"; RFC 4271, 9.1.2.2 b
    ∷ Lower exit_discriminator  -- BUG, "BGP", with `med metric on`; RFC 4271, 9.1.2.2 c
    ∷ Lower learned_from  -- BUG, "BGP"; RFC 4271, 9.1.2.2 d
    ∷ Lower internal_distance  -- BUG, "BGP"; RFC 4271, 9.1.2.2 e
    ∷ Lower router_id  -- BUG, "BGP"; RFC 4271, 9.1.2.2 f
    ∷ Lower neighbour  -- RFC 4271, 9.1.2.2 g; its order of families and of none: own choice
    ∷ Lower source_number  -- own choice
    ∷ []

abbrev pub before : Route → Route → Bool
before = before_by selection_rules

-- The best of these routes is the one that is before all others, and none where there are none.
abbrev pub IsBest : List Route → Option Route → Type 0
IsBest routes None = routes ≡ []
IsBest routes (Some best) =
    Contains routes best
    × ((other : Route) → Contains routes other → (other ≡ best → ⊥) → IsTrue (before best other))
