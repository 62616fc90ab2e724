-- The words of an entry of a table's journal: the net, the change's source, and the new route and
-- the best one where they are. Each number stands at a bit of a word; bits without a number are 0.
-- Not modelled: where the words stand in the journal. From: this project's own format.
use Rattle.std.specs.Prelude.{ℕ, suc, ◌+◌, ◌*◌, ◌/◌, ◌%◌, ◌^◌, Bool, true, false, List, [], ◌∷◌, ◌++◌, length, map, Option, Some, None, unwrap_or}
use Rattle.std.specs.Option.{is_some}
use Rattle.bits_ip.specs.Address.{number_of}
use Rattle.bits_ip.specs.Prefix.{Net}
use Rattle.bits_ip.specs.declared.address.Addr.{Addr}
use Rattle.bits_ip.specs.declared.address.Addr.TheVariants.{V4, V6}
use Rattle.attrs.specs.declared.attributes.Attrs.{Attrs}
use Rattle.attrs.specs.declared.attributes.Kind.{Kind}
use Rattle.attrs.specs.declared.attributes.Kind.TheVariants.{Static, Bgp}
use Rattle.attrs.specs.declared.attributes.Dest.{Dest}
use Rattle.attrs.specs.declared.attributes.Dest.TheVariants.{Unicast, Blackhole, Unreachable, Prohibit}
use Rattle.attrs.specs.declared.attributes.Origin.{Origin}
use Rattle.attrs.specs.declared.attributes.Origin.TheVariants.{Igp, Egp, Incomplete}
use Rattle.attrs.specs.declared.route.Route.{Route}
use Rattle.attrs.specs.declared.journal.JEntry.{JEntry}

-- a number that begins at this bit
abbrev pub at_bit : ℕ → ℕ → ℕ
at_bit bit number = number * 2 ^ bit

-- two numbers of 32 bits in one word, the first in the low half
abbrev pub joined : ℕ → ℕ → ℕ
joined low high = low + at_bit 32 high

abbrev pub flag : Bool → ℕ
flag false = 0
flag true = 1

abbrev pub or_zero : Option ℕ → ℕ
or_zero number = unwrap_or number 0

abbrev pub family_number : Addr → ℕ
family_number (V4 n) = 4
family_number (V6 n) = 6

abbrev pub kind_number : Kind → ℕ
kind_number Static = 0
kind_number Bgp = 1

abbrev pub dest_number : Dest → ℕ
dest_number Unicast = 0
dest_number Blackhole = 1
dest_number Unreachable = 2
dest_number Prohibit = 3

abbrev pub origin_number : Option Origin → ℕ
origin_number None = 0
origin_number (Some Igp) = 1
origin_number (Some Egp) = 2
origin_number (Some Incomplete) = 3

-- the length and the family; the address in two words
abbrev pub net_words : Net → List ℕ
net_words net =
    (net.len + at_bit 8 (family_number net.addr))
    ∷ (number_of net.addr / 2 ^ 64) ∷ (number_of net.addr % 2 ^ 64) ∷ []

-- the family, 0 for none; the address in one word or two
abbrev pub addr_words : Option Addr → List ℕ
addr_words None = 0 ∷ []
addr_words (Some (V4 n)) = 4 ∷ n ∷ []
addr_words (Some (V6 n)) = 6 ∷ (n / 2 ^ 64) ∷ (n % 2 ^ 64) ∷ []

-- two numbers a word; a last one alone is in the low half
abbrev pub number_words : List ℕ → List ℕ
number_words [] = []
number_words (last ∷ []) = last ∷ []
number_words (low ∷ high ∷ rest) = joined low high ∷ number_words rest

-- a community as a number of 32 bits
abbrev pub pair_number : ℕ × ℕ → ℕ
pair_number pair = pair.0 * 65536 + pair.1

-- what sort of route it is, which values it has, and how long its lists are
abbrev pub shape_word : Attrs → ℕ
shape_word a =
    kind_number a.kind + at_bit 4 (dest_number a.dest) + at_bit 8 (flag a.ebgp)
    + at_bit 12 (origin_number a.origin) + at_bit 16 (flag (is_some a.med))
    + at_bit 17 (flag (is_some a.lp)) + at_bit 18 (flag (is_some a.igp))
    + at_bit 24 (length a.path) + at_bit 32 (length a.coms)

-- where the route is from, its preference, its shape, and its numbers: a missing MED, local
-- preference or distance is 0, which the shape tells from a value
abbrev pub head_words : Route → List ℕ
head_words r =
    joined r.src.num r.src.def_med
    ∷ joined r.src.def_lp r.attrs.pref
    ∷ shape_word r.attrs
    ∷ joined r.attrs.peer_id (or_zero r.attrs.med)
    ∷ joined (or_zero r.attrs.lp) (or_zero r.attrs.igp)
    ∷ []

unfoldable pub route_words : Route → List ℕ
route_words r =
    head_words r ++ addr_words r.attrs.gw ++ addr_words r.attrs.sender
    ++ addr_words r.attrs.next_hop ++ number_words r.attrs.path
    ++ number_words (map pair_number r.attrs.coms)

abbrev pub optional_route_words : Option Route → List ℕ
optional_route_words None = []
optional_route_words (Some r) = route_words r

-- how many words the entry has, and which routes
abbrev pub first_word : ℕ → Bool → Bool → ℕ
first_word count has_new has_best = count + at_bit 16 (flag has_new) + at_bit 17 (flag has_best)

-- the words behind the first
abbrev pub body_words : JEntry → List ℕ
body_words e =
    net_words e.net ++ e.num ∷ [] ++ optional_route_words e.new ++ optional_route_words e.best

unfoldable pub entry_words : JEntry → List ℕ
entry_words e =
    first_word (suc (length (body_words e))) (is_some e.new) (is_some e.best) ∷ body_words e
