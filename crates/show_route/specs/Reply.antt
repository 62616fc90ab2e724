-- How a reply to `show route` begins (`reply_head`), and how it shows a route (`shown_route`).
-- Not modelled: which routes it shows (Shown); times and metrics of protocols.
-- From: BIRD User's Guide, "Remote control", `show route`; the form of a line is own.
-- Example: `203.0.113.0/24 unicast [p1] * (100) [AS65002i]`, and `via 192.0.2.1` in a line of its
-- own behind a tab.
use Rattle.std.specs.Prelude.{ℕ, Bool, true, false, if◌then◌else◌, List, [], ◌∷◌, ◌++◌, Option, Some, None, codes, decimal}
use Rattle.bits_ip.specs.Prefix.{Net}
use Rattle.bits_ip.specs.Text.{addr_text, net_text}
use Rattle.text.specs.Names.{name_of}
use Rattle.attrs.specs.Text.{dest_text, optional_text}
use Rattle.attrs.specs.declared.attributes.Origin.{Origin}
use Rattle.attrs.specs.declared.attributes.Origin.TheVariants.{Igp, Egp, Incomplete}
use Rattle.attrs.specs.declared.attributes.Kind.{Kind}
use Rattle.attrs.specs.declared.attributes.Kind.TheVariants.{Static, Bgp}
use Rattle.attrs.specs.declared.route.Route.{Route}

-- the last AS of a path, and nothing of an empty one
abbrev pub last_as_text : List ℕ → List ℕ
last_as_text [] = []
last_as_text (n ∷ []) = codes "AS" ++ decimal n
last_as_text (n ∷ m ∷ rest) = last_as_text (m ∷ rest)

abbrev pub origin_letter : Option Origin → List ℕ
origin_letter (Some Igp) = codes "i"
origin_letter (Some Egp) = codes "e"
origin_letter (Some Incomplete) = codes "?"
origin_letter None = codes "?"

-- what only routes of BGP show
abbrev pub as_text : Kind → List ℕ → Option Origin → List ℕ
as_text Static path origin = []
as_text Bgp path origin = codes " [" ++ last_as_text path ++ origin_letter origin ++ codes "]"

-- a route: its net, its protocol, a star where it is the net's best, and its gateway on a line of
-- its own
abbrev pub shown_route : List (List ℕ) → Net → Bool → Route → List ℕ
shown_route names net best r =
    net_text net ++ 32 ∷ dest_text r.attrs.dest
    ++ codes " [" ++ name_of names r.src.num ++ codes "]"
    ++ (if best then codes " *" else []) ++ codes " (" ++ decimal r.attrs.pref ++ codes ")"
    ++ as_text r.attrs.kind r.attrs.path r.attrs.origin ++ codes "\n"
    ++ optional_text (codes "\tvia ") (λ gw. addr_text gw ++ codes "\n") r.attrs.gw

-- the heading: the table's name
abbrev pub reply_head : List ℕ → List ℕ
reply_head table = codes "Table " ++ table ++ codes ":\n"
