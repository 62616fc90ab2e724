-- How attributes are written (`attrs_text`).
-- From: own.
-- Example: `pref 100 bgp unicast gw 192.0.2.1 from 192.0.2.1 id 10.0.0.1 ebgp path 65001 65002
-- origin igp nh 192.0.2.1 lp 100`; `pref 200 static blackhole`.
use Rattle.std.specs.Prelude.{ℕ, Bool, true, false, List, [], ◌∷◌, ◌++◌, Option, Some, None, codes, decimal}
use Rattle.std.specs.List.{flat_map}
use Rattle.bits_ip.specs.Text.{addr_text, v4_text}
use Rattle.attrs.specs.declared.attributes.Origin.{Origin}
use Rattle.attrs.specs.declared.attributes.Origin.TheVariants.{Igp, Egp, Incomplete}
use Rattle.attrs.specs.declared.attributes.Dest.{Dest}
use Rattle.attrs.specs.declared.attributes.Dest.TheVariants.{Unicast, Blackhole, Unreachable, Prohibit}
use Rattle.attrs.specs.declared.attributes.Kind.{Kind}
use Rattle.attrs.specs.declared.attributes.Kind.TheVariants.{Static, Bgp}
use Rattle.attrs.specs.declared.attributes.Attrs.{Attrs}

abbrev pub origin_text : Origin → List ℕ
origin_text Igp = codes "igp"
origin_text Egp = codes "egp"
origin_text Incomplete = codes "incomplete"

abbrev pub dest_text : Dest → List ℕ
dest_text Unicast = codes "unicast"
dest_text Blackhole = codes "blackhole"
dest_text Unreachable = codes "unreachable"
dest_text Prohibit = codes "prohibit"

abbrev pub kind_text : Kind → List ℕ
kind_text Static = codes "static"
kind_text Bgp = codes "bgp"

-- a field that may be absent: its label, and its value's text
abbrev pub optional_text : {X : Type 0} → List ℕ → (X → List ℕ) → Option X → List ℕ
optional_text label text None = []
optional_text label text (Some x) = label ++ text x

-- a field that may be empty: its label, and behind a space each element's text
abbrev pub list_text : {X : Type 0} → List ℕ → (X → List ℕ) → List X → List ℕ
list_text label text [] = []
list_text label text (x ∷ xs) = label ++ flat_map (λ y. 32 ∷ text y) (x ∷ xs)

abbrev pub community_text : ℕ × ℕ → List ℕ
community_text pair = decimal pair.0 ++ 58 ∷ decimal pair.1

abbrev pub ebgp_text : Bool → List ℕ
ebgp_text true = codes " ebgp"
ebgp_text false = codes " ibgp"

-- what only routes of BGP have: the neighbour's router id, and whether it is in another autonomous
-- system
abbrev pub peer_text : Kind → ℕ → Bool → List ℕ
peer_text Static id ebgp = []
peer_text Bgp id ebgp = codes " id " ++ v4_text id ++ ebgp_text ebgp

-- the attributes in one line: each field in its place, without what is absent or empty
abbrev pub attrs_text : Attrs → List ℕ
attrs_text a =
    codes "pref " ++ decimal a.pref ++ 32 ∷ kind_text a.kind ++ 32 ∷ dest_text a.dest
    ++ optional_text (codes " gw ") addr_text a.gw
    ++ optional_text (codes " from ") addr_text a.sender
    ++ peer_text a.kind a.peer_id a.ebgp
    ++ list_text (codes " path") decimal a.path
    ++ optional_text (codes " origin ") origin_text a.origin
    ++ optional_text (codes " nh ") addr_text a.next_hop
    ++ optional_text (codes " med ") decimal a.med
    ++ optional_text (codes " lp ") decimal a.lp
    ++ optional_text (codes " igp ") decimal a.igp
    ++ list_text (codes " com") community_text a.coms
