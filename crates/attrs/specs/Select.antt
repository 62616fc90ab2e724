-- Which rows of a table are asked for (`selected`): all, those of one net, of the longest net that
-- covers a prefix, or of the nets that a prefix covers.
-- From: BIRD User's Guide, "Remote control", `show route`.
-- Example: for 10.1.2.3/32 the longest of 10.0.0.0/8, 10.1.0.0/16 and 10.1.2.0/24 is the last.
use Rattle.std.specs.Prelude.{ℕ, Bool, ◌&&◌, ◌==◌, not, nat_le, nat_lt, List, Option, Some, None}
use Rattle.std.specs.List.{filter, list_any}
use Rattle.bits_ip.specs.Address.{family_rank}
use Rattle.bits_ip.specs.Prefix.{Net, front_bits, precedes, same_net}
use Rattle.attrs.specs.declared.route.Row.{Row}
use Rattle.attrs.specs.declared.route.Select.{Select}
use Rattle.attrs.specs.declared.route.Select.TheVariants.{All, Exact, For, Within}

-- a covers b: one family, a isn't longer, and the bits of a agree
abbrev pub covers : Net → Net → Bool
covers a b =
    (family_rank a.addr == family_rank b.addr)
    && (nat_le a.len b.len && (front_bits a.addr a.len == front_bits b.addr a.len))

-- a row of a longer net covers the asked one
abbrev pub has_longer_cover : Net → ℕ → List Row → Bool
has_longer_cover asked len rows =
    list_any (λ row. covers row.net asked && nat_lt len row.net.len) rows

-- the rows that are asked for, in the order of nets
abbrev pub selected : Select → List Row → List Row
selected All rows = rows
selected (Exact net) rows = filter (λ row. same_net net row.net) rows
selected (For net) rows =
    filter (λ row. covers row.net net && not (has_longer_cover net row.net.len rows)) rows
selected (Within net) rows = filter (λ row. covers net row.net) rows

-- the rows from a net on, itself included, and all where there is none
abbrev pub rows_from : Option Net → List Row → List Row
rows_from None rows = rows
rows_from (Some net) rows = filter (λ row. not (precedes row.net net)) rows
