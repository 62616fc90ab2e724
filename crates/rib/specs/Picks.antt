-- For private contracts alone: how rows are picked, and what the best of a net is with another
-- route.
use Rattle.std.specs.Prelude.{◌≡◌, ◌≢◌, ℕ, ◌+◌, ◌-◌, ◌%◌, ◌^◌, ◌<◌, ◌≤◌, Bool, true, false, if◌then◌else◌, List, [], Option, Some, None}
use Rattle.std.specs.declared.ops.Bound.{Bound}
use Rattle.std.specs.declared.ops.Bound.TheVariants.{Included, Unbounded}
use Rattle.bits_ip.specs.declared.address.Addr.{Addr}
use Rattle.bits_ip.specs.declared.address.Addr.TheVariants.{V4, V6}
use Rattle.bits_ip.specs.Address.{width_of}
use Rattle.bits_ip.specs.Prefix.{Net}
use Rattle.attrs.specs.declared.route.Route.{Route}
use Rattle.attrs.specs.declared.route.Row.{Row}
use Rattle.attrs.specs.Selection.{before}
use Rattle.attrs.specs.Table.{routes_of}
use Rattle.rib.specs.Entries.{row_of}
use Rattle.rib.specs.Steps.{placed, without}

-- the address with the bits behind this length cleared, and with them set where they are clear
abbrev pub front_addr : Addr → ℕ → Addr
front_addr (V4 n) len = V4 (n - n % 2 ^ (32 - len))
front_addr (V6 n) len = V6 (n - n % 2 ^ (128 - len))

abbrev pub last_addr : Addr → ℕ → Addr
last_addr (V4 n) len = V4 (n + (2 ^ (32 - len) - 1))
last_addr (V6 n) len = V6 (n + (2 ^ (128 - len) - 1))

-- the prefix of this length that covers a net
abbrev pub front : Net → ℕ → Net
front net len = record { addr = front_addr net.addr len; len = len }

-- the longest prefix of the last address that a net covers
abbrev pub last_within : Net → Net
last_within net = record { addr = last_addr net.addr net.len; len = width_of net.addr }

-- the longest prefix that covers the asked one and has routes
abbrev pub IsLongest : Net → List Row → Option Net → Type 0
IsLongest asked rows None = (len : ℕ) → len ≤ asked.len → routes_of (front asked len) rows ≡ []
IsLongest asked rows (Some best) =
    (best ≡ front asked best.len) × (best.len ≤ asked.len) × (routes_of best rows ≢ [])
    × ((len : ℕ) → best.len < len → len ≤ asked.len → routes_of (front asked len) rows ≡ [])

-- its row
abbrev pub row_of_best : Option Net → List Row → List Row
row_of_best None rows = []
row_of_best (Some best) rows = row_of best (routes_of best rows)

-- the net's row, where it has routes and is asked for
abbrev pub picked_row : Bool → Net → List Route → List Row
picked_row true net routes = row_of net routes
picked_row false net routes = []

-- the routes, with this one of a source, or none of it
abbrev pub routes_with : ℕ → Option Route → List Route → List Route
routes_with num None routes = without num routes
routes_with num (Some route) routes = placed route (without num routes)

-- the preferred of the two
abbrev pub better_of : Option Route → Option Route → Option Route
better_of None other = other
better_of (Some route) None = Some route
better_of (Some route) (Some other) = if before route other then Some route else Some other

-- where a list of nets begins
abbrev pub first_bound : Option Net → Bound Net
first_bound None = Unbounded
first_bound (Some net) = Included net
