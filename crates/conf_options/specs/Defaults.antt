-- What counts where an option isn't written.
-- From: BIRD User's Guide, "Channel options", "BGP", "Static"; some defaults are own.
-- Example: where nothing is written all is imported and nothing exported, the preference is 200 of
-- static routes and 100 of BGP's, and nothing is limited; `import limit 10;` disables the protocol.
use Rattle.std.specs.Prelude.{ℕ, Bool, true, false, Option, Some, None, unwrap_or, option_map}
use Rattle.bits_ip.specs.declared.address.Addr.{Addr}
use Rattle.bits_ip.specs.declared.address.Addr.TheVariants as addrs
use Rattle.conf_ast.specs.declared.filters.Num.{Num}
use Rattle.conf_ast.specs.declared.configurations.Action.{Action}
use Rattle.conf_ast.specs.declared.configurations.Action.TheVariants as actions
use Rattle.conf_ast.specs.declared.configurations.Limit.{Limit}
use Rattle.conf_ast.specs.declared.configurations.Limit.TheVariants as limits
use Rattle.conf_ast.specs.declared.configurations.Switch.{Switch}
use Rattle.conf_ast.specs.declared.configurations.Switch.TheVariants as switches
use Rattle.conf_ast.specs.Configurations.{Passing, PassAll, PassNone}
use Rattle.conf_options.specs.declared.bgp.BgpOptions.{BgpOptions}
use Rattle.conf_options.specs.declared.bgp.Neighbor.{Neighbor}

-- ---- policies and limits

abbrev pub import_or : Option Passing → Passing
import_or written = unwrap_or written PassAll

abbrev pub export_or : Option Passing → Passing
export_or written = unwrap_or written PassNone

abbrev pub limit_or : Option Limit → Limit
limit_or written = unwrap_or written limits.Off

-- At a limit without an action the protocol is disabled.
abbrev pub action_or : Option Action → Action
action_or written = unwrap_or written actions.Disable

-- ---- numbers

-- the preference of static routes, and that of BGP's
abbrev pub static_preference : ℕ
static_preference = 200

abbrev pub bgp_preference : ℕ
bgp_preference = 100

-- what a route counts as that has no MED, or no local preference
abbrev pub default_med : ℕ
default_med = 0

abbrev pub default_local_pref : ℕ
default_local_pref = 100

-- ---- BGP

abbrev pub is_on : Switch → Bool
is_on switches.On = true
is_on switches.Yes = true
is_on switches.Off = false
is_on switches.No = false

-- Communities are interpreted where the protocol doesn't say otherwise.
abbrev pub interprets : Option Switch → Bool
interprets None = true
interprets (Some s) = is_on s

-- the number of the neighbour's autonomous system
abbrev pub remote : BgpOptions → Option Num
remote o = option_map (λ (n : Neighbor). n.number) o.neighbor

-- The neighbour's address. In what is accepted there is one, so this default counts nowhere.
abbrev pub address_or : Option Neighbor → Addr
address_or None = addrs.V4 0
address_or (Some n) = n.address
