-- Protocols, as their imports see them (`static_spec`, `bgp_spec`): all that a protocol's routes
-- have in common, its limit and its configured routes.
-- Not modelled: what of it a configuration says and what stands by default (conf_check).
-- From: BIRD User's Guide, "Static", "BGP", and "Channel options" for `preference`.
-- Example: preference 200 for a static protocol and 100 for BGP.
use Rattle.std.specs.Prelude.{ℕ, Bool, false, List, [], Option, Some, None}
use Rattle.attrs.specs.declared.attributes.Kind.TheVariants.{Bgp, Static}
use Rattle.attrs.specs.declared.route.Src.{Src}
use Rattle.bits_ip.specs.declared.address.Addr.{Addr}
use Rattle.import_core.specs.declared.import_spec.Fixed.{Fixed}
use Rattle.import_core.specs.declared.import_spec.ImportSpec.{ImportSpec}
use Rattle.import_core.specs.declared.import_spec.Limit.{Limit}

-- static routes have no neighbour
abbrev pub static_spec : Src → ℕ → Option Limit → List Fixed → ImportSpec
static_spec src pref limit routes = record {
  src = src;
  kind = Static;
  sender = None;
  ebgp = false;
  pref = pref;
  limit = limit;
  fixed = routes;
}

-- the neighbour's address, and whether it is external; no configured routes
abbrev pub bgp_spec : Src → Addr → Bool → ℕ → Option Limit → ImportSpec
bgp_spec src sender ebgp pref limit = record {
  src = src;
  kind = Bgp;
  sender = Some sender;
  ebgp = ebgp;
  pref = pref;
  limit = limit;
  fixed = [];
}
