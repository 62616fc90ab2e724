-- What an announcement is for a table (`imported_route`): the attributes of an imported route
-- before any filter, with its local preference (`local_preference`).
-- Not modelled: filters, limits, and what the table does with the route.
-- From: RFC 4271, sections 5.1 and 5.1.5; BIRD User's Guide, "Route attributes" and "BGP".
-- Example: an external neighbour's route has local preference 100, whatever is given.
use Rattle.std.specs.Prelude.{ℕ, Option, Some, unwrap_or, if◌then◌else◌}
use Rattle.attrs.specs.declared.attributes.Attrs.{Attrs}
use Rattle.attrs.specs.declared.attributes.Dest.TheVariants.{Unicast}
use Rattle.attrs.specs.declared.route.Route.{Route}
use Rattle.import_core.specs.declared.import_spec.ImportSpec.{ImportSpec}
use Rattle.import_core.specs.declared.operation.Given.{Given}

-- The local preference of an external neighbour's route is the default, whatever is given
-- (RFC 4271, section 5.1.5).
abbrev pub local_preference : ImportSpec → Option ℕ → ℕ
local_preference spec lp = if spec.ebgp then spec.src.def_lp else unwrap_or lp spec.src.def_lp

-- the attributes that an announcement gives in a session with this router id
abbrev pub imported_attrs : ImportSpec → ℕ → Given → Attrs
imported_attrs spec id given = record {
  pref = spec.pref;
  kind = spec.kind;
  dest = Unicast;
  gw = Some given.gw;
  sender = spec.sender;
  peer_id = id;
  ebgp = spec.ebgp;
  path = given.path;
  origin = Some given.origin;
  next_hop = Some given.gw;
  med = given.med;
  lp = Some (local_preference spec given.lp);
  igp = given.igp;
  coms = given.coms;
}

abbrev pub imported_route : ImportSpec → ℕ → Given → Route
imported_route spec id given = record { src = spec.src; attrs = imported_attrs spec id given }
