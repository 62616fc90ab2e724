-- What a channel makes of a route: the gate of its protocol (`is_kept`), which a pipe hasn't, then
-- its filter (`value_by`, `passed`).
-- Not modelled: what is changed for a neighbour on the way out (the path's own AS number, the next
-- hop).
-- From: BIRD User's Guide, "BGP"; RFC 4271, section 9.2; RFC 1997.
-- Example: a route of the neighbour itself is kept back; one with NO_EXPORT is kept from an
-- external neighbour.
use Rattle.std.specs.Prelude.{◌==◌, ℕ, Bool, true, false, not, ◌&&◌, ◌||◌, if◌then◌else◌, Option, Some, None, option_and_then}
use Rattle.bits_ip.specs.Prefix.{Net}
use Rattle.export_core.specs.declared.log.Key.{Key}
use Rattle.attrs.specs.Clist.{has_pair}
use Rattle.attrs.specs.declared.attributes.Attrs.{Attrs}
use Rattle.attrs.specs.declared.attributes.Kind.{Kind}
use Rattle.attrs.specs.declared.attributes.Kind.TheVariants.{Static, Bgp}
use Rattle.attrs.specs.declared.judge.Verdict.{Verdict}
use Rattle.attrs.specs.declared.judge.Verdict.TheVariants.{Accept, Reject}
use Rattle.attrs.specs.declared.route.Route.{Route}
use Rattle.export_core.specs.declared.passing.ExportSpec.{ExportSpec}

abbrev pub is_bgp : Kind → Bool
is_bgp Static = false
is_bgp Bgp = true

-- learned from a neighbour in the own autonomous system
abbrev pub is_internal : Attrs → Bool
is_internal attrs = is_bgp attrs.kind && not attrs.ebgp

-- a community that is known everywhere (RFC 1997), by its second part
abbrev pub has_known : Attrs → ℕ → Bool
has_known attrs community = has_pair attrs.coms (65535, community)

-- NO_ADVERTISE: to nobody
abbrev pub is_for_nobody : Attrs → Bool
is_for_nobody attrs = has_known attrs 65282

-- NO_EXPORT and NO_EXPORT_SUBCONFED: to nobody outside
abbrev pub is_for_inside : Attrs → Bool
is_for_inside attrs = has_known attrs 65281 || has_known attrs 65283

-- the gate keeps the route from the channel
abbrev pub is_kept : ExportSpec → Route → Bool
is_kept spec r =
    (r.src.num == spec.own)
    || (is_internal r.attrs && not spec.to_ebgp)
    || (spec.interpret && (is_for_nobody r.attrs || (spec.to_ebgp && is_for_inside r.attrs)))

abbrev pub accepted : Verdict → Option Attrs
accepted (Accept attrs) = Some attrs
accepted (Reject fault) = None

-- the attributes with which a route is sent for a key, and none where it isn't: the gate keeps it,
-- or the filter rejects it; a pipe's direction has no such gate
abbrev pub value_by : ExportSpec → (Net → Route → Verdict) → Key → Route → Option Attrs
value_by spec verdict k r =
    if not spec.every && is_kept spec r then None else accepted (verdict k.net r)

-- the same of a key's candidate, where there is one
abbrev pub passed : (Key → Route → Option Attrs) → Key → Option Route → Option Attrs
passed value k best = option_and_then (value k) best
