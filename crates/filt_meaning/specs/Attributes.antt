-- Reading, assigning and unsetting each attribute of a route (`attribute_of`, `is_defined`,
-- `with_attribute`, `without_attribute`), and the constants of their values.
-- From: BIRD User's Guide, "Filters", "Route attributes"; where the guide is silent, own.
-- Example: `dest = RTD_BLACKHOLE` takes the gateway away, `unset(bgp_path)` leaves an empty path.
use Rattle.std.specs.Prelude.{Bool, true, false, [], Option, Some, None, Result, Ok, Err, get_or}
use Rattle.attrs.specs.declared.attributes.Attrs.{Attrs}
use Rattle.attrs.specs.declared.attributes.Kind.TheVariants as kinds
use Rattle.attrs.specs.declared.attributes.Dest.TheVariants as dests
use Rattle.attrs.specs.declared.attributes.Origin.TheVariants as origins
use Rattle.attrs.specs.declared.judge.FilterFault.TheVariants as faults
use Rattle.conf_ast.specs.declared.attribute.Attribute.{Attribute}
use Rattle.conf_ast.specs.declared.attribute.Attribute.TheVariants as attributes
use Rattle.conf_ast.specs.declared.attribute.Constant.{Constant}
use Rattle.conf_ast.specs.declared.attribute.Constant.TheVariants as constants
use Rattle.filt_meaning.specs.declared.value.Failure.{Failure}
use Rattle.filt_meaning.specs.declared.value.Failure.TheVariants.{Fault, Stuck}
use Rattle.filt_meaning.specs.Operators.{and_then, int_in, ip_in, path_in, clist_in, dest_in, origin_in}
use Rattle.filt_meaning.specs.Values.{Val, VInt, VIp, VPrefix, VString, VPath, VClist, VSource, VDest, VOrigin}
use Rattle.filt_meaning.specs.Names.{Around}

-- ---- reading

-- what may be undefined: then reading it is a fault
abbrev pub defined_as : {A : Type 0} → (A → Val) → Option A → Result Val Failure
defined_as value None = Err (Fault faults.Undefined)
defined_as value (Some a) = Ok (value a)

-- the value of an attribute; a number of which no protocol has a name gives the empty one
abbrev pub attribute_of : Around → Attribute → Attrs → Result Val Failure
attribute_of around attributes.Net attrs = Ok (VPrefix around.net)
attribute_of around attributes.Preference attrs = Ok (VInt attrs.pref)
attribute_of around attributes.Gw attrs = defined_as VIp attrs.gw
attribute_of around attributes.From attrs = defined_as VIp attrs.sender
attribute_of around attributes.BgpNextHop attrs = defined_as VIp attrs.next_hop
attribute_of around attributes.Proto attrs =
    Ok (VString (get_or around.protocols around.number []))
attribute_of around attributes.Source attrs = Ok (VSource attrs.kind)
attribute_of around attributes.Dest attrs = Ok (VDest attrs.dest)
attribute_of around attributes.BgpPath attrs = Ok (VPath attrs.path)
attribute_of around attributes.BgpOrigin attrs = defined_as VOrigin attrs.origin
attribute_of around attributes.BgpMed attrs = defined_as VInt attrs.med
attribute_of around attributes.BgpLocalPref attrs = defined_as VInt attrs.lp
attribute_of around attributes.IgpMetric attrs = defined_as VInt attrs.igp
attribute_of around attributes.BgpCommunity attrs = Ok (VClist attrs.coms)

abbrev pub is_some : {A : Type 0} → Option A → Bool
is_some None = false
is_some (Some a) = true

-- `defined(attribute)`
abbrev pub is_defined : Attribute → Attrs → Bool
is_defined attributes.Net attrs = true
is_defined attributes.Preference attrs = true
is_defined attributes.Gw attrs = is_some attrs.gw
is_defined attributes.From attrs = is_some attrs.sender
is_defined attributes.BgpNextHop attrs = is_some attrs.next_hop
is_defined attributes.Proto attrs = true
is_defined attributes.Source attrs = true
is_defined attributes.Dest attrs = true
is_defined attributes.BgpPath attrs = true
is_defined attributes.BgpOrigin attrs = is_some attrs.origin
is_defined attributes.BgpMed attrs = is_some attrs.med
is_defined attributes.BgpLocalPref attrs = is_some attrs.lp
is_defined attributes.IgpMetric attrs = is_some attrs.igp
is_defined attributes.BgpCommunity attrs = true

-- ---- assigning

-- The attributes where this one is assigned. A destination that is assigned is none that leads
-- on, so the gateway goes; a gateway that is assigned is one that packets are sent to. `net`,
-- `proto` and `source` can't be assigned.
abbrev pub with_attribute : Attribute → Val → Attrs → Result Attrs Failure
with_attribute attributes.Net v attrs = Err Stuck
with_attribute attributes.Preference v attrs =
    and_then (int_in v) (λ n. Ok (record attrs { pref = n }))
with_attribute attributes.Gw v attrs =
    and_then (ip_in v) (λ a. Ok (record attrs { dest = dests.Unicast; gw = Some a }))
with_attribute attributes.From v attrs =
    and_then (ip_in v) (λ a. Ok (record attrs { sender = Some a }))
with_attribute attributes.BgpNextHop v attrs =
    and_then (ip_in v) (λ a. Ok (record attrs { next_hop = Some a }))
with_attribute attributes.Proto v attrs = Err Stuck
with_attribute attributes.Source v attrs = Err Stuck
with_attribute attributes.Dest v attrs =
    and_then (dest_in v) (λ d. Ok (record attrs { dest = d; gw = None }))
with_attribute attributes.BgpPath v attrs =
    and_then (path_in v) (λ p. Ok (record attrs { path = p }))
with_attribute attributes.BgpOrigin v attrs =
    and_then (origin_in v) (λ o. Ok (record attrs { origin = Some o }))
with_attribute attributes.BgpMed v attrs =
    and_then (int_in v) (λ n. Ok (record attrs { med = Some n }))
with_attribute attributes.BgpLocalPref v attrs =
    and_then (int_in v) (λ n. Ok (record attrs { lp = Some n }))
with_attribute attributes.IgpMetric v attrs =
    and_then (int_in v) (λ n. Ok (record attrs { igp = Some n }))
with_attribute attributes.BgpCommunity v attrs =
    and_then (clist_in v) (λ l. Ok (record attrs { coms = l }))

-- `unset(attribute)`. The two lists are always defined, and are emptied; without a gateway `dest`
-- stays. Others that are always there can't be unset, nor can `from`.
abbrev pub without_attribute : Attribute → Attrs → Result Attrs Failure
without_attribute attributes.Net attrs = Err Stuck
without_attribute attributes.Preference attrs = Err Stuck
without_attribute attributes.Gw attrs = Ok (record attrs { gw = None })
without_attribute attributes.From attrs = Err Stuck
without_attribute attributes.BgpNextHop attrs = Ok (record attrs { next_hop = None })
without_attribute attributes.Proto attrs = Err Stuck
without_attribute attributes.Source attrs = Err Stuck
without_attribute attributes.Dest attrs = Err Stuck
without_attribute attributes.BgpPath attrs = Ok (record attrs { path = [] })
without_attribute attributes.BgpOrigin attrs = Ok (record attrs { origin = None })
without_attribute attributes.BgpMed attrs = Ok (record attrs { med = None })
without_attribute attributes.BgpLocalPref attrs = Ok (record attrs { lp = None })
without_attribute attributes.IgpMetric attrs = Ok (record attrs { igp = None })
without_attribute attributes.BgpCommunity attrs = Ok (record attrs { coms = [] })

-- ---- constants of their values

-- `RTD_ROUTER` is a second name of `RTD_UNICAST`
abbrev pub value_of_constant : Constant → Val
value_of_constant constants.RtsStatic = VSource kinds.Static
value_of_constant constants.RtsBgp = VSource kinds.Bgp
value_of_constant constants.RtdUnicast = VDest dests.Unicast
value_of_constant constants.RtdRouter = VDest dests.Unicast
value_of_constant constants.RtdBlackhole = VDest dests.Blackhole
value_of_constant constants.RtdUnreachable = VDest dests.Unreachable
value_of_constant constants.RtdProhibit = VDest dests.Prohibit
value_of_constant constants.OriginIgp = VOrigin origins.Igp
value_of_constant constants.OriginEgp = VOrigin origins.Egp
value_of_constant constants.OriginIncomplete = VOrigin origins.Incomplete
