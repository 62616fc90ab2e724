-- Which received routes are accepted: those that the filter lets pass, within the limit (`decided`,
-- `is_over`, `rebuilt`). A filter is its verdicts, a function of net and route.
-- Not modelled: the language of filters.
-- From: BIRD User's Guide, "Channel options", `import` and `import limit`.
-- Example: with a limit of two and `block` the third net is refused, and accepted in a rebuild once
-- the first is withdrawn.
use Rattle.std.specs.Prelude.{Bool, true, false, not, ◌&&◌, ◌||◌, nat_le, [], Option, Some, None, option_and_then, length, fold, if◌then◌else◌}
use Rattle.bits_ip.specs.Prefix.{Net}
use Rattle.attrs.specs.declared.attributes.Kind.{Kind}
use Rattle.attrs.specs.declared.attributes.Kind.TheVariants as kind
use Rattle.attrs.specs.declared.judge.Verdict.{Verdict}
use Rattle.attrs.specs.declared.judge.Verdict.TheVariants.{Accept, Reject}
use Rattle.attrs.specs.declared.route.Route.{Route}
use Rattle.import_core.specs.declared.import_spec.Action.{Action}
use Rattle.import_core.specs.declared.import_spec.Action.TheVariants.{Warn, Block, Disable}
use Rattle.import_core.specs.declared.import_spec.ImportSpec.{ImportSpec}
use Rattle.import_core.specs.declared.import_spec.Limit.{Limit}
use Rattle.import_core.specs.declared.mode.Mode.{Mode}
use Rattle.import_core.specs.declared.mode.Mode.TheVariants as mode
use Rattle.import_core.specs.declared.step.Mark.{Mark}
use Rattle.import_core.specs.declared.step.Mark.TheVariants as mark
use Rattle.import_core.specs.Imports.{Routes, Imports, route_at, has_net, with_route, without, is_up}

abbrev pub Filter : Type 0
Filter = Net → Route → Verdict

abbrev pub left_by : Verdict → Route → Option Route
left_by (Accept attrs) route = Some (record { src = route.src; attrs = attrs })
left_by (Reject fault) route = None

-- what the filter leaves of a route: nothing where it rejects it, by its word or by a fault
abbrev pub left_of : Filter → Net → Route → Option Route
left_of verdict net route = left_by (verdict net route) route

-- the same of what was received of a net
abbrev pub left_at : Filter → Net → Routes → Option Route
left_at verdict net received = option_and_then (left_of verdict net) (route_at net received)

-- What an operation comes to, but for the changes: they are the difference between the states.
pub record Outcome : Type 0 where
  pub imports : Imports
  -- whether a route was over the limit
  pub over : Bool
  pub mark : Mark

abbrev pub only : Imports → Outcome
only i = record { imports = i; over = false; mark = mark.Stay }

-- a static protocol has no exports
abbrev pub mark_of : Kind → Mark → Mark
mark_of kind.Static m = mark.Stay
mark_of kind.Bgp m = m

-- a static protocol keeps what it received, the configured routes, while it is switched off
abbrev pub left_received : Kind → Routes → Routes
left_received kind.Static received = received
left_received kind.Bgp received = []

-- switched off, by hand or at the limit
abbrev pub switched_off : ImportSpec → Mode → Imports → Imports
switched_off spec m i = record {
  mode = m;
  id = i.id;
  received = left_received spec.kind i.received;
  accepted = [];
}

-- The net is not accepted, and as many nets as the limit says are.
abbrev pub is_over : Option Limit → Net → Routes → Bool
is_over None net accepted = false
is_over (Some limit) net accepted =
    not (has_net net accepted) && nat_le limit.count (length accepted)

abbrev pub accepting : Net → Route → Imports → Imports
accepting net route i = record i { accepted = with_route net route i.accepted }

abbrev pub rejecting : Net → Imports → Imports
rejecting net i = record i { accepted = without net i.accepted }

-- what is done with a route over the limit
abbrev pub beyond : ImportSpec → Action → Net → Route → Imports → Outcome
beyond spec Warn net route i =
    record { imports = accepting net route i; over = true; mark = mark.Stay }
beyond spec Block net route i =
    record { imports = rejecting net i; over = true; mark = mark.Stay }
beyond spec Disable net route i = record {
  imports = switched_off spec mode.Limited i;
  over = true;
  mark = mark_of spec.kind mark.Down;
}

abbrev pub at_limit : ImportSpec → Option Limit → Net → Route → Imports → Outcome
at_limit spec None net route i = only (accepting net route i)
at_limit spec (Some limit) net route i =
    if is_over (Some limit) net i.accepted
    then beyond spec limit.action net route i
    else only (accepting net route i)

-- What the filter leaves of the net's route is accepted, within the limit.
abbrev pub taken : ImportSpec → Net → Option Route → Imports → Outcome
taken spec net None i = only (rejecting net i)
taken spec net (Some route) i = at_limit spec spec.limit net route i

-- to decide a net of which this route was received
abbrev pub decided : ImportSpec → Filter → Net → Route → Imports → Outcome
decided spec verdict net route i = taken spec net (left_of verdict net route) i

-- one more net is decided, unless the protocol was switched off at the limit
abbrev pub decided_next : ImportSpec → Filter → Outcome → Net × Route → Outcome
decided_next spec verdict o e =
    let next = decided spec verdict e.0 e.1 o.imports in
    if is_up o.imports.mode
    then record { imports = next.imports; over = o.over || next.over; mark = next.mark }
    else o

-- A rebuild: nothing is accepted, and then the received nets are decided in their order.
abbrev pub rebuilt : ImportSpec → Filter → Imports → Outcome
rebuilt spec verdict i =
    fold (decided_next spec verdict) (only (record i { accepted = [] })) i.received
