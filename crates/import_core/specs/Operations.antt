-- What each operation does, by the mode in which it comes (`done_in`, a line for each pair that
-- does something), and what a list of them leaves (`after_operations`).
-- Not modelled: the tables that the changes go to.
-- From: BIRD User's Guide, "Remote control" (`disable`, `enable`, `reload`); RFC 4271, sections 3.2
-- and 9, for what a neighbour tells.
-- Example: `add` and `del` before the session opens change nothing, nor does a second `open`.
use Rattle.std.specs.Prelude.{ℕ, false, List, [], ◌∷◌, None, fold, if◌then◌else◌}
use Rattle.bits_ip.specs.Prefix.{Net}
use Rattle.attrs.specs.declared.attributes.Attrs.{Attrs}
use Rattle.attrs.specs.declared.attributes.Kind.{Kind}
use Rattle.attrs.specs.declared.attributes.Kind.TheVariants.{Bgp, Static}
use Rattle.attrs.specs.declared.route.Route.{Route}
use Rattle.import_core.specs.declared.import_spec.Fixed.{Fixed}
use Rattle.import_core.specs.declared.import_spec.ImportSpec.{ImportSpec}
use Rattle.import_core.specs.declared.mode.Mode.{Mode}
use Rattle.import_core.specs.declared.mode.Mode.TheVariants as mode
use Rattle.import_core.specs.declared.operation.Given.{Given}
use Rattle.import_core.specs.declared.operation.Op.{Op}
use Rattle.import_core.specs.declared.operation.Op.TheVariants.{Start, SessionUp, Add, Del, SessionDown, Disable, Enable, ReloadIn, ReloadOut, Reload}
use Rattle.import_core.specs.declared.step.Mark.{Mark}
use Rattle.import_core.specs.declared.step.Mark.TheVariants as mark
use Rattle.import_core.specs.Import.{imported_route}
use Rattle.import_core.specs.Imports.{Routes, Imports, nothing_yet, with_route, without, is_up}
use Rattle.import_core.specs.Decisions.{Filter, Outcome, only, decided, mark_of, rebuilt, switched_off}

-- a configured route: its kind, what is done with packets and perhaps a gateway, and nothing else
abbrev pub fixed_attrs : ImportSpec → Fixed → Attrs
fixed_attrs spec f = record {
  pref = spec.pref;
  kind = Static;
  dest = f.dest;
  gw = f.gw;
  sender = None;
  peer_id = 0;
  ebgp = false;
  path = [];
  origin = None;
  next_hop = None;
  med = None;
  lp = None;
  igp = None;
  coms = [];
}

abbrev pub fixed_route : ImportSpec → Fixed → Route
fixed_route spec f = record { src = spec.src; attrs = fixed_attrs spec f }

-- the configured routes (a net that stood twice would have its last)
abbrev pub configured : ImportSpec → Routes
configured spec = fold (λ routes f. with_route f.net (fixed_route spec f) routes) [] spec.fixed

-- up with these received routes, and a rebuild
abbrev pub up_with : ImportSpec → Filter → Routes → Imports → Outcome
up_with spec verdict received i =
    rebuilt spec verdict (record i { mode = mode.Up; received = received })

abbrev pub started : ImportSpec → Filter → Kind → Imports → Outcome
started spec verdict Static i = up_with spec verdict (configured spec) i
started spec verdict Bgp i = only i

abbrev pub opened : Kind → ℕ → Imports → Outcome
opened Static id i = only i
opened Bgp id i =
    record { imports = record i { mode = mode.Up; id = id }; over = false; mark = mark.Up }

-- the route of the net is received, and the net decided
abbrev pub added : ImportSpec → Filter → Net → Given → Imports → Outcome
added spec verdict net given i =
    let route = imported_route spec i.id given in
    decided spec verdict net route (record i { received = with_route net route i.received })

abbrev pub deleted : Net → Imports → Outcome
deleted net i =
    only (record i { received = without net i.received; accepted = without net i.accepted })

abbrev pub closed : ImportSpec → Imports → Outcome
closed spec i = record {
  imports = record { mode = mode.Idle; id = i.id; received = []; accepted = [] };
  over = false;
  mark = mark_of spec.kind mark.Down;
}

abbrev pub disabled : ImportSpec → Mark → Imports → Outcome
disabled spec m i = record {
  imports = switched_off spec mode.Disabled i;
  over = false;
  mark = mark_of spec.kind m;
}

abbrev pub enabled : ImportSpec → Filter → Kind → Imports → Outcome
enabled spec verdict Static i = up_with spec verdict i.received i
enabled spec verdict Bgp i = only (record i { mode = mode.Idle })

abbrev pub refreshed : ImportSpec → Imports → Outcome
refreshed spec i = record { imports = i; over = false; mark = mark_of spec.kind mark.Refresh }

-- exports are sent anew behind a rebuild, where it left the protocol up
abbrev pub also_refreshed : ImportSpec → Outcome → Outcome
also_refreshed spec o =
    if is_up o.imports.mode
    then record o { mark = (refreshed spec o.imports).mark }
    else o

-- What an operation does in a mode. Where the table has no line it changes nothing.
abbrev pub done_in : ImportSpec → Filter → Op → Mode → Imports → Outcome
done_in spec verdict Start mode.Idle i = started spec verdict spec.kind i
done_in spec verdict (SessionUp id) mode.Idle i = opened spec.kind id i
done_in spec verdict (Add net given) mode.Up i = added spec verdict net given i
done_in spec verdict (Del net) mode.Up i = deleted net i
done_in spec verdict SessionDown mode.Up i = closed spec i
done_in spec verdict Disable mode.Idle i = disabled spec mark.Stay i
done_in spec verdict Disable mode.Up i = disabled spec mark.Down i
done_in spec verdict Disable mode.Limited i = disabled spec mark.Stay i
done_in spec verdict Enable mode.Disabled i = enabled spec verdict spec.kind i
done_in spec verdict Enable mode.Limited i = enabled spec verdict spec.kind i
done_in spec verdict ReloadIn mode.Up i = rebuilt spec verdict i
done_in spec verdict ReloadOut mode.Up i = refreshed spec i
done_in spec verdict Reload mode.Up i = also_refreshed spec (rebuilt spec verdict i)
done_in spec verdict op m i = only i

abbrev pub done : ImportSpec → Filter → Op → Imports → Outcome
done spec verdict op i = done_in spec verdict op i.mode i

-- a protocol of BGP begins idle; a static one does `start`
abbrev pub beginning_of : ImportSpec → Filter → Kind → Imports
beginning_of spec verdict Static = (done spec verdict Start nothing_yet).imports
beginning_of spec verdict Bgp = nothing_yet

abbrev pub beginning : ImportSpec → Filter → Imports
beginning spec verdict = beginning_of spec verdict spec.kind

-- what operations, one after another, leave of a state
abbrev pub after_from : ImportSpec → Filter → Imports → List Op → Imports
after_from spec verdict i [] = i
after_from spec verdict i (op ∷ ops) = after_from spec verdict (done spec verdict op i).imports ops

abbrev pub after_operations : ImportSpec → Filter → List Op → Imports
after_operations spec verdict ops = after_from spec verdict (beginning spec verdict) ops
