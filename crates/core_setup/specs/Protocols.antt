-- What tables and protocols say to the machine, its rules (`rules_of`): what an operation of a
-- protocol does behind its earlier ones (`effect_at`), what a channel sends of a route
-- (`value_at`), the best of a net's routes, by which pipes a source's routes come to a table
-- (`ways`), which sources a pipe's direction passes (`sources`), and the starts of static
-- protocols (`starts`).
-- Lists of operations and of changes are read backwards.
-- From: the definitions of imports (specs/Operations of import_core), of exports (specs/Passing of
-- export_core) and of selection; BIRD User's Guide, "Pipe" and "Remote control".
-- Example: the worked run of docs/DEFINITIONS.md.
use Rattle.std.specs.Prelude.{ℕ, zero, suc, ◌+◌, ◌-◌, Bool, true, false, List, [], ◌∷◌, ◌++◌, length, reverse, Option, Some, None, slice_get, if◌then◌else◌}
use Rattle.attrs.specs.declared.attributes.Attrs.{Attrs}
use Rattle.attrs.specs.declared.attributes.Kind.{Kind}
use Rattle.attrs.specs.declared.attributes.Kind.TheVariants.{Static, Bgp}
use Rattle.attrs.specs.declared.route.Route.{Route}
use Rattle.attrs.specs.declared.route.Src.{Src}
use Rattle.export_core.specs.declared.log.Key.{Key}
use Rattle.export_core.specs.Passing.{value_by}
use Rattle.import_core.specs.declared.mode.Mode.{Mode}
use Rattle.import_core.specs.declared.mode.Mode.TheVariants as mode
use Rattle.import_core.specs.declared.operation.Op.{Op}
use Rattle.import_core.specs.declared.operation.Op.TheVariants.{Start, Disable, Enable, ReloadIn, ReloadOut, Reload}
use Rattle.import_core.specs.declared.step.Mark.{Mark}
use Rattle.import_core.specs.declared.step.Mark.TheVariants as mark
use Rattle.import_core.specs.Decisions.{Outcome}
use Rattle.import_core.specs.Imports.{Imports, Routes, nothing_yet}
use Rattle.import_core.specs.Operations.{done}
use Rattle.core_machine.specs.Lines.{Act}
use Rattle.core_machine.specs.Pipes.{passes}
use Rattle.core_machine.specs.Rules.{Effect, Rules, Signal, Stay, Rise, Fall, Renew, signalled}
use Rattle.core_machine.specs.Ways.{levels}
use Rattle.core_setup.specs.Channels.{Channel, channel_at, channels, numbers_of, owner_at, reads_at, target_at}
use Rattle.core_setup.specs.Choice.{best_below}
use Rattle.core_setup.specs.Differences.{differences}
use Rattle.core_setup.specs.Setup.{Body, Exports, IsPipe, IsSource, Protocol, Setup, Source}

-- ---- a protocol with routes of its own

-- what its imports have come to behind its operations
abbrev pub imports_after : Source → List Op → Imports
imports_after p [] = nothing_yet
imports_after p (op ∷ earlier) = (done p.spec p.filter op (imports_after p earlier)).imports

abbrev pub signal_of : Mark → Signal
signal_of mark.Stay = Stay
signal_of mark.Up = Rise
signal_of mark.Down = Fall
signal_of mark.Refresh = Renew

-- what an outcome does, from a state of imports on
abbrev pub effect_of : Source → Imports → Outcome → Effect
effect_of p before outcome = record {
  changes = reverse (differences p.spec.src.num before.accepted outcome.imports.accepted);
  signal = signal_of outcome.mark;
  over = outcome.over;
}

abbrev pub effect_after : Source → List Op → Op → Effect
effect_after p earlier op =
    effect_of p (imports_after p earlier) (done p.spec p.filter op (imports_after p earlier))

-- ---- a pipe: it is up or down, and up at first

-- What an operation tells both directions, where the pipe is up and where it is down. Any other
-- does nothing.
abbrev pub pipe_signal : Bool → Op → Signal
pipe_signal true Disable = Fall
pipe_signal false Enable = Rise
pipe_signal true ReloadIn = Renew
pipe_signal true ReloadOut = Renew
pipe_signal true Reload = Renew
pipe_signal up op = Stay

abbrev pub pipe_is_up : List Op → Bool
pipe_is_up [] = true
pipe_is_up (op ∷ earlier) = signalled (pipe_signal (pipe_is_up earlier) op) (pipe_is_up earlier)

-- a pipe is up or switched off by hand
abbrev pub pipe_mode : Bool → Mode
pipe_mode true = mode.Up
pipe_mode false = mode.Disabled

-- ---- by kind of protocol

-- this signal, and no change
abbrev pub only_tells : Signal → Effect
only_tells signal = record { changes = []; signal = signal; over = false }

abbrev pub effect_in : Body → List Op → Op → Effect
effect_in (IsSource p) earlier op = effect_after p earlier op
effect_in (IsPipe p) earlier op = only_tells (pipe_signal (pipe_is_up earlier) op)

abbrev pub mode_in : Body → List Op → Mode
mode_in (IsSource p) ops = (imports_after p ops).mode
mode_in (IsPipe p) ops = pipe_mode (pipe_is_up ops)

-- a pipe accepts nothing itself
abbrev pub accepted_in : Body → List Op → Routes
accepted_in (IsSource p) ops = (imports_after p ops).accepted
accepted_in (IsPipe p) ops = []

abbrev pub is_pipe : Body → Bool
is_pipe (IsSource p) = false
is_pipe (IsPipe p) = true

-- a pipe imports to no table
abbrev pub table_in : (none : ℕ) → Body → ℕ
table_in none (IsSource p) = p.table
table_in none (IsPipe p) = none

-- what its routes tell of their protocol
abbrev pub src_in : ℕ → Body → Src
src_in number (IsSource p) = p.spec.src
src_in number (IsPipe p) = record { num = number; def_med = 0; def_lp = 0 }

-- ---- by number: there is nothing of a protocol that isn't there

abbrev pub protocol_at : Setup → ℕ → Option Protocol
protocol_at setup i = slice_get setup.protocols i

abbrev pub effect_at : Option Protocol → List Op → Op → Effect
effect_at None earlier op = only_tells Stay
effect_at (Some p) earlier op = effect_in p.body earlier op

abbrev pub mode_at : Option Protocol → List Op → Mode
mode_at None ops = mode.Idle
mode_at (Some p) ops = mode_in p.body ops

abbrev pub accepted_at : Option Protocol → List Op → Routes
accepted_at None ops = []
accepted_at (Some p) ops = accepted_in p.body ops

-- the directions of a pipe are up before all operations
abbrev pub first_at : Option Protocol → Bool
first_at None = false
first_at (Some p) = is_pipe p.body

abbrev pub table_at : (none : ℕ) → Option Protocol → ℕ
table_at none None = none
table_at none (Some p) = table_in none p.body

abbrev pub src_at : ℕ → Option Protocol → Src
src_at number None = record { num = number; def_med = 0; def_lp = 0 }
src_at number (Some p) = src_in number p.body

-- the attributes with which a channel sends a route, and none where it keeps it back
abbrev pub value_at : Option Channel → Key → Route → Option Attrs
value_at None key route = None
value_at (Some channel) key route = value_by channel.exports.spec channel.exports.filter key route

-- ---- the rules

-- all but the ways
abbrev pub rules_with : (hops : ℕ → ℕ → Option (List ℕ)) → Setup → Rules
rules_with hops setup = record {
  protocols = length setup.protocols;
  channels = length (channels setup);
  tables = length setup.tables;
  cells = setup.cells;
  gives = λ i earlier op. effect_at (protocol_at setup i) earlier op;
  mode = λ i ops. mode_at (protocol_at setup i) ops;
  accepted = λ i ops. accepted_at (protocol_at setup i) ops;
  first = λ i. first_at (protocol_at setup i);
  table = λ i. table_at (length setup.tables) (protocol_at setup i);
  belong = λ i. numbers_of i 0 (channels setup);
  route = λ i attrs. record { src = src_at i (protocol_at setup i); attrs = attrs };
  owner = λ c. owner_at (length setup.protocols) (channel_at setup c);
  reads = λ c. reads_at (length setup.tables) (channel_at setup c);
  target = λ c. target_at (channel_at setup c);
  value = λ c key route. value_at (channel_at setup c) key route;
  choose = λ routes. best_below (length setup.protocols) routes;
  hops = hops;
}

-- the directions of pipes by which a source's routes come to a table, by the channels' tables alone
abbrev pub ways : Setup → ℕ → ℕ → Option (List ℕ)
ways setup table i =
    levels (rules_with (λ table i. None) setup) i (length setup.tables - 1) table

abbrev pub rules_of : Setup → Rules
rules_of setup = rules_with (ways setup) setup

-- ---- what a channel's exporter goes by

-- the protocols below a number that a direction passes, in their order
abbrev pub passed_below : Rules → ℕ → ℕ → List ℕ
passed_below rules d zero = []
passed_below rules d (suc i) =
    passed_below rules d i ++ (if passes rules d i then i ∷ [] else [])

-- the protocols whose routes a pipe's direction passes; none where it is a channel to a neighbour
abbrev pub sources : Setup → ℕ → List ℕ
sources setup d = passed_below (rules_of setup) d (length setup.protocols)

-- a gate and a filter, where a direction that writes a table passes these sources
abbrev pub exports_to : Option ℕ → List ℕ → Exports → Exports
exports_to None passed exports = exports
exports_to (Some table) passed exports =
    record exports { spec = record exports.spec { sources = passed } }

-- the gate and the filter of a channel of this number
abbrev pub exports_of : Setup → ℕ → Channel → Exports
exports_of setup c channel = exports_to channel.target (sources setup c) channel.exports

-- ---- how playing begins: each static protocol starts, in their order; no actor asks for it

abbrev pub with_start : ℕ → Kind → List Act → List Act
with_start number Static earlier =
    record { actor = 0; line = 0; protocol = number; op = Start } ∷ earlier
with_start number Bgp earlier = earlier

abbrev pub with_begin : ℕ → Body → List Act → List Act
with_begin number (IsSource p) earlier = with_start number p.spec.kind earlier
with_begin number (IsPipe p) earlier = earlier

-- the starts of protocols from a number on, behind earlier ones
abbrev pub starts_from : ℕ → List Protocol → List Act → List Act
starts_from number [] earlier = earlier
starts_from number (p ∷ more) earlier =
    starts_from (number + 1) more (with_begin number p.body earlier)

abbrev pub starts : Setup → List Act
starts setup = starts_from 0 setup.protocols []
