-- Worked examples, computed: what a channel's log is after a few changes, takes, pushes and refreshes, and
-- what pipes do.
use Rattle.std.proofs.Common.{◌≡◌, ℕ, zero, suc, true, false, List, [], ◌∷◌, Option, Some, None, refl}
use Rattle.std.specs.Prelude.{◌==◌, if◌then◌else◌}
use Rattle.bits_ip.specs.declared.address.Addr.TheVariants.{V4}
use Rattle.bits_ip.specs.Prefix.{Net}
use Rattle.attrs.specs.declared.attributes.Attrs.{Attrs}
use Rattle.attrs.specs.declared.attributes.Dest.TheVariants.{Unicast}
use Rattle.attrs.specs.declared.attributes.Kind.TheVariants.{Bgp}
use Rattle.attrs.specs.declared.attributes.Origin.TheVariants.{Igp}
use Rattle.attrs.specs.declared.route.Change.{Change}
use Rattle.attrs.specs.declared.route.Route.{Route}
use Rattle.attrs.specs.History.{or_else}
use Rattle.import_core.specs.declared.mode.Mode.TheVariants as modes
use Rattle.export_core.specs.declared.log.LogItem.{LogItem}
use Rattle.export_core.specs.declared.log.LogItem.TheVariants.{Up, Down, Reload, Sent}
use Rattle.export_core.specs.Keys.{key_of}
use Rattle.core_machine.specs.Channels.{Channel, closed, fed, new_channel, opened, push_one, renewed, take_one, times}
use Rattle.core_machine.specs.Enters.{enters, standing_keys}
use Rattle.core_machine.specs.Machine.{State, appended, left_by, push_at, start, with_channel}
use Rattle.core_machine.specs.Rounds.{round, turned}
use Rattle.core_machine.specs.Rules.{Rules, Stay}
use Rattle.core_machine.specs.Ways.{levels}

-- the net 203.0.113.0/24
abbrev net : Net
net = record { addr = V4 3405803776; len = 24 }

-- two neighbours, with the numbers 0 and 1, whose routes have these paths and this MED
abbrev attributes : ℕ → List ℕ → Option ℕ → Attrs
attributes num path med = record {
  pref = 100;
  kind = Bgp;
  dest = Unicast;
  gw = Some (V4 num);
  sender = Some (V4 num);
  peer_id = num;
  ebgp = true;
  path = path;
  origin = Some Igp;
  next_hop = Some (V4 num);
  med = med;
  lp = Some 100;
  igp = None;
  coms = [];
}

abbrev route : ℕ → Attrs → Route
route num attrs = record { src = record { num = num; def_med = 0; def_lp = 100 }; attrs = attrs }

abbrev add : ℕ → List ℕ → Option ℕ → Change
add num path med = record { net = net; num = num; new = Some (route num (attributes num path med)) }

abbrev del : ℕ → Change
del num = record { net = net; num = num; new = None }

-- The preferred neighbour's route is the best where it has one. To a neighbour its own routes aren't sent.
abbrev rules_with : ℕ → ℕ → Rules
rules_with preferred cells = record {
  protocols = 2;
  channels = 2;
  tables = 1;
  cells = cells;
  gives = λ i ops op. record { changes = []; signal = Stay; over = false };
  mode = λ i ops. modes.Up;
  accepted = λ i ops. [];
  first = λ i. false;
  table = λ i. 0;
  belong = λ i. i ∷ [];
  route = route;
  owner = λ c. c;
  reads = λ c. 0;
  target = λ c. None;
  value = λ c k r. if r.src.num == c then None else Some r.attrs;
  choose = λ routes. if preferred == 0 then or_else (routes 0) (routes 1) else or_else (routes 1) (routes 0);
  hops = λ t i. if t == 0 then Some [] else None;
}

-- a channel that came up while the table was empty
abbrev up : Channel
up = fed [] false 0 (opened 0 new_channel)

abbrev sent : ℕ → Option Attrs → LogItem
sent at value = Sent (record { at = at; key = key_of net; value = value; again = false })

abbrev again : ℕ → Option Attrs → LogItem
again at value = Sent (record { at = at; key = key_of net; value = value; again = true })

-- ---- a refresh

abbrev first : List Change
first = add 0 (65001 ∷ []) None ∷ []

abbrev refreshed : Channel
refreshed = fed (key_of net ∷ []) true 1 (renewed (push_one (rules_with 0 4) 1 first (take_one (rules_with 0 4) 1 first up)))

-- a refresh sends again what stands
pub refresh_sends_again : (push_one (rules_with 0 4) 1 first refreshed).log
    ≡ again 1 (Some (attributes 0 (65001 ∷ []) None)) ∷ Reload ∷ sent 1 (Some (attributes 0 (65001 ∷ []) None)) ∷ Up 0 ∷ []
refresh_sends_again = refl

abbrev both : List Change
both = add 1 (65002 ∷ 65020 ∷ []) None ∷ first

-- and what is due stays due where it is marked anew
pub due_stays_due : (push_one (rules_with 0 4) 1 both (take_one (rules_with 0 4) 1 both refreshed)).log
    ≡ again 2 (Some (attributes 0 (65001 ∷ []) None)) ∷ Reload ∷ sent 1 (Some (attributes 0 (65001 ∷ []) None)) ∷ Up 0 ∷ []
due_stays_due = refl

-- ---- three changes of one net

abbrev thrice : List Change
thrice = add 0 (65001 ∷ []) (Some 3) ∷ add 0 (65001 ∷ []) (Some 2) ∷ add 0 (65001 ∷ []) (Some 1) ∷ []

-- taken before a push, they are sent as one
pub three_are_sent_as_one : (push_one (rules_with 0 4) 1 thrice (times 3 (take_one (rules_with 0 4) 1 thrice) up)).log ≡ sent 3 (Some (attributes 0 (65001 ∷ []) (Some 3))) ∷ Up 0 ∷ []
three_are_sent_as_one = refl

-- a push sends what stood at the mark's position, though the table is further; the sync sends the last
abbrev pushed_once : State
pushed_once = record { history = λ t. thrice; ops = λ i. []; channels = λ c. push_one (rules_with 0 4) 1 thrice (take_one (rules_with 0 4) 1 thrice up); replies = [] }

pub sent_as_it_stood : ((turned (rules_with 0 4) 1 pushed_once).channels 1).log
    ≡ sent 3 (Some (attributes 0 (65001 ∷ []) (Some 3))) ∷ sent 1 (Some (attributes 0 (65001 ∷ []) (Some 1))) ∷ Up 0 ∷ []
sent_as_it_stood = refl

-- with a journal of one change each channel takes one before the next change comes
abbrev begun : State
begun = record { history = λ t. []; ops = λ i. []; channels = λ c. up; replies = [] }

pub room_is_made : ((turned (rules_with 0 1) 1 (push_at (rules_with 0 1) 1 (appended (rules_with 0 1) 0 thrice begun))).channels 1).log
    ≡ sent 3 (Some (attributes 0 (65001 ∷ []) (Some 3))) ∷ sent 2 (Some (attributes 0 (65001 ∷ []) (Some 2))) ∷ Up 0 ∷ []
room_is_made = refl

-- ---- the best route moves to the neighbour itself, and back

abbrev one : List Change
one = add 0 (65001 ∷ 65020 ∷ []) None ∷ []

abbrev two : List Change
two = add 1 (65002 ∷ []) None ∷ one

abbrev three : List Change
three = del 1 ∷ two

abbrev next : List Change → Channel → Channel
next history ch = push_one (rules_with 1 4) 1 history (take_one (rules_with 1 4) 1 history ch)

pub own_route_is_a_withdrawal : (next three (next two (next one up))).log
    ≡ sent 3 (Some (attributes 0 (65001 ∷ 65020 ∷ []) None)) ∷ sent 2 None ∷ sent 1 (Some (attributes 0 (65001 ∷ 65020 ∷ []) None)) ∷ Up 0 ∷ []
own_route_is_a_withdrawal = refl

-- ---- two pipes in a row, each journal of one change: a source in the first table, and one in the third

abbrev path_of : ℕ → ℕ → Option (List ℕ)
path_of zero zero = Some []
path_of (suc zero) zero = Some (0 ∷ [])
path_of (suc (suc t)) zero = Some (2 ∷ 0 ∷ [])
path_of zero (suc i) = Some (1 ∷ 3 ∷ [])
path_of (suc zero) (suc i) = Some (3 ∷ [])
path_of (suc (suc t)) (suc i) = Some []

-- the directions go from table 0 to 1 and back, and from 1 to 2 and back
abbrev piped : Rules
piped = record {
  protocols = 4;
  channels = 4;
  tables = 3;
  cells = 1;
  gives = λ i ops op. record { changes = []; signal = Stay; over = false };
  mode = λ i ops. modes.Up;
  accepted = λ i ops. [];
  first = λ i. true;
  table = λ i. if i == 0 then 0 else 2;
  belong = λ i. [];
  route = route;
  owner = λ c. if c == 0 then 2 else (if c == 1 then 2 else 3);
  reads = λ c. if c == 0 then 0 else (if c == 3 then 2 else 1);
  target = λ c. if c == 0 then Some 1 else (if c == 1 then Some 0 else (if c == 2 then Some 2 else Some 1));
  value = λ c k r. Some r.attrs;
  choose = λ routes. routes 0;
  hops = path_of;
}

pub ways_are_found : (levels piped 0 2 2 ≡ path_of 2 0) × (levels piped 1 2 0 ≡ path_of 0 1) × (levels piped 1 2 1 ≡ path_of 1 1)
ways_are_found = (refl, refl, refl)

-- the net 198.51.100.0/24
abbrev other_net : Net
other_net = record { addr = V4 3325256704; len = 24 }

abbrev here : Change
here = add 0 (65001 ∷ []) None

abbrev there : Change
there = record { net = other_net; num = 1; new = Some (route 1 (attributes 1 (65002 ∷ []) None)) }

abbrev filled : State
filled = appended piped 2 (there ∷ []) (appended piped 0 (here ∷ []) (start piped))

abbrev synced : State
synced = times 3 (round piped) filled

-- both routes come to each table, in three rounds
pub tables_are_joined : (synced.history 0 ≡ there ∷ here ∷ []) × (synced.history 1 ≡ there ∷ here ∷ []) × (synced.history 2 ≡ here ∷ there ∷ [])
tables_are_joined = (refl, refl, refl)

pub two_rounds_are_not_enough : ((times 2 (round piped) filled).channels 0).position ≡ 1
two_rounds_are_not_enough = refl

-- of one source each direction sends one route, and none goes back
abbrev sent_of : ℕ → Net → ℕ → Attrs → List LogItem
sent_of at n num attrs = Sent (record { at = at; key = record { net = n; num = num }; value = Some attrs; again = false }) ∷ Up 0 ∷ []

pub none_goes_back :
    ((synced.channels 0).log ≡ sent_of 1 net 0 (attributes 0 (65001 ∷ []) None))
    × ((synced.channels 1).log ≡ sent_of 2 other_net 1 (attributes 1 (65002 ∷ []) None))
    × ((synced.channels 2).log ≡ sent_of 1 net 0 (attributes 0 (65001 ∷ []) None))
    × ((synced.channels 3).log ≡ sent_of 1 other_net 1 (attributes 1 (65002 ∷ []) None))
none_goes_back = (refl, refl, refl, refl)

-- a direction that goes down withdraws what it brought
abbrev disabled : State
disabled = let u = left_by piped (piped.target 0) (standing_keys (synced.channels 0).log) synced in with_channel 0 (closed (u.channels 0)) u

pub what_it_brought_is_withdrawn : (disabled.history 1 ≡ del 0 ∷ there ∷ here ∷ []) × ((disabled.channels 0).log ≡ Down ∷ sent_of 1 net 0 (attributes 0 (65001 ∷ []) None))
what_it_brought_is_withdrawn = (refl, refl)

-- and its log says so
pub as_its_log_says : enters piped (disabled.channels 0).log ≡ del 0 ∷ here ∷ []
as_its_log_says = refl
