-- What a configuration says, as far as the machine and the legality of a report want it (`Rules`):
-- functions of the numbers of protocols, channels and tables, and what they owe (`IsRules`): what
-- imports give operation by operation (the changes and the signal, and whether a route was over the
-- limit), the best route of a net, the values that a channel sends, and which directions of pipes a
-- source's routes go (`AreWays`). What a protocol has come to is a function of its operations, so
-- nothing else of it is kept. Lists of operations and of changes are read backwards, the newest
-- first.
-- Not modelled: how a configuration says it.
-- From: BIRD User's Guide, "Remote control", "Protocol options", "BGP" and "Pipe"; RFC 4271,
-- section 9.
-- Example: a protocol that comes up and imports a route, and a pipe that takes it to another table.
use Rattle.std.specs.Prelude.{◌≡◌, ◌≢◌, ◌≤◌, ◌<◌, ℕ, Bool, true, false, List, [], ◌∷◌, ◌++◌, length, Option, Some, None, ⊤}
use Rattle.bits_ip.specs.Prefix.{Net}
use Rattle.attrs.specs.declared.attributes.Attrs.{Attrs}
use Rattle.attrs.specs.declared.route.Change.{Change}
use Rattle.attrs.specs.declared.route.Route.{Route}
use Rattle.attrs.specs.History.{Content}
use Rattle.attrs.specs.Selection.{IsBest}
use Rattle.import_core.specs.declared.mode.Mode.{Mode}
use Rattle.import_core.specs.declared.operation.Op.{Op}
use Rattle.import_core.specs.Imports.{Routes, AreInOrder, route_at}
use Rattle.export_core.specs.declared.log.Key.{Key}
use Rattle.export_core.specs.Candidates.{among}
use Rattle.export_core.specs.Histories.{AreRoutesOf}
use Rattle.core_machine.specs.Histories.{AreFrom, AreReal, content_of}

-- what an operation tells its protocol's channels
pub data Signal : Type 0 where
  -- nothing
  Stay : Signal
  -- come up, and send all
  Rise : Signal
  -- go down
  Fall : Signal
  -- send all anew
  Renew : Signal

-- what an operation does to the table that its protocol imports to, and to the protocol's channels
pub record Effect : Type 0 where
  pub changes : List Change
  pub signal : Signal
  -- whether a route was over the limit of the protocol's imports in it
  pub over : Bool

pub record Rules : Type 0 where
  -- how many protocols, channels and tables there are; their numbers are those below it
  pub protocols : ℕ
  pub channels : ℕ
  pub tables : ℕ
  -- how many changes the journal of a table holds for those who are still to read them
  pub cells : ℕ
  -- ---- by protocol; its number is that of the source of its routes

  -- what an operation does after earlier ones
  pub gives : ℕ → List Op → Op → Effect
  -- the mode after operations, and the routes accepted, by net
  pub mode : ℕ → List Op → Mode
  pub accepted : ℕ → List Op → Routes
  -- whether its channels are up before all operations, as those of a pipe are
  pub first : ℕ → Bool
  -- the table that it imports to, and its channels in their order
  pub table : ℕ → ℕ
  pub belong : ℕ → List ℕ
  -- its route with these attributes
  pub route : ℕ → Attrs → Route
  -- ---- by channel

  -- the protocol that it is of, and the table that it reads
  pub owner : ℕ → ℕ
  pub reads : ℕ → ℕ
  -- the table that it writes, where it is a direction of a pipe
  pub target : ℕ → Option ℕ
  -- the attributes with which it sends a route, and none where its gate or its filter keeps it back
  pub value : ℕ → Key → Route → Option Attrs
  -- ---- of tables

  -- the best of a net's routes, which are given by source
  pub choose : (ℕ → Option Route) → Option Route
  -- the directions of pipes by which a source's routes come to a table, the last direction first;
  -- none where they don't come there
  pub hops : ℕ → ℕ → Option (List ℕ)

-- the best route of a net after a history
abbrev pub best_of : Rules → Net → List Change → Option Route
best_of rules net history = rules.choose (content_of history net)

-- the changes that a protocol's operations give
abbrev pub changes : Rules → ℕ → List Op → List Change
changes rules i [] = []
changes rules i (op ∷ earlier) = (rules.gives i earlier op).changes ++ changes rules i earlier

-- the route of a net that a protocol has accepted by its operations
abbrev pub held : Rules → ℕ → List Op → Net → Option Route
held rules i ops net = route_at net (rules.accepted i ops)

-- whether a channel is up behind a signal
abbrev pub signalled : Signal → Bool → Bool
signalled Stay up = up
signalled Rise up = true
signalled Fall up = false
signalled Renew up = up

-- whether a protocol's channels are up after its operations
abbrev pub is_up : Rules → ℕ → List Op → Bool
is_up rules i [] = rules.first i
is_up rules i (op ∷ earlier) =
    signalled (rules.gives i earlier op).signal (is_up rules i earlier)

-- a signal comes only where it fits
abbrev pub Fits : Signal → Bool → Type 0
Fits Stay up = ⊤
Fits Rise up = up ≡ false
Fits Fall up = up ≡ true
Fits Renew up = up ≡ true

-- no number stands twice
abbrev pub AreApart : List ℕ → Type 0
AreApart [] = ⊤
AreApart (c ∷ more) = (among c more ≡ false) × AreApart more

-- What the ways of sources owe: all that is known of how pipes join tables.
pub record AreWays (rules : Rules) : Type 0 where
  -- a source comes to its protocol's table by no direction, and to no other table so
  pub home : (i : ℕ) → rules.hops (rules.table i) i ≡ Some []
  pub only_home : (table i : ℕ) → rules.hops table i ≡ Some [] → rules.table i ≡ table
  -- a way's last direction writes the table, and reads the one that the rest of the way comes to
  pub chain :
      (table i d : ℕ) (ds : List ℕ) → rules.hops table i ≡ Some (d ∷ ds)
      → (rules.target d ≡ Some table) × (rules.hops (rules.reads d) i ≡ Some ds)
  -- a way comes to no table twice
  pub short : (table i : ℕ) (ds : List ℕ) → rules.hops table i ≡ Some ds → length ds < rules.tables

-- What the functions owe. All that is proved of the machine rests on this alone.
pub record IsRules (rules : Rules) : Type 0 where
  -- the choice depends on the routes alone, and is the best of those of the protocols
  pub same :
      (routes others : ℕ → Option Route) → ((num : ℕ) → routes num ≡ others num)
      → rules.choose routes ≡ rules.choose others
  pub best :
      (content : Content) (net : Net) (routes : List Route)
      → ((num : ℕ) → rules.protocols ≤ num → content net num ≡ None)
      → AreRoutesOf content net routes → IsBest routes (rules.choose (content net))
  -- a protocol changes its own routes, each change is one, and what they leave is what it has
  -- accepted; a number that no protocol has changes nothing
  pub own : (i : ℕ) (ops : List Op) → AreFrom i (changes rules i ops)
  pub real : (i : ℕ) (ops : List Op) → AreReal (changes rules i ops)
  pub made :
      (i : ℕ) (ops : List Op) (net : Net)
      → content_of (changes rules i ops) net i ≡ held rules i ops net
  pub order : (i : ℕ) (ops : List Op) → AreInOrder (rules.accepted i ops)
  pub absent : (i : ℕ) (ops : List Op) → rules.protocols ≤ i → changes rules i ops ≡ []
  -- only channels that are down come up, and only such as are up go down or send anew
  pub fits :
      (i : ℕ) (ops : List Op) (op : Op)
      → Fits (rules.gives i ops op).signal (is_up rules i ops)
  -- a route with given attributes tells them, and its source
  pub told :
      (i : ℕ) (attrs others : Attrs) → rules.route i attrs ≡ rules.route i others
      → attrs ≡ others
  pub source : (i : ℕ) (attrs : Attrs) → (rules.route i attrs).src.num ≡ i
  -- a protocol's channels are of it, each once; a channel that is in no such list is never up, nor
  -- is one beyond the last
  pub belongs : (i c : ℕ) → among c (rules.belong i) ≡ true → rules.owner c ≡ i
  pub once : (i : ℕ) → AreApart (rules.belong i)
  pub all :
      (c : ℕ) → among c (rules.belong (rules.owner c)) ≡ false → (ops : List Op)
      → is_up rules (rules.owner c) ops ≡ false
  pub no_more :
      (c : ℕ) → rules.channels ≤ c → (ops : List Op) → is_up rules (rules.owner c) ops ≡ false
  -- a channel that writes no table reads its protocol's; a direction of a pipe writes another table
  -- than it reads
  pub reads_own :
      (c : ℕ) → rules.target c ≡ None → rules.reads c ≡ rules.table (rules.owner c)
  pub apart : (d table : ℕ) → rules.target d ≡ Some table → rules.reads d ≢ table
  pub ways : AreWays rules
