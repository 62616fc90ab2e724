-- What is played (`Setup`): tables, and protocols. A protocol has routes of its own to import and
-- perhaps a channel to a neighbour (`Source`), or it is a pipe between two tables (`Pipe`). And
-- what `show route` is asked, with the filters by which routes are chosen. That numbers, tables and
-- families fit (`IsSetup`, `FitsQuery`). Names, families, what holds for all routes of a protocol,
-- filters as functions.
-- Not modelled: where all this comes from.
-- From: BIRD User's Guide, "Routing tables", "Protocol options", "Channel options", "Pipe", and
-- "Remote control" for `show route`.
-- Example: a protocol of BGP has a channel, a static one none, a pipe one each way. A query for
-- what a static protocol exports doesn't fit.
use Rattle.std.specs.Prelude.{◌≡◌, ◌≢◌, ◌<◌, ◌≤◌, ◌+◌, ℕ, false, List, [], ◌∷◌, length, Option, Some, None, IfSome, IsSome, option_map, slice_get, ⊤}
use Rattle.std.specs.List.{All, AllByRecursion}
use Rattle.attrs.specs.declared.attributes.Kind.{Kind}
use Rattle.attrs.specs.declared.attributes.Kind.TheVariants.{Static, Bgp}
use Rattle.bits_ip.specs.Address.{family_of}
use Rattle.bits_ip.specs.declared.address.Family.{Family}
use Rattle.export_core.specs.declared.passing.ExportSpec.{ExportSpec}
use Rattle.import_core.specs.declared.import_spec.Fixed.{Fixed}
use Rattle.import_core.specs.declared.import_spec.ImportSpec.{ImportSpec}
use Rattle.import_core.specs.Decisions.{Filter}
use Rattle.show_route.specs.declared.query.Query.{Query}

-- what a channel sends: what its gate and its filter let pass
pub record Exports : Type 0 where
  pub spec : ExportSpec
  pub filter : Filter

-- a protocol with routes of its own: a static one, or one of BGP
pub record Source : Type 0 where
  -- the number of the table that it imports to, and that its channel reads
  pub table : ℕ
  -- what holds for all its routes
  pub spec : ImportSpec
  -- the filter of its imports
  pub filter : Filter
  -- its channel to the neighbour, which a static protocol has not
  pub exports : Option Exports

-- A pipe: the routes of its primary table go to its peer table, which is its export, and those of
-- the peer table to the primary one, its import.
pub record Pipe : Type 0 where
  pub primary : ℕ
  pub peer : ℕ
  pub export : Filter
  pub import : Filter

pub data Body : Type 0 where
  IsSource : Source → Body
  IsPipe : Pipe → Body

pub record Protocol : Type 0 where
  pub name : List ℕ
  pub body : Body

-- Tables, protocols, choices and queries have numbers, from 0 in their order.
pub record Setup : Type 0 where
  pub tables : List (List ℕ × Family)
  pub protocols : List Protocol
  -- how many changes the journal of each table holds
  pub cells : ℕ
  -- what the filters say by which routes are chosen: those of the configuration, and then the
  -- conditions of the script
  pub choices : List Filter
  -- what the script asks of tables
  pub queries : List Query

-- the family of the table of a number
abbrev pub family_at : List (List ℕ × Family) → ℕ → Option Family
family_at tables number = option_map (λ table. table.1) (slice_get tables number)

-- The channel to the neighbour reads a table of its own family, sends the best route of a net, and
-- keeps back the routes of its own protocol, which has this number.
pub record IsSession (table : Option Family) (number : ℕ) (exports : Exports) : Type 0 where
  pub family : table ≡ Some exports.spec.family
  pub own : exports.spec.own ≡ number
  pub every : exports.spec.every ≡ false

-- a static protocol has no channel, and one of BGP has one
abbrev pub HasSession : Kind → Option Family → ℕ → Option Exports → Type 0
HasSession Static table number None = ⊤
HasSession Static table number (Some exports) = ⊥
HasSession Bgp table number None = ⊥
HasSession Bgp table number (Some exports) = IsSession table number exports

-- The routes of a protocol of this number tell it, its table is there, and the nets of its
-- configured routes are of the table's family.
pub record FitsSource (tables : List (List ℕ × Family)) (number : ℕ) (p : Source) : Type 0 where
  pub source : p.spec.src.num ≡ number
  pub table : p.table < length tables
  pub fixed :
      AllByRecursion (λ (f : Fixed). family_at tables p.table ≡ Some (family_of f.net.addr))
      p.spec.fixed
  pub session : HasSession p.spec.kind (family_at tables p.table) number p.exports

-- the two tables of a pipe are there, they aren't one, and they are of one family
pub record FitsPipe (tables : List (List ℕ × Family)) (p : Pipe) : Type 0 where
  pub primary : p.primary < length tables
  pub peer : p.peer < length tables
  pub apart : p.primary ≢ p.peer
  pub family : family_at tables p.primary ≡ family_at tables p.peer

abbrev pub FitsBody : List (List ℕ × Family) → ℕ → Body → Type 0
FitsBody tables number (IsSource p) = FitsSource tables number p
FitsBody tables number (IsPipe p) = FitsPipe tables p

-- each protocol, with their numbers from this one on
abbrev pub AreProtocols : List (List ℕ × Family) → ℕ → List Protocol → Type 0
AreProtocols tables number [] = ⊤
AreProtocols tables number (p ∷ more) =
    FitsBody tables number p.body × AreProtocols tables (number + 1) more

-- the protocol has a channel to its neighbour, which reads this table
abbrev pub ExportsFrom : ℕ → Body → Type 0
ExportsFrom table (IsSource p) = (p.table ≡ table) × IsSome p.exports
ExportsFrom table (IsPipe p) = ⊥

-- What a query names is there: its table, the filter by which routes are chosen, the protocol whose
-- routes alone are shown, and the protocol whose exports are shown, from its table.
pub record FitsQuery
    (tables : List (List ℕ × Family)) (protocols : List Protocol) (choices : List Filter)
    (query : Query) : Type 0 where
  pub table : query.table < length tables
  pub choice : IfSome query.choice (λ number. number < length choices)
  pub source : IfSome query.source (λ number. number < length protocols)
  pub export :
      IfSome query.export (λ number. (p : Protocol)
      × (slice_get protocols number ≡ Some p) × ExportsFrom query.table p.body)

pub record IsSetup (setup : Setup) : Type 0 where
  -- there is a table
  pub tables : 1 ≤ length setup.tables
  pub protocols : AreProtocols setup.tables 0 setup.protocols
  pub queries : All (FitsQuery setup.tables setup.protocols setup.choices) setup.queries
