-- What an accepted configuration and a script give to play is a setup, where each channel has its table, and each query what it
-- names; and scripts know protocols as what they are.
use Rattle.std.proofs.Common.{◌≡◌, ◌≢◌, ◌∙◌, sym, ap, refl, subst, ℕ, zero, suc, ◌+◌, ◌<◌, ◌≤◌, Bool, true, false, List, [], ◌∷◌, ◌++◌, map, Option, Some, None, option_map, arith, length, true≢false}
use Rattle.std.specs.Prelude.{IfSome, slice_get, slice_index_or}
use Rattle.std.specs.List.{All, AllByRecursion}
use Rattle.std.proofs.lemmas.List.{length-append, length-map}
use Rattle.std.proofs.lemmas.List.Elements.{All-cons, All-nil}
use Rattle.std.proofs.lemmas.Option.{none-some, same_Some, slice_get_within}
use Rattle.bits_ip.specs.Address.{family_of}
use Rattle.bits_ip.specs.declared.address.Family.{Family}
use Rattle.import_core.specs.declared.import_spec.Fixed.{Fixed}
use Rattle.conf_check.specs.Behind.{at_start, behind}
use Rattle.conf_check.specs.declared.checked.StaticRoute.{StaticRoute}
use Rattle.conf_names.specs.Joints.{IsForest, JoinsApart, joined}
use Rattle.conf_names.specs.declared.joints.Joint.{Joint}
use Rattle.core_setup.specs.Pairs.{Pairs}
use Rattle.core_setup.specs.Setup as setup
use Rattle.core_setup.specs.Setup.{ExportsFrom, FitsQuery, IsSetup, family_at}
use Rattle.script_lines.specs.Kinds.{is_bgp}
use Rattle.script_lines.specs.Script.{AsksWhatIs, HasTables, IsScript}
use Rattle.script_lines.specs.declared.named.Named.{Named}
use Rattle.script_lines.specs.declared.named.NamedProtocol.{NamedProtocol}
use Rattle.script_lines.specs.declared.script.Condition.{Condition}
use Rattle.script_lines.specs.declared.script.Line.{Line}
use Rattle.show_route.specs.declared.query.Query.{Query}
use Rattle.conf_system.specs.Policies.{Filter}
use Rattle.conf_system.specs.System.{Bgp, Body, IsBgp, IsPipe, IsStatic, Pipe, Protocol, Static, System, system_in}
use Rattle.conf_system.specs.Pipes.{pipe_of as joint_in, pipes_of}
use Rattle.conf_system.specs.Tables.{AllFit, BodyFits, Fits, Has, Tables}
use Rattle.conf_system.specs.Texts.{IsSystem}
use Rattle.conf_system.proofs.TablesThere.{masters_first}
use Rattle.sys_build.specs.Names.{IsKindOf, kind_of, named_of, named_protocol, named_table, table_of}
use Rattle.sys_build.specs.Scripts.{Accepted, Answers, AreAsked}
use Rattle.sys_build.specs.Setups.{bgp_of, body_of, choices_of, fixed_of, pipe_of, protocol_of, protocols_from, setup_of, static_of}
use Rattle.sys_build.proofs.RoutesFit.{AllRoutesFit, AreOfFamily, RoutesFit, all_routes_fit}

has_family : (tables : Tables) (number : ℕ) (family : Family) → Has tables number family → family_at tables number ≡ Some family
has_family tables number family has = ap (λ o. option_map (λ t. t.1) o) has.1 ∙ ap (λ f. Some f) has.2

fixed_fit : (tables : Tables) (number : ℕ) (family : Family) → family_at tables number ≡ Some family → (routes : List StaticRoute) → AreOfFamily family routes
    → AllByRecursion (λ (f : Fixed). family_at tables number ≡ Some (family_of f.net.addr)) (map fixed_of routes)
fixed_fit tables number family is [] fit = tt
fixed_fit tables number family is (r ∷ routes) fit = (is ∙ ap (λ f. Some f) (sym fit.0), fixed_fit tables number family is routes fit.1)

static_fits : (tables : Tables) (number : ℕ) (p : Static) → Fits tables p.channel → RoutesFit (IsStatic p) → setup.FitsSource tables number (static_of number p)
static_fits tables number p fits routes = record {
  source = refl;
  table = slice_get_within tables p.channel.table fits.0 fits.1;
  fixed = fixed_fit tables p.channel.table p.channel.family (has_family tables p.channel.table p.channel.family fits) p.routes routes;
  session = tt;
}

bgp_fits : (tables : Tables) (number : ℕ) (p : Bgp) → Fits tables p.channel → setup.FitsSource tables number (bgp_of number p)
bgp_fits tables number p fits = record {
  source = refl;
  table = slice_get_within tables p.channel.table fits.0 fits.1;
  fixed = tt;
  session = record { family = has_family tables p.channel.table p.channel.family fits; own = refl; every = refl };
}

pipe_fits : (tables : Tables) (p : Pipe) → BodyFits tables (IsPipe p) → p.table ≢ p.peer → setup.FitsPipe tables (pipe_of p)
pipe_fits tables p fits apart = record {
  primary = slice_get_within tables p.table fits.0.0 fits.0.1;
  peer = slice_get_within tables p.peer fits.1.0 fits.1.1;
  apart = apart;
  family = has_family tables p.table p.family fits.0 ∙ sym (has_family tables p.peer p.family fits.1);
}

-- A table is joined to itself: so a pipe that joins what those before it don't join has two tables.
module _ (itself : (pipes : List Joint) (a : ℕ) → joined pipes a a ≡ true) (tables : Tables) where
  two_tables : (before : List Joint) (p : Pipe) → joined before p.table p.peer ≡ false → p.table ≢ p.peer
  two_tables before p apart same =
      true≢false (sym (itself before p.peer) ∙ ap (λ (a : ℕ). joined before a p.peer) (sym same) ∙ apart)

  next_fit : (before : List Joint) (number : ℕ) (name : List ℕ) (body : Body) (more : List Protocol) → BodyFits tables body → RoutesFit body → JoinsApart before (joint_in body ++ pipes_of more)
      → ((behind : List Joint) → JoinsApart behind (pipes_of more) → setup.AreProtocols tables (number + 1) (protocols_from (number + 1) more))
      → setup.AreProtocols tables number (protocols_from number (record { name = name; body = body } ∷ more))
  next_fit before number name (IsStatic p) more fits routes apart rest = (static_fits tables number p fits routes, rest before apart)
  next_fit before number name (IsBgp p) more fits routes apart rest = (bgp_fits tables number p fits, rest before apart)
  next_fit before number name (IsPipe p) more fits routes apart rest =
      let joint : Joint = record { table = p.table; peer = p.peer } in
      (pipe_fits tables p fits (two_tables before p apart.0), rest (before ++ joint ∷ []) apart.1)

  protocols_fit : (before : List Joint) (number : ℕ) (ps : List Protocol) → AllFit tables ps → AllRoutesFit ps → JoinsApart before (pipes_of ps) → setup.AreProtocols tables number (protocols_from number ps)
  protocols_fit before number [] fit routes apart = tt
  protocols_fit before number (p ∷ more) fit routes apart =
      next_fit before number p.name p.body more fit.0 routes.0 apart (λ behind later. protocols_fit behind (number + 1) more fit.1 routes.1 later)

-- the main tables are there
some_tables : (text : List ℕ) (system : System) → IsSystem text system → 2 ≤ length system.tables
unfolding system_in
some_tables text system is =
    let first = masters_first text is.0 in
    let count = ap length first.1 in
    let some : 2 ≤ length (behind (at_start text) is.0).tables = omega (arith, count) in
    subst (λ (s : System). 2 ≤ length s.tables) (sym is.2) some

-- ---- the tables that scripts know

table_there : (tables : Tables) (body : Body) → BodyFits tables body → table_of body < length tables
table_there tables (IsStatic p) fits = slice_get_within tables p.channel.table fits.0 fits.1
table_there tables (IsBgp p) fits = slice_get_within tables p.channel.table fits.0 fits.1
table_there tables (IsPipe p) fits = slice_get_within tables p.table fits.0.0 fits.0.1

tables_there : (tables : Tables) (ps : List Protocol) → AllFit tables ps → All (λ (p : NamedProtocol). p.table < length (map named_table tables)) (map named_protocol ps)
tables_there tables [] fit = All-nil (λ (p : NamedProtocol). p.table < length (map named_table tables))
tables_there tables (p ∷ more) fit =
    All-cons (λ (q : NamedProtocol). q.table < length (map named_table tables)) (named_protocol p) (map named_protocol more)
    (omega (arith, table_there tables p.body fit.0, length-map tables named_table)) (tables_there tables more fit.1)

pub have_tables : ((text : List ℕ) (system : System) → IsSystem text system → AllFit system.tables system.protocols) → (text : List ℕ) (system : System) → IsSystem text system → (schedule : Bool) → HasTables (named_of system schedule)
unfolding named_of
have_tables there text system is schedule = record {
  masters = omega (arith, some_tables text system is, length-map system.tables named_table);
  protocols = tables_there system.tables system.protocols (there text system is);
}

-- ---- queries

-- the protocol of a number, as scripts know it and as it is played
at_both : (first : ℕ) (ps : List Protocol) (number : ℕ) (declared : NamedProtocol) → slice_get (map named_protocol ps) number ≡ Some declared
    → (p : Protocol) × (declared ≡ named_protocol p) × (slice_get (protocols_from first ps) number ≡ Some (protocol_of (first + number) p))
at_both first [] number declared is = absurd (none-some declared is)
at_both first (p ∷ ps) zero declared is = (p, sym (same_Some (named_protocol p) declared is), ap (λ (n : ℕ). Some (protocol_of n p)) (omega arith))
at_both first (p ∷ ps) (suc number) declared is =
    let rest = at_both (first + 1) ps number declared is in
    (rest.0, rest.1, rest.2 ∙ ap (λ (n : ℕ). Some (protocol_of n rest.0)) (omega arith))

exports_from : (number table : ℕ) (body : Body) → is_bgp (kind_of body) ≡ true → table ≡ table_of body → ExportsFrom table (body_of number body)
exports_from number table (IsStatic p) bgp reads = absurd (true≢false (sym bgp))
exports_from number table (IsBgp p) bgp reads = (sym reads, refl)
exports_from number table (IsPipe p) bgp reads = absurd (true≢false (sym bgp))

some_export : (ps : List Protocol) (table : ℕ) (asked : Option ℕ)
    → IfSome asked (λ number. (number < length (map named_protocol ps)) × (declared : NamedProtocol) × (slice_get (map named_protocol ps) number ≡ Some declared) × (is_bgp declared.kind ≡ true) × (table ≡ declared.table))
    → IfSome asked (λ number. (p : setup.Protocol) × (slice_get (protocols_from 0 ps) number ≡ Some p) × ExportsFrom table p.body)
some_export ps table None is = tt
some_export ps table (Some number) is =
    let both = at_both 0 ps number is.1 is.2 in
    let bgp = subst (λ (d : NamedProtocol). is_bgp d.kind ≡ true) both.1 is.3 in
    (protocol_of (0 + number) both.0, both.2, exports_from (0 + number) table both.0.body bgp (is.4 ∙ ap (λ (d : NamedProtocol). d.table) both.1))

some_below : (asked : Option ℕ) (m n : ℕ) → m ≡ n → IfSome asked (λ number. number < m) → IfSome asked (λ number. number < n)
some_below asked m n same is = subst (λ (k : ℕ). IfSome asked (λ number. number < k)) same is

from_as_many : (n : ℕ) (ps : List Protocol) → length (protocols_from n ps) ≡ length ps
from_as_many n [] = refl
from_as_many n (p ∷ more) = ap (λ (k : ℕ). suc k) (from_as_many (n + 1) more)

fits_query : (system : System) (schedule : Bool) (conditions : List Filter) (query : Query) → AsksWhatIs (named_of system schedule) (length conditions) query → FitsQuery system.tables (protocols_from 0 system.protocols) (choices_of system conditions) query
unfolding named_of
fits_query system schedule conditions query asks = record {
  table = omega (arith, asks.table, length-map system.tables named_table);
  choice =
      some_below query.choice (length (map (λ (f : List ℕ × Filter). f.0) system.filters) + length conditions) (length (choices_of system conditions))
      (omega (arith, length-map system.filters (λ (f : List ℕ × Filter). f.0), length-map system.filters (λ (f : List ℕ × Filter). f.1), length-append (map (λ (f : List ℕ × Filter). f.1) system.filters) conditions))
      asks.choice;
  source =
      some_below query.source (length (map named_protocol system.protocols)) (length (protocols_from 0 system.protocols))
      (omega (arith, length-map system.protocols named_protocol, from_as_many 0 system.protocols))
      asks.source;
  export = some_export system.protocols query.table query.export asks.export;
}

fit_queries : (system : System) (schedule : Bool) (count : ℕ) (conditions : List Filter) (queries : List Query) → count ≡ length conditions → All (AsksWhatIs (named_of system schedule) count) queries
    → All (FitsQuery system.tables (protocols_from 0 system.protocols) (choices_of system conditions)) queries
fit_queries system schedule count conditions queries same all =
    λ k d below. fits_query system schedule conditions (slice_index_or queries k d) (subst (λ (n : ℕ). AsksWhatIs (named_of system schedule) n (slice_index_or queries k d)) same (all k d below))

-- as many conditions as filters
asked_count : (system : System) (conditions : List Condition) (filters : List Filter) → AreAsked system conditions filters → length conditions ≡ length filters
asked_count system [] [] are = refl
asked_count system [] (f ∷ filters) are = absurd are
asked_count system (c ∷ more) [] are = absurd are
asked_count system (c ∷ more) (f ∷ filters) are = ap (λ (k : ℕ). suc k) (asked_count system more filters are.1)

module _ (itself : (pipes : List Joint) (a : ℕ) → joined pipes a a ≡ true)
    (there : (text : List ℕ) (system : System) → IsSystem text system → AllFit system.tables system.protocols)
    (forest : (text : List ℕ) (system : System) → IsSystem text system → IsForest (pipes_of system.protocols))
    (asks : (named : Named) (text : List ℕ) (phases : List (List Line)) (actors : List (List ℕ)) (queries : List Query) (conditions : List Condition)
    → HasTables named → IsScript named text phases actors queries conditions → All (AsksWhatIs named (length conditions)) queries) where
  pub playable : (conf text : List ℕ) (system : System) (schedule : Bool) (phases : List (List Line)) (actors : List (List ℕ)) (queries : List Query) (filters : List Filter) (cells : ℕ)
      → IsSystem conf system → Answers system schedule text (Accepted phases actors queries filters) → IsSetup (setup_of system cells filters queries)
  unfolding setup_of
  playable conf text system schedule phases actors queries filters cells is script = record {
    tables = omega (arith, some_tables conf system is);
    protocols = protocols_fit itself system.tables [] 0 system.protocols (there conf system is) (all_routes_fit conf system is) (forest conf system is);
    queries =
        fit_queries system schedule (length script.conditions) filters queries (asked_count system script.conditions filters script.asked)
        (asks (named_of system schedule) text phases actors queries script.conditions (have_tables there conf system is schedule) script.lines_are);
  }

-- ---- kinds

body_kind : (tables : Tables) (number : ℕ) (body : Body) → BodyFits tables body → IsKindOf tables (kind_of body) (body_of number body)
body_kind tables number (IsStatic p) fits = (refl, has_family tables p.channel.table p.channel.family fits)
body_kind tables number (IsBgp p) fits = (refl, has_family tables p.channel.table p.channel.family fits)
body_kind tables number (IsPipe p) fits = tt

kinds_fit : (tables : Tables) (number : ℕ) (ps : List Protocol) → AllFit tables ps
    → Pairs (λ i (named : NamedProtocol) (p : setup.Protocol). IsKindOf tables named.kind p.body) number (map named_protocol ps) (protocols_from number ps)
kinds_fit tables number [] fit = tt
kinds_fit tables number (p ∷ more) fit = (body_kind tables number p.body fit.0, kinds_fit tables (number + 1) more fit.1)

pub kinds_are : ((text : List ℕ) (system : System) → IsSystem text system → AllFit system.tables system.protocols)
    → (text : List ℕ) (system : System) → IsSystem text system → (schedule : Bool) (cells : ℕ) (filters : List Filter) (queries : List Query)
    → Pairs (λ i (named : NamedProtocol) (p : setup.Protocol). IsKindOf (setup_of system cells filters queries).tables named.kind p.body) 0 (named_of system schedule).protocols (setup_of system cells filters queries).protocols
unfolding named_of setup_of
kinds_are there text system is schedule cells filters queries = kinds_fit system.tables 0 system.protocols (there text system is)
