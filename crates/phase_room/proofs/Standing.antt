-- What stands as a phase begins gives all that locks are made of.
use Rattle.std.proofs.Common.{◌≡◌, ℕ, ◌+◌, Bool, List, [], ◌∷◌, length, reverse, Option, Some, refl, sym, ap, subst, ◌∙◌}
use Rattle.std.specs.Prelude.{◌==◌, Contains, IfSome}
use Rattle.std.specs.List.{AllByRecursion}
use Rattle.atomic_table.specs.Seated.{TableId}
use Rattle.attrs.specs.Table.{route_in}
use Rattle.attrs.specs.declared.judge.Verdict.{Verdict}
use Rattle.attrs.specs.declared.route.Route.{Route}
use Rattle.bits_ip.specs.Address.{family_of}
use Rattle.bits_ip.specs.Prefix.{Net}
use Rattle.bits_ip.specs.declared.address.Family.{Family}
use Rattle.export_core.specs.Standing.{is_open}
use Rattle.export_core.specs.States.{State}
use Rattle.import_core.specs.Importers.{Importing}
use Rattle.import_core.specs.declared.import_spec.Fixed.{Fixed}
use Rattle.jour_rule.specs.declared.views.Terms.{Terms}
use Rattle.jour_rule.specs.declared.views.View.{View as Seat}
use Rattle.jour.specs.Seats.{front, journal, number_of, own}
use Rattle.core_machine.specs.Lines.{ops_of}
use Rattle.core_setup.specs.Announced.{IsOfFamily}
use Rattle.core_setup.specs.Setup.{Exports, FitsBody, FitsSource, Source, family_at}
use Rattle.core_setup.proofs.Numbered.{protocol_is, some_same}
use Rattle.phase_legal.specs.Changes.{IsAlone}
use Rattle.table_shared.specs.Opening.{TableOpening, sources_of}
use Rattle.table_shared.specs.Records.{at_first}
use Rattle.import_lock.specs.Begun.{IsUnused}
use Rattle.import_lock.specs.Terms.{AreTerms, PhaseTerms}
use Rattle.phase_room.specs.Journals.{turns_terms}
use Rattle.phase_room.specs.Locks.{CanExport, CanImport, export_terms, import_terms}
use Rattle.phase_room.specs.Rooms.{BeginsTable, IsOwnPort, TableTerms}
use Rattle.phase_room.specs.Stands.{AreChannelSeats, AreSeats, StandsChannel, StandsSource, StandsTable}
use Rattle.phase_room.specs.Together.{AreTogether}

-- ---- a protocol

fixed_all : (found : Option Family) (family : Family) (fs : List Fixed) → found ≡ Some family → AllByRecursion (λ f. found ≡ Some (family_of f.net.addr)) fs → AllByRecursion (λ f. family_of f.net.addr ≡ family) fs
fixed_all found family [] is all = tt
fixed_all found family (f ∷ fs) is all = (some_same (sym all.0 ∙ is), fixed_all found family fs is all.1)

module _ {J : Type 0} (verdict : J → Net → Route → Verdict) (phase : PhaseTerms) (number : ℕ) (source : Source) (table : TableTerms) (importer : Importing J) (s : StandsSource verdict phase number source table importer) where
  fits : FitsSource phase.setup.tables number source
  fits = subst (FitsBody phase.setup.tables number) s.body (protocol_is phase.setup number s.protocol s.setup s.protocol_is)

  -- ---- its lock

  module _ (here : TableId × Terms TableOpening) (port : TableId × Seat TableOpening) (turns : TableId × Seat ℕ) (stamp : Option (TableId × Seat ℕ)) (seats : AreSeats phase number table here port turns stamp) where
    opening_is : port.1.seen.terms.opening ≡ here.1.opening
    opening_is = ap (λ z. z.1.opening) seats.port

    family_is : port.1.seen.terms.opening.family ≡ table.family
    family_is = ap (λ z. z.family) opening_is ∙ seats.begins.family

    terms_are : AreTerms (import_terms phase number port turns stamp) source
    terms_are = record {
      setup = s.setup;
      protocol = s.protocol;
      protocol_is = s.protocol_is;
      body = s.body;
      mine = subst (λ (z : ℕ × TableOpening). Contains (sources_of z.1 z.0) number) (λ i. (sym seats.port_number i, sym opening_is i)) seats.own_port.mine;
      alone = subst (λ (z : ℕ × TableOpening). IsAlone (λ num. num == number) z.1 z.0) (λ i. (sym seats.port_number i, sym opening_is i)) seats.own_port.alone;
      opening = λ net. ap (λ z. at_first z net number) opening_is ∙ ap (λ rows. route_in rows net number) seats.begins.rows ∙ s.rows net;
      fixed = subst (λ z. AllByRecursion (λ f. family_of f.net.addr ≡ z) source.spec.fixed) (sym family_is) (fixed_all (family_at phase.setup.tables source.table) table.family source.spec.fixed s.family fits.fixed);
      past = subst (λ z. AllByRecursion (IsOfFamily z) (ops_of (phase.past number))) (sym family_is) s.past;
      start = ap (λ z. z.start) seats.turns;
      cursors = ap (λ z. z.cursors) seats.turns;
      makers = ap (λ z. z.opening) seats.turns ∙ sym (ap (λ z. z.makers) seats.turns);
    }

    pub can_import : CanImport verdict phase number importer port turns stamp
    can_import = record {
      source = source;
      terms = terms_are;
      begins = record {
        importer = s.importer;
        port = refl;
        port_number = refl;
        unmade = seats.unmade;
        turns = refl;
        unturned = seats.unturned;
        marks = refl;
        unused = seats.unused;
      };
    }

-- ---- its channel

module _ {J : Type 0} (verdict : J → Net → Route → Verdict) (phase : PhaseTerms) (number : ℕ) (table : TableTerms) (exports : Exports) (exporter : State J) (here : TableId × Terms TableOpening) (cursor : (TableId × Seat TableOpening) × Bool) (marks : TableId × Seat ℕ)
    (t : StandsTable table) (s : StandsChannel verdict phase number exports table exporter) (seats : AreChannelSeats table here (is_open exporter.log) cursor marks) where
  start_is : cursor.0.1.seen.terms.start ≡ length table.before
  start_is = ap (λ z. z.1.start) seats.cursor ∙ seats.begins.start

  pub can_export : CanExport verdict exports table.before (reverse exporter.log) exporter cursor marks
  can_export = record {
    spec = s.spec;
    filter = s.filter;
    kind = s.neighbour;
    rest = s.rest;
    log = refl;
    stood = s.stands;
    here = refl;
    unread = seats.unread;
    start = start_is;
    family = s.family ∙ sym seats.begins.family ∙ sym (ap (λ z. z.1.opening.family) seats.cursor);
    begun = record {
      told = t.told;
      opening = λ net num. ap (λ z. at_first z.1.opening net num) seats.cursor ∙ ap (λ rows. route_in rows net num) seats.begins.rows ∙ t.rows net num;
    };
    mode = seats.mode;
    position = λ up. (s.position up ∙ sym start_is, seats.position up ∙ sym start_is);
    marks = refl;
    makers = ap (λ z. z.opening) seats.marks;
    cursors = ap (λ z. z.cursors) seats.marks;
    unmarked = seats.unmarked;
  }

  pub are_together : (port : TableId × Seat TableOpening) (turns stamp : TableId × Seat ℕ) → journal port ≡ here → journal stamp ≡ journal marks
      → AreTogether (import_terms phase number port turns (Some stamp)) (export_terms exports cursor table.before marks (reverse exporter.log))
  are_together port turns stamp at same = record {
    table = seats.cursor ∙ sym at;
    marks = ap Some same;
    start = ap (λ z. z.start) seats.marks;
    up = s.up;
  }

-- ---- the seats that a protocol is given

module _ (phase : PhaseTerms) (number : ℕ) (stood : TableTerms) (here : TableId × Terms TableOpening) (begins : BeginsTable stood here.1) (own_port : IsOwnPort number here.1.opening) where
  pub source_seats : (hands : ℕ) (port : TableId × Seat TableOpening) (turns : TableId × Seat ℕ) (stamp : Option (TableId × Seat ℕ)) → journal port ≡ here → number_of port.1.role ≡ number → own port.1 ≡ [] → turns.1.seen.terms ≡ turns_terms hands → hands ≡ phase.starter + 1 → front turns.1 ≡ []
      → IfSome stamp IsUnused → AreSeats phase number stood here port turns stamp
  source_seats hands port turns stamp at is unmade terms many unturned unused = record {
    begins = begins;
    own_port = own_port;
    port = at;
    port_number = is;
    unmade = unmade;
    turns = terms ∙ ap turns_terms many;
    unturned = unturned;
    unused = unused;
  }
