-- What has begun once actors have their seats.
use Rattle.std.proofs.Common.{◌≡◌, ℕ, ◌+◌, ◌<◌, arith, inl, inr, Bool, true, false, List, [], length, map, Some, refl, sym, ap, subst, ◌∙◌}
use Rattle.std.specs.Prelude.{◌==◌, if◌then◌else◌, Contains, slice_get, slice_index_or}
use Rattle.std.proofs.lemmas.Bool.{eqb-true}
use Rattle.std.proofs.lemmas.List.Elements.{Contains-append_cases}
use Rattle.std.specs.declared.alloc.Global.{Global}
use Rattle.std.specs.declared.vec.Vec.{Vec}
use Rattle.attrs.proofs.Rows.{Contains-nothing}
use Rattle.attrs.specs.declared.journal.JEntry.{JEntry}
use Rattle.attrs.specs.declared.judge.Verdict.{Verdict}
use Rattle.attrs.specs.declared.route.Route.{Route}
use Rattle.bits_ip.specs.Prefix.{Net}
use Rattle.core_machine.specs.Rules.{Rules}
use Rattle.core_setup.specs.Channels.{channels}
use Rattle.core_setup.specs.Pairs.{Pairs}
use Rattle.core_setup.specs.Setup.{Exports}
use Rattle.core_setup.proofs.PairLemmas.{get_within, one_here, other_here, pairs_here, pairs_length}
use Rattle.import_lock.specs.Terms.{PhaseTerms}
use Rattle.jour_rule.specs.declared.views.Terms.{Terms}
use Rattle.phase_actors.specs.declared.actor.Actor.{Actor}
use Rattle.phase_legal.specs.Shown.{HandView, PassView}
use Rattle.phase_open.specs.declared.standing.StandingTable.{StandingTable}
use Rattle.phase_pipes.proofs.Sourcing.{in_either}
use Rattle.phase_room.specs.Opened.{AreOfEach, IsPassOf}
use Rattle.phase_room.specs.declared.opened.Opened.{Opened}
use Rattle.table_shared.specs.Opening.{TableOpening, sources_of}
use Rattle.room_members.specs.Begun.{IsBegun}
use Rattle.room_members.specs.Members.{room_seen}
use Rattle.room_members.specs.Ports.{HasPorts, Writes}
use Rattle.room_members.specs.declared.begun.Begun.{Begun}
use Rattle.room_members.specs.declared.member.Member.{Member}
use Rattle.room_members.specs.declared.member.Member.TheVariants as member
use Rattle.room_open.specs.Laid.{AreEntered, AreLaid, AreTablesOpen, CanEnterAll, CursorView, IsSeated, TableView}
use Rattle.room_open.specs.Opening.{IsOpenMember, IsOpenTable, IsOpening}
use Rattle.room_open.specs.Sources.{AreCounts, ArePorts, lists_from, sources_in}
use Rattle.room_open.specs.Standing.{Stands}
use Rattle.room_open.specs.declared.standing.Standing.{Standing}
use Rattle.room_open.specs.declared.standing.StandingMember.{StandingMember}
use Rattle.room_open.specs.declared.standing.StandingMember.TheVariants.{Own, Pipe}
use Rattle.room_open.proofs.Laying.{stands_at}
use Rattle.room_open.proofs.Places.{map_twice}
use Rattle.room_open.proofs.Seating.{is_doing, shown_at}
use Rattle.room_open.proofs.Told.{ports_are, told_by}

in_if : (b : Bool) (xs : List ℕ) (num : ℕ) → Contains (if b then xs else []) num → b ≡ true
in_if true xs num w = refl
in_if false xs num w = absurd (Contains-nothing num w)

-- ---- who writes a table

module _ {J P : Type 0} (terms : P → PhaseTerms) (exports : P → ℕ → Exports) (rules : P → Rules) (played : P) (stood : List StandingTable) where
  writes_it : (table number num : ℕ) (held : StandingMember J) (one : Member J P) → IsOpenMember terms exports rules played stood number held one → Contains (sources_in table number held) num → Writes terms exports rules one table number
  writes_it table number num (Own held) (member.Own session) is w =
      (is.table ∙ eqb-true held.table table (in_either (held.table == table) number num w).0, is.port)
  writes_it table number num (Own held) (member.Pipe session) is w = absurd is
  writes_it table number num (Pipe held) (member.Own session) is w = absurd is
  writes_it table number num (Pipe held) (member.Pipe session) is w = elim (Contains-append_cases (if held.peer == table then held.out.exporter.spec.sources else []) (if held.primary == table then held.back.exporter.spec.sources else []) num w) [
    | inl v ↦ inl (is.peer ∙ eqb-true held.peer table (in_if (held.peer == table) held.out.exporter.spec.sources num v), is.out_port)
    | inr v ↦ inr (is.primary ∙ eqb-true held.primary table (in_if (held.primary == table) held.back.exporter.spec.sources num v), is.back_port)
  ]

  module _ (begun : Begun J P) (before : List (Vec JEntry Global)) (members : List (StandingMember J)) (laid : AreLaid (terms played) stood begun.room.tables.items before) (told : ArePorts (terms played).setup members) (entered : AreEntered terms exports rules played stood begun.room.tables.items members begun) where
    -- by the sources that what stood of protocols tells of a table
    told_at : (table : ℕ) (here : TableView) → slice_get begun.room.tables.items table ≡ Some here → here.1.opening.ports ≡ lists_from table 0 members
    told_at table here at =
        let one = one_here (IsOpenTable (terms played)) stood begun.room.tables.items laid.tables_are table here at in
        let inside = get_within stood table one.0 one.1 in
        ap (λ (t : Terms TableOpening). t.opening.ports) one.2.terms_are ∙ sym (told.each table (subst (λ n. table < n) laid.count inside))

    port_at : (table : ℕ) (here : TableView) → slice_get begun.room.tables.items table ≡ Some here → (port num : ℕ) → Contains (sources_of here.1.opening port) num
        → (one : Member J P) × (slice_get begun.room.members.items port ≡ Some one) × Writes terms exports rules one table port
    port_at table here at port num w =
        let there = told_by table 0 members port num (subst (λ z. Contains (slice_index_or z port []) num) (told_at table here at) w) in
        let one = other_here (IsOpenMember terms exports rules played stood) members begun.room.members.items entered.members_are port there.0 there.1 in
        let same : port + 0 ≡ port = omega arith in
        (one.0, one.1, writes_it table port num there.0 one.0 one.2 (subst (λ n. Contains (sources_in table n there.0) num) same there.2))

    pub has_ports : HasPorts terms exports rules begun.room
    has_ports = record { each = port_at }

module _ {J P : Type 0} (terms : P → PhaseTerms) (exports : P → ℕ → Exports) (rules : P → Rules) (played : P) (begun : Begun J P) (passes : List (Vec PassView Global)) (shown : AreOfEach IsPassOf begun.room.tables.items passes) (actors : Vec Actor Global) (starters : Vec HandView Global) (seen : Vec PassView Global)
    (spares : Vec (Vec CursorView Global) Global) (before : Vec (Vec JEntry Global) Global)
    (count : length actors.items ≡ (terms played).starter) (seated : (number : ℕ) (actor : Actor) → slice_get actors.items number ≡ Some actor → IsSeated begun.hands.items passes number actor) (starters_at : slice_get begun.hands.items (terms played).starter ≡ Some starters) (seen_at : slice_get passes (terms played).starter ≡ Some seen)
    (spare : length spares.items ≡ length (channels (terms played).setup)) where
  pub is_opening : (stood : List StandingTable) (members : List (StandingMember J)) → AreLaid (terms played) stood begun.room.tables.items before.items → ArePorts (terms played).setup members → AreEntered terms exports rules played stood begun.room.tables.items members begun
      → IsOpening terms exports rules played stood members (record { room = begun.room; actors = actors; starters = starters; passes = seen; spares = spares; before = before })
  is_opening stood members laid told entered = record {
    room = entered.begun_is.room;
    ports = has_ports terms exports rules played stood begun before.items members laid told entered;
    played_is = entered.played_is;
    tables_count = sym (pairs_length (IsOpenTable (terms played)) 0 stood begun.room.tables.items laid.tables_are);
    tables_are = λ number table here at there. pairs_here (IsOpenTable (terms played)) stood begun.room.tables.items laid.tables_are number table here at there;
    members_count = sym (pairs_length (IsOpenMember terms exports rules played stood) 0 members begun.room.members.items entered.members_are);
    members_are = λ number held one at there. pairs_here (IsOpenMember terms exports rules played stood) members begun.room.members.items entered.members_are number held one at there;
    actors_count = count;
    actors = λ number actor at.
        let is = seated number actor at in
        (is.number_is, is_doing (terms played).setup (room_seen terms begun.room) begun.hands.items passes entered.begun_is.hands shown number actor is);
    starters = entered.begun_is.hands (terms played).starter starters starters_at;
    passes = shown_at (terms played).setup (room_seen terms begun.room) begun.hands.items passes entered.begun_is.hands shown (terms played).starter seen seen_at;
    spares = spare;
    before = ap (map (λ (list : Vec JEntry Global). list.items)) laid.before_is ∙ map_twice (λ (list : Vec JEntry Global). list.items) (λ (table : StandingTable). table.before) stood;
  }

-- ---- before and behind the protocols

module _ {J P : Type 0} (terms : P → PhaseTerms) (exports : P → ℕ → Exports) (rules : P → Rules) (played : P) (stood : List StandingTable) where
  pub none_entered : (begun : Begun J P) → IsBegun terms exports rules begun → begun.room.played.value ≡ played → length begun.hands.items ≡ (terms played).starter + 1 → begun.room.members.items ≡ [] → AreEntered terms exports rules played stood begun.room.tables.items [] begun
  none_entered begun is same hands none = record {
    begun_is = is;
    played_is = same;
    tables_are = refl;
    hands = hands;
    members_are = subst (λ z. Pairs (IsOpenMember terms exports rules played stood) 0 [] z) (sym none) tt;
  }

  -- in the tables that the room then has
  pub entered_there : (tables : List TableView) (members : List (StandingMember J)) (begun : Begun J P) (before : List (Vec JEntry Global)) → AreLaid (terms played) stood tables before → AreEntered terms exports rules played stood tables members begun
      → AreLaid (terms played) stood begun.room.tables.items before × AreEntered terms exports rules played stood begun.room.tables.items members begun
  entered_there tables members begun before laid entered = (
    subst (λ z. AreLaid (terms played) stood z before) (sym entered.tables_are) laid,
    subst (λ z. AreEntered terms exports rules played stood z members begun) (sym entered.tables_are) entered,
  )

module _ {J : Type 0} (verdict : J → Net → Route → Verdict) (phase : PhaseTerms) (exports : ℕ → Exports) (standing : Standing J) (stands : Stands verdict phase exports standing) where
  pub can_enter_all : (actors : ℕ) (opened : Opened) (before : List (Vec JEntry Global)) → AreTablesOpen phase.setup standing.members.items actors standing.tables.items opened before
      → CanEnterAll verdict phase exports standing.tables.items opened.tables.items before opened.cursors.items opened.ports.items standing.members.items
  can_enter_all actors opened before open_tables = record {
    laid = record {
      count = stands.tables.count;
      tables_are = open_tables.tables;
      before_is = open_tables.before_is;
      begun = λ number table at. (stands_at phase.setup.tables standing.tables.items stands.tables number table at).1.begun;
    };
    told = ports_are verdict phase exports standing stands;
    held = stands.members;
    ports_are = open_tables.can.opened_is.ports;
    ports_count = open_tables.can.ports;
    cursors_are = open_tables.can.opened_is.cursors;
    cursors_count = open_tables.can.counts.cursors_are;
  }

  pub counts_are : (cursors : ℕ) → cursors ≡ length (channels phase.setup) → AreCounts phase.setup cursors standing.members.items
  counts_are cursors many = record { cursors_are = many; ports_are = ports_are verdict phase exports standing stands }
