-- A pipe that enters a room whose tables begin with what stood.
use Rattle.std.proofs.Common.{◌≡◌, ℕ, ◌<◌, inl, inr, List, [], ◌∷◌, length, reverse, Some, refl, sym, ap, subst, ◌∙◌}
use Rattle.std.specs.Prelude.{slice_get}
use Rattle.std.specs.declared.alloc.Global.{Global}
use Rattle.std.specs.declared.vec.Vec.{Vec}
use Rattle.attrs.specs.declared.journal.JEntry.{JEntry}
use Rattle.attrs.specs.declared.judge.Verdict.{Verdict}
use Rattle.attrs.specs.declared.route.Route.{Route}
use Rattle.bits_ip.specs.Prefix.{Net}
use Rattle.core_machine.specs.Rules.{Rules}
use Rattle.core_setup.specs.Channels.{Channel, channel_at}
use Rattle.core_setup.specs.Protocols.{protocol_at, rules_of}
use Rattle.core_setup.specs.Setup.{Exports, FitsBody, FitsPipe, IsPipe, IsSetup, Pipe as PlayedPipe, Protocol, Setup}
use Rattle.core_setup.proofs.Numbered.{protocol_is, some_same}
use Rattle.export_core.specs.Standing.{is_open}
use Rattle.export_core.specs.States.{State}
use Rattle.export_lock.specs.Lanes.{LaneTerms}
use Rattle.import_lock.specs.Terms.{PhaseTerms}
use Rattle.jour_rule.specs.Moves.{position_of}
use Rattle.jour_rule.specs.declared.views.Terms.{Terms}
use Rattle.jour.specs.Seats.{front, journal, number_of, own}
use Rattle.phase_legal.specs.Shown.{AreBeside}
use Rattle.phase_open.specs.Standing.{table_stood}
use Rattle.phase_open.specs.declared.standing.StandingChannel.{StandingChannel}
use Rattle.phase_open.specs.declared.standing.StandingTable.{StandingTable}
use Rattle.phase_pipes.specs.Parts.{ArePipeParts, IsDirectionPart, TableFound}
use Rattle.phase_pipes.specs.Ports.{EntersAlone, IsJoined, joined_opening}
use Rattle.phase_pipes.specs.Sessions.{IsNewLane, IsNewPipe, back_terms, out_terms}
use Rattle.phase_pipes.specs.Stands.{IsDirectionOf, StandsDirection}
use Rattle.phase_pipes.specs.declared.parts.DirectionPart.{DirectionPart}
use Rattle.phase_pipes.specs.declared.parts.PipePart.{PipePart}
use Rattle.phase_pipes.specs.declared.session.PipeSession.{PipeSession}
use Rattle.phase_room.specs.Opened.{IsCursorOf, IsPortOf}
use Rattle.phase_room.specs.Rooms.{TableTerms}
use Rattle.phase_room.specs.Stands.{StandsTable}
use Rattle.table_shared.specs.Opening.{TableOpening}
use Rattle.room_open.specs.Laid.{CanEnter, CursorView, HasCursors, IsOpenDirection, PortView, TableView}
use Rattle.room_open.specs.Lists.{AreOthers}
use Rattle.room_open.specs.Opening.{IsOpenLane, IsOpenPipe, IsOpenTable}
use Rattle.room_open.specs.Standing.{IsStandingDirection, IsStandingPipe}
use Rattle.room_open.specs.declared.standing.StandingMember.TheVariants.{Pipe}
use Rattle.room_open.specs.declared.standing.StandingPipe.{StandingPipe}
use Rattle.room_open.proofs.Entering.{before_within, entries_are, table_begins, table_here, table_within}

-- ---- a direction

module _ {J : Type 0} (verdict : J → Net → Route → Verdict) (phase : PhaseTerms) (exports : ℕ → Exports) (number reads writes : ℕ) (read written : TableFound) (held : StandingChannel J) (d : IsStandingDirection verdict phase exports number reads writes read.stood written.stood held) where
  pub direction_part : StandsTable read.stood → IsJoined phase.setup writes written.stood written.here.1
      → EntersAlone (rules_of phase.setup) held.number (joined_opening phase.setup writes written.stood) number
      → (cursor : CursorView) → IsCursorOf held.number read.here cursor → (port : PortView) → IsPortOf number written.here port
      → (part : DirectionPart J) → IsOpenDirection held cursor port part → IsDirectionPart verdict phase exports number read written part
  direction_part begun begins alone cursor cursor_is port port_is part made = record {
    begun = begun;
    stands = subst (λ z. StandsDirection verdict phase number part.number (exports part.number) read.stood written.stood z) (sym made.exporter)
        (subst (λ n. StandsDirection verdict phase number n (exports n) read.stood written.stood held.exporter) (sym made.number) d.stands);
    log = made.log ∙ sym (ap (λ (z : State J). z.log) made.exporter);
    cursor = ap journal made.cursor_is ∙ cursor_is.0;
    unread = ap (λ z. front z.1) made.cursor_is ∙ cursor_is.2;
    mode = made.mode ∙ sym (ap (λ (z : State J). is_open z.log) made.exporter);
    position = λ up. ap (λ z. position_of z.1.role) made.cursor_is ∙ cursor_is.3 ∙ read.begins.start;
    port = ap journal made.port_is ∙ port_is.0;
    port_number = ap (λ (z : PortView). number_of z.1.role) made.port_is ∙ port_is.1;
    unmade = ap (λ (z : PortView). own z.1) made.port_is ∙ port_is.2;
    enters = subst (λ n. EntersAlone (rules_of phase.setup) n written.here.1.opening number) (sym made.number)
        (subst (λ (t : Terms TableOpening). EntersAlone (rules_of phase.setup) held.number t.opening number) (sym begins.terms_are) alone);
  }

-- ---- both

module _ {J : Type 0} (verdict : J → Net → Route → Verdict) (phase : PhaseTerms) (exports : ℕ → Exports) (stood : List StandingTable) (tables : List TableView) (before : List (Vec JEntry Global)) (cursors : List (Vec CursorView Global)) (number : ℕ) (held : StandingPipe J)
    (can : CanEnter verdict phase exports stood tables before cursors number (Pipe held)) where
  abbrev pub pipe_is : IsStandingPipe verdict phase exports stood number held
  pipe_is = can.held_is

  fits : FitsPipe phase.setup.tables pipe_is.pipe
  fits = subst (FitsBody phase.setup.tables number) pipe_is.stands.body (protocol_is phase.setup number pipe_is.stands.protocol pipe_is.stands.setup pipe_is.stands.protocol_is)

  pub tables_apart : held.peer ≡ held.primary → ⊥
  tables_apart e = fits.apart (sym pipe_is.primary_is ∙ sym e ∙ pipe_is.peer_is)

  pub numbers_apart : held.back.number ≡ held.out.number → ⊥
  numbers_apart e =
      let o = pipe_is.out.of in
      let b = pipe_is.back.of in
      let same : o.channel ≡ b.channel = some_same (sym o.channel_is ∙ ap (channel_at phase.setup) (sym e) ∙ b.channel_is) in
      fits.apart (sym o.reads_is ∙ ap (λ (z : Channel). z.reads) same ∙ b.reads_is)

  -- ---- its tables

  abbrev pub primary_here : (here : TableView) × (slice_get tables held.primary ≡ Some here) × IsOpenTable phase held.primary pipe_is.primary here
  primary_here = table_here phase stood tables before can.laid held.primary pipe_is.primary pipe_is.primary_at

  abbrev pub peer_here : (here : TableView) × (slice_get tables held.peer ≡ Some here) × IsOpenTable phase held.peer pipe_is.peer here
  peer_here = table_here phase stood tables before can.laid held.peer pipe_is.peer pipe_is.peer_at

  abbrev pub primary_found : TableFound
  primary_found = record { stood = table_stood pipe_is.primary; here = primary_here.0; begins = table_begins phase stood tables before can.laid held.primary pipe_is.primary pipe_is.primary_at }

  abbrev pub peer_found : TableFound
  peer_found = record { stood = table_stood pipe_is.peer; here = peer_here.0; begins = table_begins phase stood tables before can.laid held.peer pipe_is.peer pipe_is.peer_at }

  primary_begins : IsJoined phase.setup pipe_is.pipe.primary (table_stood pipe_is.primary) primary_here.0.1
  primary_begins = subst (λ n. IsJoined phase.setup n (table_stood pipe_is.primary) primary_here.0.1) pipe_is.primary_is primary_here.2

  peer_begins : IsJoined phase.setup pipe_is.pipe.peer (table_stood pipe_is.peer) peer_here.0.1
  peer_begins = subst (λ n. IsJoined phase.setup n (table_stood pipe_is.peer) peer_here.0.1) pipe_is.peer_is peer_here.2

  pub primary_within : held.primary < length tables
  primary_within = table_within phase stood tables before can.laid held.primary pipe_is.primary pipe_is.primary_at

  pub peer_within : held.peer < length tables
  peer_within = table_within phase stood tables before can.laid held.peer pipe_is.peer pipe_is.peer_at

  pub primary_before : held.primary < length before
  primary_before = before_within phase stood tables before can.laid held.primary pipe_is.primary pipe_is.primary_at

  pub peer_before : held.peer < length before
  peer_before = before_within phase stood tables before can.laid held.peer pipe_is.peer pipe_is.peer_at

  pub primary_entries : (entries : Vec JEntry Global) → slice_get before held.primary ≡ Some entries → entries ≡ pipe_is.primary.before
  primary_entries = entries_are phase stood tables before can.laid held.primary pipe_is.primary pipe_is.primary_at

  pub peer_entries : (entries : Vec JEntry Global) → slice_get before held.peer ≡ Some entries → entries ≡ pipe_is.peer.before
  peer_entries = entries_are phase stood tables before can.laid held.peer pipe_is.peer pipe_is.peer_at

  -- ---- its cursors, of which that of the direction out is taken first

  out_list : HasCursors tables cursors held.out.number
  out_list = can.cursors_are held.out.number (inl refl)

  back_list : HasCursors tables cursors held.back.number
  back_list = can.cursors_are held.back.number (inr refl)

  pub out_there : (list : Vec CursorView Global) × (slice_get cursors held.out.number ≡ Some list) × (held.primary < length list.items)
  out_there = (out_list.0, out_list.1, subst (λ n. held.primary < n) (sym out_list.2.count) primary_within)

  pub out_cursor : (cursor : CursorView) → ((list : Vec CursorView Global) → slice_get cursors held.out.number ≡ Some list → slice_get list.items held.primary ≡ Some cursor) → IsCursorOf held.out.number primary_here.0 cursor
  out_cursor cursor taken = out_list.2.each held.primary primary_here.0 cursor primary_here.1 (taken out_list.0 out_list.1)

  module _ (now : List (Vec CursorView Global)) (others : AreOthers held.out.number cursors now) where
    back_at : slice_get now held.back.number ≡ Some back_list.0
    back_at = others.each held.back.number numbers_apart ∙ back_list.1

    pub back_there : (list : Vec CursorView Global) × (slice_get now held.back.number ≡ Some list) × (held.peer < length list.items)
    back_there = (back_list.0, back_at, subst (λ n. held.peer < n) (sym back_list.2.count) peer_within)

    pub back_cursor : (cursor : CursorView) → ((list : Vec CursorView Global) → slice_get now held.back.number ≡ Some list → slice_get list.items held.peer ≡ Some cursor) → IsCursorOf held.back.number peer_here.0 cursor
    back_cursor cursor taken = back_list.2.each held.peer peer_here.0 cursor peer_here.1 (taken back_list.0 back_at)

  -- ---- its parts, by the law of ports of directions

  module _ (law_out : (setup : Setup) (number out back : ℕ) (protocol : Protocol) (pipe : PlayedPipe) (stood : TableTerms) → IsSetup setup → protocol_at setup number ≡ Some protocol → protocol.body ≡ IsPipe pipe → (rules_of setup).belong number ≡ out ∷ back ∷ [] → IsDirectionOf setup number out pipe.primary pipe.peer → IsDirectionOf setup number back pipe.peer pipe.primary → EntersAlone (rules_of setup) out (joined_opening setup pipe.peer stood) number)
      (law_back : (setup : Setup) (number out back : ℕ) (protocol : Protocol) (pipe : PlayedPipe) (stood : TableTerms) → IsSetup setup → protocol_at setup number ≡ Some protocol → protocol.body ≡ IsPipe pipe → (rules_of setup).belong number ≡ out ∷ back ∷ [] → IsDirectionOf setup number out pipe.primary pipe.peer → IsDirectionOf setup number back pipe.peer pipe.primary → EntersAlone (rules_of setup) back (joined_opening setup pipe.primary stood) number)
      (ports : List PortView) (are : AreBeside (IsPortOf number) tables ports) (there here : PortView) (there_at : slice_get ports held.peer ≡ Some there) (here_at : slice_get ports held.primary ≡ Some here)
      (reader other : CursorView) (reader_is : IsCursorOf held.out.number primary_here.0 reader) (other_is : IsCursorOf held.back.number peer_here.0 other)
      (out back : DirectionPart J) (out_made : IsOpenDirection held.out reader there out) (back_made : IsOpenDirection held.back other here back) where
    out_part : IsDirectionPart verdict phase exports number primary_found peer_found out
    out_part = direction_part verdict phase exports number pipe_is.pipe.primary pipe_is.pipe.peer primary_found peer_found held.out pipe_is.out (can.laid.begun held.primary pipe_is.primary pipe_is.primary_at) peer_begins
        (law_out phase.setup number held.out.number held.back.number pipe_is.stands.protocol pipe_is.pipe (table_stood pipe_is.peer) pipe_is.stands.setup pipe_is.stands.protocol_is pipe_is.stands.body pipe_is.belong pipe_is.out.of pipe_is.back.of) reader reader_is there
        (are.each held.peer peer_here.0 there peer_here.1 there_at) out out_made

    back_part : IsDirectionPart verdict phase exports number peer_found primary_found back
    back_part = direction_part verdict phase exports number pipe_is.pipe.peer pipe_is.pipe.primary peer_found primary_found held.back pipe_is.back (can.laid.begun held.peer pipe_is.peer pipe_is.peer_at) primary_begins
        (law_back phase.setup number held.out.number held.back.number pipe_is.stands.protocol pipe_is.pipe (table_stood pipe_is.primary) pipe_is.stands.setup pipe_is.stands.protocol_is pipe_is.stands.body pipe_is.belong pipe_is.out.of pipe_is.back.of) other other_is here
        (are.each held.primary primary_here.0 here primary_here.1 here_at) back back_made

    abbrev pub part_with : ℕ → PipePart
    part_with n = record { number = n; primary = held.primary; peer = held.peer; up = held.up }

    parts_here : ArePipeParts verdict phase exports primary_found peer_found (part_with number) out back
    parts_here = record {
      pipe = pipe_is.pipe;
      stands = pipe_is.stands;
      primary_is = pipe_is.primary_is;
      peer_is = pipe_is.peer_is;
      belong = pipe_is.belong ∙ ap (λ z. z ∷ held.back.number ∷ []) (sym out_made.number) ∙ ap (λ z. out.number ∷ z ∷ []) (sym back_made.number);
      out_of = subst (λ n. IsDirectionOf phase.setup number n pipe_is.pipe.primary pipe_is.pipe.peer) (sym out_made.number) pipe_is.out.of;
      back_of = subst (λ n. IsDirectionOf phase.setup number n pipe_is.pipe.peer pipe_is.pipe.primary) (sym back_made.number) pipe_is.back.of;
      out_is = out_part;
      back_is = back_part;
    }

    pub tables_at : (slice_get tables held.primary ≡ Some (journal out.cursor.0)) × (slice_get tables held.peer ≡ Some (journal back.cursor.0))
    tables_at = (primary_here.1 ∙ ap Some (sym out_part.cursor), peer_here.1 ∙ ap Some (sym back_part.cursor))

    pub pipe_enters : (n : ℕ) → n ≡ number → (primary peer : Vec JEntry Global) → slice_get before held.primary ≡ Some primary → slice_get before held.peer ≡ Some peer
        → (here : TableFound) × (there : TableFound) × (here.stood.before ≡ primary.items) × (there.stood.before ≡ peer.items) × ArePipeParts verdict phase exports here there (part_with n) out back
    pipe_enters n same primary peer primary_at peer_at = (
      primary_found,
      peer_found,
      ap (λ (z : Vec JEntry Global). z.items) (sym (primary_entries primary primary_at)),
      ap (λ (z : Vec JEntry Global). z.items) (sym (peer_entries peer peer_at)),
      subst (λ m. ArePipeParts verdict phase exports primary_found peer_found (part_with m) out back) (sym same) parts_here,
    )

-- ---- the session that it then has

module _ {J P : Type 0} (terms : P → PhaseTerms) (exports : P → ℕ → Exports) (rules : P → Rules) (played : P) (stood : List StandingTable) where
  lane_open : (table : ℕ) (held : StandingChannel J) (one : StandingTable) → slice_get stood table ≡ Some one → (cursor : CursorView) (port : PortView) (part : DirectionPart J) → IsOpenDirection held cursor port part
      → (entries : Vec JEntry Global) → entries ≡ one.before → (lane : LaneTerms) → IsNewLane (exports played) (rules played) entries.items part lane → IsOpenLane {J = J} terms exports rules played stood table held lane
  lane_open table held one at cursor port part made entries same lane new =
      subst (λ z. IsOpenLane {J = J} terms exports rules played stood table held z) (sym new.1)
      (record {
        number = made.number;
        channel = record {
          exports_are = ap (exports played) made.number;
          log = ap reverse made.log;
          stood = one;
          stood_is = at;
          before = ap (λ (z : Vec JEntry Global). z.items) same;
        };
      })

  pub pipe_open : (verdict : J → Net → Route → Verdict) (tables : List TableView) (before : List (Vec JEntry Global)) (cursors : List (Vec CursorView Global)) (number : ℕ) (held : StandingPipe J) → CanEnter verdict (terms played) (exports played) stood tables before cursors number (Pipe held)
      → (there here : PortView) (reader other : CursorView) (out back : DirectionPart J) → IsOpenDirection held.out reader there out → IsOpenDirection held.back other here back
      → (n : ℕ) → n ≡ number → (primary peer : Vec JEntry Global) → slice_get before held.primary ≡ Some primary → slice_get before held.peer ≡ Some peer
      → (session : PipeSession J P) → IsNewPipe terms exports rules played n held.primary held.peer session → IsNewLane (exports played) (rules played) primary.items out (out_terms exports rules session) → IsNewLane (exports played) (rules played) peer.items back (back_terms exports rules session)
      → IsOpenPipe terms exports rules played stood number held session
  pipe_open verdict tables before cursors number held can there here reader other out back out_made back_made n same primary peer primary_at peer_at session new out_lane back_lane =
      let is : IsStandingPipe verdict (terms played) (exports played) stood number held = can.held_is in record {
        primary = new.primary_is;
        peer = new.peer_is;
        turns = new.turns;
        out_port = new.out_port ∙ same;
        back_port = new.back_port ∙ same;
        out = lane_open held.primary held.out is.primary is.primary_at reader there out out_made primary (primary_entries verdict (terms played) (exports played) stood tables before cursors number held can primary primary_at) (out_terms exports rules session) out_lane;
        back = lane_open held.peer held.back is.peer is.peer_at other here back back_made peer (peer_entries verdict (terms played) (exports played) stood tables before cursors number held can peer peer_at) (back_terms exports rules session) back_lane;
      }
