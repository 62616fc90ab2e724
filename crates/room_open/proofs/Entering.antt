-- A protocol with routes of its own that enters a room whose tables begin with what stood.
use Rattle.std.proofs.Common.{◌≡◌, ℕ, ◌<◌, List, length, reverse, Option, Some, None, refl, sym, ap, subst, ◌∙◌}
use Rattle.std.specs.Prelude.{slice_get}
use Rattle.std.specs.declared.alloc.Global.{Global}
use Rattle.std.specs.declared.vec.Vec.{Vec}
use Rattle.attrs.specs.declared.journal.JEntry.{JEntry}
use Rattle.attrs.specs.declared.judge.Verdict.{Verdict}
use Rattle.attrs.specs.declared.route.Route.{Route}
use Rattle.bits_ip.specs.Prefix.{Net}
use Rattle.export_core.specs.Standing.{is_open}
use Rattle.export_core.specs.States.{State}
use Rattle.jour_rule.specs.Moves.{position_of}
use Rattle.jour_rule.specs.declared.views.Terms.{Terms}
use Rattle.jour.specs.Seats.{front, journal}
use Rattle.core_setup.specs.Protocols.{protocol_at}
use Rattle.core_setup.specs.Setup.{Exports, IsSetup, IsSource, Protocol, Setup, Source}
use Rattle.core_setup.proofs.PairLemmas.{get_one, get_within, other_here}
use Rattle.import_lock.specs.Terms.{PhaseTerms}
use Rattle.phase_actors.proofs.Places.{get_map}
use Rattle.phase_open.specs.Opening.{AreOpenChannels, IsOpenSession}
use Rattle.phase_open.specs.Standing.{AreStandingChannels, IsStandingChannel, IsStandingProtocol, table_stood}
use Rattle.phase_open.specs.declared.standing.StandingChannel.{StandingChannel}
use Rattle.phase_open.specs.declared.standing.StandingProtocol.{StandingProtocol}
use Rattle.phase_open.specs.declared.standing.StandingTable.{StandingTable}
use Rattle.phase_pipes.specs.Ports.{IsJoined, joined_opening}
use Rattle.phase_room.specs.Entering.{IsNewChannel, IsNewSession, StandsIn}
use Rattle.phase_room.specs.Opened.{IsCursorOf}
use Rattle.phase_room.specs.Parts.{IsChannelPart}
use Rattle.phase_room.specs.Rooms.{BeginsTable, IsOwnPort, TableTerms}
use Rattle.phase_room.specs.Sessions.{channel_terms}
use Rattle.phase_room.specs.Stands.{StandsChannel}
use Rattle.phase_room.specs.declared.parts.ChannelPart.{ChannelPart}
use Rattle.phase_room.specs.declared.session.Session.{Session}
use Rattle.table_shared.specs.Opening.{TableOpening}
use Rattle.room_open.specs.Laid.{AreLaid, CanEnter, CursorView, HasCursors, IsOpenPart, TableView}
use Rattle.room_open.specs.Opening.{IsOpenTable}
use Rattle.room_open.specs.declared.standing.StandingMember.TheVariants.{Own}

-- ---- a table by its number

module _ (phase : PhaseTerms) (stood : List StandingTable) (tables : List TableView) (before : List (Vec JEntry Global)) (laid : AreLaid phase stood tables before) (table : ℕ) (one : StandingTable) (at : slice_get stood table ≡ Some one) where
  -- the room's one
  pub table_here : (here : TableView) × (slice_get tables table ≡ Some here) × IsOpenTable phase table one here
  table_here = other_here (IsOpenTable phase) stood tables laid.tables_are table one at

  pub table_begins : BeginsTable (table_stood one) table_here.0.1
  table_begins = subst (BeginsTable (table_stood one)) (sym table_here.2.terms_are) (record { start = refl; family = refl; rows = refl })

  pub table_within : table < length tables
  table_within = get_within tables table table_here.0 table_here.1

  before_at : slice_get before table ≡ Some one.before
  before_at = ap (λ z. slice_get z table) laid.before_is ∙ get_map (λ (t : StandingTable). t.before) stood table one at

  pub before_within : table < length before
  before_within = get_within before table one.before before_at

  pub entries_are : (entries : Vec JEntry Global) → slice_get before table ≡ Some entries → entries ≡ one.before
  entries_are entries there = get_one before table entries one.before there before_at

-- ---- the channel of a protocol that has one

module _ {J : Type 0} (verdict : J → Net → Route → Verdict) (phase : PhaseTerms) (exports : ℕ → Exports) (stood : List StandingTable) (number : ℕ) (held : StandingProtocol J) (is : IsStandingProtocol verdict phase exports stood number held) where
  channel_of : (o : Option Exports) (channel : StandingChannel J) → AreStandingChannels verdict phase exports number (table_stood is.stood) o (Some channel) → (mine : Exports) × IsStandingChannel verdict phase exports number (table_stood is.stood) mine channel
  channel_of None channel are = absurd are
  channel_of (Some mine) channel are = (mine, are)

  pub channel_stands : (channel : StandingChannel J) → held.channel ≡ Some channel → (mine : Exports) × IsStandingChannel verdict phase exports number (table_stood is.stood) mine channel
  channel_stands channel e = channel_of is.source.exports channel (subst (λ z. AreStandingChannels verdict phase exports number (table_stood is.stood) is.source.exports z) e is.channels)

module _ {J : Type 0} (verdict : J → Net → Route → Verdict) (phase : PhaseTerms) (exports : ℕ → Exports) (stood : List StandingTable) (tables : List TableView) (before : List (Vec JEntry Global)) (cursors : List (Vec CursorView Global)) (number : ℕ) (held : StandingProtocol J)
    (can : CanEnter verdict phase exports stood tables before cursors number (Own held)) where
  abbrev pub is : IsStandingProtocol verdict phase exports stood number held
  is = can.held_is

  -- the room's table that it imports to
  abbrev pub home : (here : TableView) × (slice_get tables held.table ≡ Some here) × IsOpenTable phase held.table is.stood here
  home = table_here phase stood tables before can.laid held.table is.stood is.stood_is

  pub here_begins : IsJoined phase.setup is.source.table (table_stood is.stood) home.0.1
  here_begins = subst (λ n. IsJoined phase.setup n (table_stood is.stood) home.0.1) is.table_is home.2

  -- by the law of ports of protocols
  module _ (law : (setup : Setup) (number : ℕ) (protocol : Protocol) (source : Source) (stood : TableTerms) → IsSetup setup → protocol_at setup number ≡ Some protocol → protocol.body ≡ IsSource source → IsOwnPort number (joined_opening setup source.table stood)) where
    abbrev pub stands_in : StandsIn verdict phase tables number held.table held.importer
    stands_in = record {
      source = is.source;
      home_is = is.table_is;
      here = home.0;
      here_is = home.1;
      stood = table_stood is.stood;
      begins = table_begins phase stood tables before can.laid held.table is.stood is.stood_is;
      own_port = subst (λ (t : Terms TableOpening). IsOwnPort number t.opening) (sym here_begins.terms_are) (law phase.setup number is.stands.protocol is.source (table_stood is.stood) is.stands.setup is.stands.protocol_is is.stands.body);
      stands = is.stands;
    }

  pub own_before_within : held.table < length before
  own_before_within = before_within phase stood tables before can.laid held.table is.stood is.stood_is

  pub own_entries : (entries : Vec JEntry Global) → slice_get before held.table ≡ Some entries → entries ≡ is.stood.before
  own_entries = entries_are phase stood tables before can.laid held.table is.stood is.stood_is

  -- ---- with its channel

  module _ (channel : StandingChannel J) (e : held.channel ≡ Some channel) where
    list_here : HasCursors tables cursors channel.number
    list_here = can.cursors_are channel.number (channel, e, refl)

    pub list_there : (list : Vec CursorView Global) × (slice_get cursors channel.number ≡ Some list) × (held.table < length list.items)
    list_there =
        let inside = table_within phase stood tables before can.laid held.table is.stood is.stood_is in
        (list_here.0, list_here.1, subst (λ n. held.table < n) (sym list_here.2.count) inside)

    module _ (cursor : CursorView) (taken : (list : Vec CursorView Global) → slice_get cursors channel.number ≡ Some list → slice_get list.items held.table ≡ Some cursor) where
      pub cursor_is : IsCursorOf channel.number home.0 cursor
      cursor_is = list_here.2.each held.table home.0 cursor home.1 (taken list_here.0 list_here.1)

      pub part_is : (part : ChannelPart J) → IsOpenPart channel cursor part → IsChannelPart verdict phase (table_stood is.stood) home.0 exports number part
      part_is part made =
          let stands = (channel_stands verdict phase exports stood number held is channel e).1 in
          record {
            begun = can.laid.begun held.table is.stood is.stood_is;
            stands = subst (λ z. StandsChannel verdict phase number (exports part.number) (table_stood is.stood) z) (sym made.exporter)
                (subst (λ z. StandsChannel verdict phase number z (table_stood is.stood) channel.exporter) (sym (ap exports made.number ∙ stands.exports_are)) stands.stands);
            log = made.log ∙ sym (ap (λ (z : State J). z.log) made.exporter);
            cursor = ap journal made.cursor_is ∙ cursor_is.0;
            unread = ap (λ z. front z.1) made.cursor_is ∙ cursor_is.2;
            mode = made.mode ∙ sym (ap (λ (z : State J). is_open z.log) made.exporter);
            position = λ up. ap (λ z. position_of z.1.role) made.cursor_is ∙ cursor_is.3 ∙ ap (λ z. z.start) home.2.terms_are;
          }

      module _ (law : (setup : Setup) (number : ℕ) (protocol : Protocol) (source : Source) (stood : TableTerms) → IsSetup setup → protocol_at setup number ≡ Some protocol → protocol.body ≡ IsSource source → IsOwnPort number (joined_opening setup source.table stood)) where
        pub can_enter : (entries : Vec JEntry Global) → slice_get before held.table ≡ Some entries → (part : ChannelPart J) → IsOpenPart channel cursor part
            → (protocol : StandsIn verdict phase tables number held.table held.importer) × (protocol.stood.before ≡ entries.items) × IsChannelPart verdict phase protocol.stood protocol.here exports number part
        can_enter entries at part made = (stands_in law, ap (λ (z : Vec JEntry Global). z.items) (sym (own_entries entries at)), part_is part made)

-- ---- the session that it then has

module _ {J P : Type 0} (terms : P → PhaseTerms) (exports : P → ℕ → Exports) (played : P) (stood : List StandingTable) (number : ℕ) (held : StandingProtocol J) (session : Session J P) (new : IsNewSession terms (terms played).starter number held.table session) where
  open_with : AreOpenChannels terms exports played stood held.table held.channel (channel_terms exports session) → IsOpenSession terms exports played stood number held session
  open_with channels = record { table = new.table; port = new.port; turns = new.turns; channels = channels }

  pub static_open : held.channel ≡ None → channel_terms exports session ≡ None → IsOpenSession terms exports played stood number held session
  static_open none alone =
      open_with (subst (λ z. AreOpenChannels terms exports played stood held.table z (channel_terms exports session)) (sym none) (subst (λ z. AreOpenChannels {J = J} terms exports played stood held.table None z) (sym alone) tt))

  pub neighbour_open : (verdict : J → Net → Route → Verdict) (tables : List TableView) (before : List (Vec JEntry Global)) (cursors : List (Vec CursorView Global)) → CanEnter verdict (terms played) (exports played) stood tables before cursors number (Own held) → (channel : StandingChannel J) → held.channel ≡ Some channel
      → (cursor : CursorView) (part : ChannelPart J) → IsOpenPart channel cursor part → (entries : Vec JEntry Global) → slice_get before held.table ≡ Some entries → IsNewChannel (exports played) entries.items part (channel_terms exports session) → IsOpenSession terms exports played stood number held session
  neighbour_open verdict tables before cursors can channel e cursor part made entries at lock =
      let is : IsStandingProtocol verdict (terms played) (exports played) stood number held = can.held_is in
      open_with
      (subst (λ z. AreOpenChannels terms exports played stood held.table z (channel_terms exports session)) (sym e)
      (subst (λ z. AreOpenChannels terms exports played stood held.table (Some channel) z) (sym lock.1)
      (record {
        exports_are = ap (exports played) made.number;
        log = ap reverse made.log;
        stood = is.stood;
        stood_is = is.stood_is;
        before = ap (λ (z : Vec JEntry Global). z.items) (own_entries verdict (terms played) (exports played) stood tables before cursors number held can entries at);
      })))
