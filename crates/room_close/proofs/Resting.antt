-- That all is at rest at the last heads of the tables, once all ports of a room have ended there.
use Rattle.std.proofs.Common.{◌≡◌, ◌≤◌, ◌+◌, ℕ, true, inl, inr, List, length, Some, None, refl, sym, ap, subst, ◌∙◌, arith}
use Rattle.std.specs.Prelude.{IfSome, Option, slice_get}
use Rattle.std.specs.List.{AllByRecursion}
use Rattle.atomic_table.specs.Seated.{TableId}
use Rattle.attrs.specs.declared.journal.JEntry.{JEntry}
use Rattle.attrs.specs.declared.judge.Verdict.{Verdict}
use Rattle.attrs.specs.declared.route.Change.{Change}
use Rattle.attrs.specs.declared.route.Route.{Route}
use Rattle.bits_ip.specs.Prefix.{Net}
use Rattle.core_machine.specs.Rules.{Rules}
use Rattle.core_setup.specs.Setup.{Exports}
use Rattle.core_setup.proofs.Numbered.{all_at}
use Rattle.core_setup.proofs.PairLemmas.{get_here, get_one, get_within}
use Rattle.export_core.specs.Calls.{IsAtRest}
use Rattle.export_core.specs.Standing.{is_open}
use Rattle.export_core.specs.States.{State}
use Rattle.export_lock.specs.Lanes.{LaneTerms}
use Rattle.export_lock.specs.Terms.{ExportTerms}
use Rattle.export_lock.specs.declared.lane.PipeLane.{PipeLane}
use Rattle.export_lock.specs.declared.state.ExportState.{ExportState}
use Rattle.import_core.specs.declared.operation.Op.{Op}
use Rattle.import_lock.specs.Terms.{ImportTerms, PhaseTerms}
use Rattle.jour_rule.specs.declared.views.Entry.{Entry}
use Rattle.jour_rule.specs.declared.views.Terms.{Terms}
use Rattle.jour_rule.specs.declared.views.View.{View as Seat}
use Rattle.jour.specs.Seats.{head_of}
use Rattle.phase_close.specs.Closed.{AreHeard, EndsOver, TableList}
use Rattle.phase_close.specs.Left.{AreChannelsLeft}
use Rattle.phase_close.specs.Rooms.{HandsView, IsLeftOf}
use Rattle.phase_close.specs.Whole.{PassesView, entries_at, entries_in}
use Rattle.phase_close.specs.declared.seats.SessionEnded.{SessionEnded}
use Rattle.phase_close.specs.declared.session.SessionLeft.{SessionLeft}
use Rattle.phase_legal.specs.Shown.{AreBeside}
use Rattle.phase_pipes.specs.Sessions.{IsDirectionIn, IsPipeSession, back_terms, out_terms, pipe_terms}
use Rattle.phase_pipes.specs.declared.session.PipeSession.{PipeSession}
use Rattle.phase_room.specs.Sessions.{IsChannelOf, IsSession, channel_terms, protocol_terms}
use Rattle.phase_room.specs.declared.session.Session.{Session}
use Rattle.pipe_close.specs.Ended.{EndsPipe, IsHeardLane}
use Rattle.pipe_close.specs.Left.{IsLaneLeft}
use Rattle.pipe_close.specs.declared.close.PipeLeft.{PipeLeft}
use Rattle.pipe_close.specs.declared.end.PipeEnded.{PipeEnded}
use Rattle.pipe_lock.specs.Terms.{DirectionTerms, PipeTerms, ops_told}
use Rattle.pipe_rest.specs.Heads.{AreHeads, HasRead, HasReadOf, IsBelow as IsBelowHeads, PipeIsBelow, PipeHasRead, RestsAt, head_at}
use Rattle.pipe_rest.specs.declared.member.MemberLeft.{MemberLeft}
use Rattle.pipe_rest.specs.declared.member.MemberLeft.TheVariants as lefts
use Rattle.pipe_turns.specs.Ends.{AreBelow, IsBelow}
use Rattle.room_ends.specs.Ended.{EndsMember, IsRoomEnded}
use Rattle.room_close.specs.Inside.{EndsAtRest}
use Rattle.room_ends.specs.Left.{AreHandsOf, AreMembersLeft, IsMemberLeft, IsPipeLeftOf}
use Rattle.room_ends.specs.Synced.{IsSettled, IsSettledMember, IsSynced, end_of}
use Rattle.room_ends.specs.declared.ended.MemberEnded.{MemberEnded}
use Rattle.room_ends.specs.declared.ended.MemberEnded.TheVariants as ends
use Rattle.room_ends.specs.declared.ended.RoomEnded.{RoomEnded}
use Rattle.room_close.proofs.Known.{KnowSources, all_are_left}
use Rattle.room_members.specs.Members.{IsMember, IsRoom}
use Rattle.room_members.specs.Ports.{HasPorts, Writes}
use Rattle.room_members.specs.declared.member.Member.{Member}
use Rattle.room_members.specs.declared.member.Member.TheVariants as members
use Rattle.room_members.specs.declared.room.Room.{Room}
use Rattle.table_shared.specs.Opening.{TableOpening}
use Rattle.table_shared.specs.Phases.{IsHeard, IsRetired as IsPortRetired}
use Rattle.table_shared.specs.Records.{AreRecords, at_first}

-- what a law says of what is up and at rest
abbrev pub KnowEnds : Type 0 → Type 0
KnowEnds J =
    (heads : List ℕ) (table : ℕ) (terms : Terms TableOpening) (list : List Entry) (said : List JEntry) (state : ExportState J) → AreRecords terms.opening (at_first terms.opening) list said → AreBelow terms list (head_at heads table) → IsHeard terms list state.cursor.0.1
    → terms.start ≤ state.exporter.position → RestsAt (head_at heads table) state → is_open state.exporter.log ≡ true → IsAtRest state.exporter (terms.start + length list)

-- ---- over one table

module _ (tables : List (TableId × Terms TableOpening)) (lists : List TableList) (heads : List ℕ) (t : ℕ) (l : TableList) (at : slice_get tables t ≡ Some l.0) (there : slice_get lists t ≡ Some l) where
  abbrev Below : (port : ℕ) → Type 0
  Below port = (seat : TableId × Seat TableOpening) × IsBelow l.0.1 l.1 (head_at heads t) port seat

  module _ {J : Type 0} (verdict : J → Net → Route → Verdict) where
    own_below : {P : Type 0} (terms : P → PhaseTerms) (exports : P → ℕ → Exports) (phase : PhaseTerms) (number port : ℕ) (session : Session J P) (hands : HandsView) (left : SessionLeft J) (ended : SessionEnded J)
        → IsSession phase tables number session.table (protocol_terms terms session) (channel_terms exports session) → IsLeftOf terms exports verdict session hands left → EndsOver verdict lists left ended → head_of left.port.1 ≤ head_at heads left.table
        → (session.table ≡ t) × ((protocol_terms terms session).port_number ≡ port) → Below port
    own_below terms exports phase number port session hands left ended s is ends low writes =
        let home = is.table ∙ writes.0 in
        let imports = is.left_is.imports in
        let same = get_one tables t (protocol_terms terms session).port l.0 (ap (slice_get tables) (sym writes.0) ∙ s.table) at in (
          left.port,
          record {
            number_is = imports.port_number ∙ writes.1;
            here = ap (λ (z : TableId × Terms TableOpening). z.1) (imports.port_is ∙ same);
            retired = ends.3 l (ap (slice_get lists) home ∙ there);
            seen = subst (λ n. head_of left.port.1 ≤ head_at heads n) home low;
          },
        )

    lane_below : (pipe : PipeTerms) (reads writes number port : ℕ) (direction : DirectionTerms) (key : LaneTerms) (ops : List Op) (lane : PipeLane J) → IsDirectionIn pipe tables reads writes direction key → IsLaneLeft verdict pipe direction key ops lane → writes ≡ t → number ≡ writes → key.port_number ≡ port
        → IsPortRetired lane.port.1.seen.terms (entries_at lists number) lane.port → head_of lane.port.1 ≤ head_at heads number → Below port
    lane_below pipe reads writes number port direction key ops lane d left home one same_port retired low =
        let place = one ∙ home in
        let is = left.lane_is.1 in
        let same = get_one tables t key.target l.0 (ap (slice_get tables) (sym home) ∙ d.written) at in
        let here = ap (λ (z : TableId × Terms TableOpening). z.1) (is.port ∙ same) in
        let entries = ap (entries_at lists) place ∙ ap entries_in there in (
          lane.port,
          record {
            number_is = is.port_number ∙ same_port;
            here = here;
            retired = subst (λ (z : Terms TableOpening × List Entry). IsPortRetired z.0 z.1 lane.port) (λ j. (here j, entries j)) retired;
            seen = subst (λ n. head_of lane.port.1 ≤ head_at heads n) place low;
          },
        )

    pipe_below : {P : Type 0} (terms : P → PhaseTerms) (exports : P → ℕ → Exports) (rules : P → Rules) (phase : PhaseTerms) (number port : ℕ) (pipe : PipeSession J P) (hands : HandsView) (left : PipeLeft J) (ended : PipeEnded J)
        → IsPipeSession phase tables number pipe.primary pipe.peer (pipe_terms terms pipe) (out_terms exports rules pipe) (back_terms exports rules pipe) → IsPipeLeftOf terms exports rules verdict pipe hands left → EndsPipe verdict lists left ended → PipeIsBelow heads left
        → Writes terms exports rules (members.Pipe pipe) t port → Below port
    pipe_below terms exports rules phase number port pipe hands left ended s is ends low (inl writes) =
        let key = pipe_terms terms pipe in
        lane_below key pipe.primary pipe.peer left.peer port key.out (out_terms exports rules pipe) (ops_told key is.left_is.list) left.out s.out_is is.left_is.out writes.0 is.peer writes.1 ends.out_port low.0
    pipe_below terms exports rules phase number port pipe hands left ended s is ends low (inr writes) =
        let key = pipe_terms terms pipe in
        lane_below key pipe.peer pipe.primary left.primary port key.back (back_terms exports rules pipe) (ops_told key is.left_is.list) left.back s.back_is is.left_is.back writes.0 is.primary writes.1 ends.back_port low.1

    member_below : {P : Type 0} (terms : P → PhaseTerms) (exports : P → ℕ → Exports) (rules : P → Rules) (phase : PhaseTerms) (number port : ℕ) (hands : HandsView) (member : Member J P) (left : MemberLeft J) (ended : MemberEnded J) → IsMember terms exports rules phase tables number member
        → IsMemberLeft terms exports rules verdict member hands left → EndsMember verdict lists left ended → IsBelowHeads heads left → Writes terms exports rules member t port → Below port
    member_below terms exports rules phase number port hands (members.Own session) (lefts.Own left) (ends.Own ended) s is e low writes = own_below terms exports phase number port session hands left ended s is e low writes
    member_below terms exports rules phase number port hands (members.Pipe pipe) (lefts.Pipe left) (ends.Pipe ended) s is e low writes = pipe_below terms exports rules phase number port pipe hands left ended s is e low writes
    member_below terms exports rules phase number port hands (members.Own session) (lefts.Pipe left) ended s is e low writes = absurd is
    member_below terms exports rules phase number port hands (members.Pipe pipe) (lefts.Own left) ended s is e low writes = absurd is
    member_below terms exports rules phase number port hands (members.Own session) (lefts.Own left) (ends.Pipe ended) s is e low writes = absurd e
    member_below terms exports rules phase number port hands (members.Pipe pipe) (lefts.Pipe left) (ends.Own ended) s is e low writes = absurd e

  -- ---- what reads the table is settled, where all its ports have seen no more than the head

  module _ {J : Type 0} (know : KnowEnds J) (said : List JEntry) (records : AreRecords l.0.1.opening (at_first l.0.1.opening) l.1 said) (below : AreBelow l.0.1 l.1 (head_at heads t)) where
    state_settled : (state : ExportState J) (exporter : State J) → exporter ≡ state.exporter → IsHeard l.0.1 l.1 state.cursor.0.1 → (is_open state.exporter.log ≡ true → l.0.1.start ≤ state.exporter.position) → RestsAt (head_at heads t) state
        → IsSettled (end_of (slice_get lists t)) exporter
    state_settled state exporter same heard least rests =
        subst (λ (z : Option TableList × State J). IsSettled (end_of z.0) z.1) (λ j. (sym there j, sym same j))
        (λ up. know heads t l.0.1 l.1 said state records below heard (least up) rests up)

    module _ (verdict : J → Net → Route → Verdict) where
      channel_settled : (key : ImportTerms) (list : List Entry) (made : List (ℕ × Change)) (lock : Option ExportTerms) (channel : Option (ExportState J)) (exporter : Option (State J)) → key.port ≡ l.0 → IsChannelOf key lock → AreChannelsLeft verdict key list made lock channel → AreHeard l.0.1 l.1 channel exporter
          → HasReadOf heads t channel → IfSome exporter (IsSettled (end_of (slice_get lists t)))
      channel_settled key list made lock None None same of left heard read = tt
      channel_settled key list made lock None (Some e) same of left heard read = absurd heard
      channel_settled key list made lock (Some s) None same of left heard read = absurd heard
      channel_settled key list made None (Some s) (Some e) same of left heard read = absurd left
      channel_settled key list made (Some lock) (Some s) (Some e) same of left heard read =
          state_settled s e heard.0 heard.1 (λ up. subst (λ (z : TableId × Terms TableOpening). z.1.start ≤ s.exporter.position) (of.table ∙ same) (left.exports.least up)) read

      lane_settled : (pipe : PipeTerms) (writes : ℕ) (direction : DirectionTerms) (key : LaneTerms) (ops : List Op) (lane : PipeLane J) (exporter : State J) → IsDirectionIn pipe tables t writes direction key → IsLaneLeft verdict pipe direction key ops lane → IsHeardLane lists t lane exporter
          → RestsAt (head_at heads t) lane.state → IsSettled (end_of (slice_get lists t)) exporter
      lane_settled pipe writes direction key ops lane exporter d left heard rests =
          let exporting = left.lane_is.1.direction.exporting in
          let same = d.lane_is.table ∙ get_one tables t direction.table l.0 d.read at in
          let here = ap (λ (z : TableId × Terms TableOpening). z.1) (exporting.here ∙ same) in
          let entries = ap entries_in there in
          state_settled lane.state exporter heard.exporter_is
          (subst (λ (z : Terms TableOpening × List Entry). IsHeard z.0 z.1 lane.state.cursor.0.1) (λ j. (here j, entries j)) heard.heard)
          (λ up. subst (λ (z : TableId × Terms TableOpening). z.1.start ≤ lane.state.exporter.position) same (exporting.least up)) rests

-- ---- over the tables of a room

module _ {J P : Type 0} (terms : P → PhaseTerms) (exports : P → ℕ → Exports) (rules : P → Rules) (verdict : J → Net → Route → Verdict) (room : Room J P) (is : IsRoom terms exports rules room) (ports : HasPorts terms exports rules room) (ends_known : KnowEnds J) (hands : List HandsView)
    (hands_are : AreBeside (AreHandsOf terms) room.members.items hands) (left : List (MemberLeft J)) (are : AreMembersLeft terms exports rules verdict room.members.items hands left) (passes : List PassesView) (ended : RoomEnded J) (over : IsRoomEnded verdict room.tables.items left passes ended) (heads : List ℕ)
    (heads_are : AreHeads (length room.tables.items) left heads) (read : AllByRecursion (HasRead heads) left) where
  abbrev phase : PhaseTerms
  phase = terms room.played.value

  abbrev tables : List (TableId × Terms TableOpening)
  tables = room.tables.items

  abbrev lists : List TableList
  lists = over.lists

  list_at : (t : ℕ) (table : TableId × Terms TableOpening) → slice_get tables t ≡ Some table → (entries : List Entry) × (slice_get lists t ≡ Some (table, entries))
  list_at t table at =
      let inside = get_within tables t table at in
      let count = over.tables_are.count in
      let l = get_here lists t (omega (arith, inside, count)) in
      (l.0.1, l.1 ∙ ap (λ z. Some (z, l.0.1)) (over.tables_are.each t table l.0 at l.1))

  has_records : (t : ℕ) (l : TableList) → slice_get lists t ≡ Some l → (said : List JEntry) × AreRecords l.0.1.opening (at_first l.0.1.opening) l.1 said
  has_records t l there =
      let inside = get_within lists t l there in
      let count = over.phases.count in
      let made = get_here ended.phases.items t (omega (arith, inside, count)) in
      (made.0.entries, (over.phases.each t l made.0 there made.1).records)

  are_below : (t : ℕ) (l : TableList) → slice_get tables t ≡ Some l.0 → slice_get lists t ≡ Some l → AreBelow l.0.1 l.1 (head_at heads t)
  are_below t l at there = λ port num has.
      let found = ports.each t l.0 at port num has in
      let inside = get_within room.members.items port found.0 found.1 in
      let count = are.count in
      let many = hands_are.count in
      let all = over.members.count in
      let own = get_here hands port (omega (arith, inside, many)) in
      let a = get_here left port (omega (arith, inside, count)) in
      let e = get_here ended.members.items port (omega (arith, inside, count, all)) in
      member_below tables lists heads t l at there verdict terms exports rules phase port port own.0 found.0 a.0 e.0 (is.members port found.0 found.1) (are.each port found.0 a.0 found.1 a.1 own.0 own.1) (over.members.each port a.0 e.0 a.1 e.1) (all_at (IsBelowHeads heads) left port a.0 heads_are.below a.1) found.2

  own_settled : (number : ℕ) (session : Session J P) (own : HandsView) (a : SessionLeft J) (e : SessionEnded J) → IsSession phase tables number session.table (protocol_terms terms session) (channel_terms exports session) → IsLeftOf terms exports verdict session own a → EndsOver verdict lists a e
      → HasReadOf heads a.table a.channel → IfSome e.exporter (IsSettled (end_of (slice_get lists e.table)))
  own_settled number session own a e s is_left ends done =
      let key = protocol_terms terms session in
      let t = session.table in
      let found = list_at t key.port s.table in
      let l : TableList = (key.port, found.0) in
      let records = has_records t l found.1 in
      let i = is_left.left_is in
      subst (λ n. IfSome e.exporter (IsSettled (end_of (slice_get lists n)))) (sym (ends.0 ∙ is_left.table))
      (channel_settled tables lists heads t l s.table found.1 ends_known records.0 records.1 (are_below t l s.table found.1) verdict key i.list i.made (channel_terms exports session) a.channel e.exporter refl s.channel_is i.channels
      (ends.2 l (ap (slice_get lists) is_left.table ∙ found.1)) (subst (λ n. HasReadOf heads n a.channel) is_left.table done))

  lane_at_rest : (pipe : PipeTerms) (reads writes first last : ℕ) (direction : DirectionTerms) (key : LaneTerms) (ops : List Op) (lane : PipeLane J) (exporter : State J) → first ≡ reads → last ≡ first → IsDirectionIn pipe tables reads writes direction key → IsLaneLeft verdict pipe direction key ops lane
      → IsHeardLane lists first lane exporter → RestsAt (head_at heads first) lane.state → IsSettled (end_of (slice_get lists last)) exporter
  lane_at_rest pipe reads writes first last direction key ops lane exporter one two d lane_left heard done =
      let found = list_at reads direction.table d.read in
      let l : TableList = (direction.table, found.0) in
      let records = has_records reads l found.1 in
      subst (λ n. IsSettled (end_of (slice_get lists n)) exporter) (sym (two ∙ one))
      (lane_settled tables lists heads reads l d.read found.1 ends_known records.0 records.1 (are_below reads l d.read found.1) verdict pipe writes direction key ops lane exporter d lane_left
      (subst (λ n. IsHeardLane lists n lane exporter) one heard) (subst (λ n. RestsAt (head_at heads n) lane.state) one done))

  pipe_settled : (number : ℕ) (pipe : PipeSession J P) (own : HandsView) (a : PipeLeft J) (e : PipeEnded J) → IsPipeSession phase tables number pipe.primary pipe.peer (pipe_terms terms pipe) (out_terms exports rules pipe) (back_terms exports rules pipe) → IsPipeLeftOf terms exports rules verdict pipe own a
      → EndsPipe verdict lists a e → PipeHasRead heads a → IsSettledMember lists (ends.Pipe e)
  pipe_settled number pipe own a e s is_left ends done =
      let key = pipe_terms terms pipe in
      let i = is_left.left_is in
      let ops = ops_told key i.list in (
        lane_at_rest key pipe.primary pipe.peer a.primary e.primary key.out (out_terms exports rules pipe) ops a.out e.out is_left.primary ends.primary_is s.out_is i.out ends.out done.0,
        lane_at_rest key pipe.peer pipe.primary a.peer e.peer key.back (back_terms exports rules pipe) ops a.back e.back is_left.peer ends.peer_is s.back_is i.back ends.back done.1,
      )

  member_settled : (number : ℕ) (own : HandsView) (member : Member J P) (a : MemberLeft J) (e : MemberEnded J) → IsMember terms exports rules phase tables number member → IsMemberLeft terms exports rules verdict member own a → EndsMember verdict lists a e → HasRead heads a → IsSettledMember lists e
  member_settled number own (members.Own session) (lefts.Own a) (ends.Own e) s is_left f done = own_settled number session own a e s is_left f done
  member_settled number own (members.Pipe pipe) (lefts.Pipe a) (ends.Pipe e) s is_left f done = pipe_settled number pipe own a e s is_left f done
  member_settled number own (members.Own session) (lefts.Pipe a) e s is_left f done = absurd is_left
  member_settled number own (members.Pipe pipe) (lefts.Own a) e s is_left f done = absurd is_left
  member_settled number own (members.Own session) (lefts.Own a) (ends.Pipe e) s is_left f done = absurd f
  member_settled number own (members.Pipe pipe) (lefts.Pipe a) (ends.Own e) s is_left f done = absurd f

  pub all_settled : (number : ℕ) (e : MemberEnded J) → slice_get ended.members.items number ≡ Some e → IsSettledMember lists e
  all_settled number e at =
      let inside = get_within ended.members.items number e at in
      let count = are.count in
      let many = hands_are.count in
      let all = over.members.count in
      let a = get_here left number (omega (arith, inside, all)) in
      let member = get_here room.members.items number (omega (arith, inside, all, count)) in
      let own = get_here hands number (omega (arith, inside, all, count, many)) in
      member_settled number own.0 member.0 a.0 e (is.members number member.0 member.1) (are.each number member.0 a.0 member.1 a.1 own.0 own.1) (over.members.each number a.0 e a.1 at) (all_at (HasRead heads) left number a.0 read a.1)

pub is_synced : {J P : Type 0} (terms : P → PhaseTerms) (exports : P → ℕ → Exports) (rules : P → Rules) (verdict : J → Net → Route → Verdict) (room : Room J P) → IsRoom terms exports rules room → HasPorts terms exports rules room → KnowSources → KnowEnds J → (hands : List HandsView)
    → AreBeside (AreHandsOf terms) room.members.items hands → (left : List (MemberLeft J)) → AreMembersLeft terms exports rules verdict room.members.items hands left → (passes : List PassesView) (ended : RoomEnded J) → EndsAtRest verdict room.tables.items room.sources.items left passes ended
    → IsSynced verdict terms exports rules room hands passes ended
is_synced terms exports rules verdict room is ports sources known hands hands_are left are passes ended ends =
    let later = all_are_left terms exports rules verdict room is sources hands hands_are left are ends.later ends.goes in
    record {
      lefts = ends.later;
      left = later;
      over = ends.over;
      settled = all_settled terms exports rules verdict room is ports known hands hands_are ends.later later passes ended ends.over ends.heads ends.heads_are ends.read;
    }
