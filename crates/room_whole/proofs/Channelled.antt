-- What is known of each channel of a phase that was played: of a channel to a neighbour (`IsOfChannel`)
-- and of a direction of a pipe (`IsOfDirection`), and what its log has more than the one that stood.
use Rattle.std.proofs.Common.{◌≡◌, ℕ, ◌⊎◌, inl, inr, true, false, List, [], ◌∷◌, ◌++◌, length, reverse, Option, Some, None, refl, sym, ap, subst, ◌∙◌, arith, is_some}
use Rattle.std.specs.Prelude.{◌==◌, ◌||◌, slice_get}
use Rattle.std.proofs.lemmas.Bool.{false≢true}
use Rattle.std.proofs.lemmas.Bool.Decides.{eqb_tells}
use Rattle.export_core.specs.Candidates.{among}
use Rattle.export_core.specs.States.{State}
use Rattle.export_core.specs.declared.log.LogItem.{LogItem}
use Rattle.core_machine.specs.Rules.{AreApart}
use Rattle.core_setup.specs.Channels.{Channel, channel_at}
use Rattle.core_setup.specs.Protocols.{exports_of as exports_set, table_in}
use Rattle.core_setup.specs.Setup.{Exports, IsSource, Protocol}
use Rattle.core_setup.proofs.Numbered.{Belongs, channel_belongs, channel_listed, itself_is, none_some, some_same}
use Rattle.core_setup.proofs.PairLemmas.{get_here, get_one, get_within}
use Rattle.export_lock.specs.Lanes.{LaneTerms}
use Rattle.export_lock.specs.Terms.{ExportTerms}
use Rattle.pipe_lock.specs.Terms.{DirectionTerms, ops_told}
use Rattle.phase_room.specs.Rooms.{TableTerms}
use Rattle.phase_room.specs.Sessions.{IsChannelOf}
use Rattle.phase_room.specs.Together.{AreTogether}
use Rattle.phase_pipes.specs.Sessions.{IsDirectionIn, back_terms, out_terms}
use Rattle.phase_close.specs.Closed.{AreChannelsEnded, IsChannelEnded}
use Rattle.phase_close.specs.Whole.{entries_at}
use Rattle.phase_open.specs.Opening.{AreOpenChannels, IsOpenChannel}
use Rattle.phase_open.specs.Standing.{AreStandingChannels, IsStandingChannel, table_stood}
use Rattle.phase_open.specs.declared.standing.StandingChannel.{StandingChannel}
use Rattle.phase_open.specs.declared.standing.StandingProtocol.{StandingProtocol}
use Rattle.pipe_close.specs.Ended.{IsLaneEnded}
use Rattle.room_open.specs.Opening.{IsOpenLane}
use Rattle.room_open.specs.Standing.{IsStandingDirection}
use Rattle.room_open.specs.declared.standing.StandingMember.{StandingMember}
use Rattle.room_open.specs.declared.standing.StandingMember.TheVariants as standing
use Rattle.room_open.specs.declared.standing.StandingPipe.{StandingPipe}
use Rattle.room_ends.specs.Synced.{IsSettled, end_of}
use Rattle.room_ends.specs.declared.ended.MemberEnded.{MemberEnded}
use Rattle.room_ends.specs.declared.ended.MemberEnded.TheVariants as ends
use Rattle.room_whole.proofs.Given.{Given, exports_of, key_of, lists_of, lock_of, phase_of, pipe_of, setup_of}
use Rattle.room_whole.proofs.OneChannel.{one_channel}
use Rattle.room_whole.proofs.Protocolled.{IsOfPipe, IsOfProtocol, known, known_pipe}

none_in : (o : Option ℕ) → is_some o ≡ false → o ≡ None
none_in None e = refl
none_in (Some x) e = absurd (false≢true (sym e))

among_two : (c d e : ℕ) → among c (d ∷ e ∷ []) ≡ true → (d ≡ c) ⊎ (e ≡ c)
among_two c d e h = elim (eqb_tells d c) [
  | inl w ↦ inl w.1
  | inr w ↦ elim (eqb_tells e c) [
    | inl v ↦ inr v.1
    | inr v ↦ absurd (let bad : false ≡ true = sym (ap (λ b. b || ((e == c) || false)) w.0 ∙ ap (λ b. b || false) v.0) ∙ h in cc)
  ]
]

-- two numbers that stand apart aren't one
never_both : {A : Type 0} (c d e : ℕ) → AreApart (d ∷ e ∷ []) → d ≡ c → e ≡ c → A
never_both c d e apart here there = absurd (false≢true (sym apart.0 ∙ ap (λ n. (n == d) || false) (there ∙ sym here) ∙ ap (λ b. b || false) (itself_is d)))

-- the exporter with which a channel of a member has ended
abbrev pub EndsWith : {J : Type 0} → StandingMember J → StandingChannel J → MemberEnded J → State J → Type 0
EndsWith (standing.Own held) stood (ends.Own ended) exporter = (held.channel ≡ Some stood) × (ended.exporter ≡ Some exporter)
EndsWith (standing.Pipe held) stood (ends.Pipe ended) exporter = ((held.out ≡ stood) × (ended.out ≡ exporter)) ⊎ ((held.back ≡ stood) × (ended.back ≡ exporter))
EndsWith _ stood _ exporter = ⊥

module _ {J P : Type 0} (g : Given J P) where
  -- a protocol's channel to its neighbour
  pub record IsOfChannel (c : ℕ) (channel : Channel) (held : StandingProtocol J) (facts : IsOfProtocol g channel.owner held) : Type 0 where
    pub stood : StandingChannel J
    pub stood_is : held.channel ≡ Some stood
    pub standing : IsStandingChannel g.verdict (phase_of g) (exports_of g) channel.owner (table_stood facts.standing.stood) channel.exports stood
    pub number : stood.number ≡ c
    pub lock : ExportTerms
    pub begins : IsOpenChannel g.terms g.exports g.opening.room.played.value g.old.tables.items held.table stood lock
    pub together : AreTogether (key_of g facts.session) lock
    pub exporter : State J
    pub exporter_is : facts.ended.exporter ≡ Some exporter
    pub ended : IsChannelEnded g.verdict (key_of g facts.session) facts.done.list facts.done.made (entries_at (lists_of g) facts.session.table) lock exporter
    pub target : channel.target ≡ None
    pub reads : channel.reads ≡ facts.session.table

  -- a direction of a pipe
  pub record IsOfDirection (c : ℕ) (channel : Channel) (held : StandingPipe J) (facts : IsOfPipe g channel.owner held) : Type 0 where
    pub stood : StandingChannel J
    pub number : stood.number ≡ c
    pub reads : ℕ
    pub writes : ℕ
    pub exports_are : exports_of g c ≡ exports_set (setup_of g) c channel
    pub door : DirectionTerms
    pub lane : LaneTerms
    pub is : IsDirectionIn (pipe_of g facts.session) g.opening.room.tables.items reads writes door lane
    pub door_is : door.number ≡ c
    pub begins : IsOpenChannel g.terms g.exports g.opening.room.played.value g.old.tables.items reads stood lane.exports
    pub exporter : State J
    pub ended : IsLaneEnded g.verdict (lists_of g) reads writes (pipe_of g facts.session) door lane (ops_told (pipe_of g facts.session) facts.done.list) exporter
    pub settled : IsSettled (end_of (slice_get (lists_of g) reads)) exporter
    pub side : EndsWith (standing.Pipe held) stood (ends.Pipe facts.ended) exporter

  module _ (c : ℕ) (channel : Channel) (at : channel_at (setup_of g) c ≡ Some channel) where
    belongs : Belongs (setup_of g) channel
    belongs = channel_belongs (setup_of g) c channel g.stands.setup at

    -- ---- of a protocol with routes of its own

    module _ (held : StandingProtocol J) (facts : IsOfProtocol g channel.owner held) where
      body_is : belongs.protocol.body ≡ IsSource facts.standing.source
      body_is =
          ap (λ (p : Protocol). p.body) (get_one (setup_of g).protocols channel.owner belongs.protocol facts.standing.stands.protocol belongs.there facts.standing.stands.protocol_is)
          ∙ facts.standing.stands.body

      by_parts : (mine : Option Exports) (stood : Option (StandingChannel J)) (lock : Option ExportTerms) (exporter : Option (State J)) → mine ≡ Some channel.exports
          → AreStandingChannels g.verdict (phase_of g) (exports_of g) channel.owner (table_stood facts.standing.stood) mine stood → AreOpenChannels g.terms g.exports g.opening.room.played.value g.old.tables.items held.table stood lock
          → IsChannelOf (key_of g facts.session) lock → AreChannelsEnded g.verdict (key_of g facts.session) facts.done.list facts.done.made (entries_at (lists_of g) facts.session.table) lock exporter
          → held.channel ≡ stood → facts.ended.exporter ≡ exporter → IsOfChannel c channel held facts
      by_parts None stood lock exporter m standing begins together ended h e = none_some m
      by_parts (Some x) None lock exporter m standing begins together ended h e = absurd standing
      by_parts (Some x) (Some y) None exporter m standing begins together ended h e = absurd begins
      by_parts (Some x) (Some y) (Some z) None m standing begins together ended h e = absurd ended
      by_parts (Some x) (Some y) (Some z) (Some w) m standing begins together ended h e =
          let here : IsStandingChannel g.verdict (phase_of g) (exports_of g) channel.owner (table_stood facts.standing.stood) channel.exports y =
          subst (λ (q : Exports). IsStandingChannel g.verdict (phase_of g) (exports_of g) channel.owner (table_stood facts.standing.stood) q y) (some_same m) standing in
          let target : channel.target ≡ None = none_in channel.target (sym belongs.every ∙ here.stands.neighbour) in
          record {
            stood = y;
            stood_is = h;
            standing = here;
            number = one_channel (setup_of g) channel.owner belongs.protocol facts.standing.source belongs.there body_is y.number c here.channel channel here.channel_is at here.owner refl;
            lock = z;
            begins = begins;
            together = together;
            exporter = w;
            exporter_is = e;
            ended = ended;
            target = target;
            reads = belongs.own target ∙ ap (table_in (length (setup_of g).tables)) body_is ∙ sym facts.standing.table_is ∙ sym facts.begins.table;
          }

      pub channel_of : IsOfChannel c channel held facts
      channel_of =
          by_parts facts.standing.source.exports held.channel (lock_of g facts.session) facts.ended.exporter (belongs.sends facts.standing.source body_is) facts.standing.channels facts.begins.channels facts.is.channel_is facts.done.channels refl refl

    -- ---- of a pipe

    module _ (held : StandingPipe J) (facts : IsOfPipe g channel.owner held) where
      -- one of its two directions
      module _ (stood : StandingChannel J) (exporter : State J) (side : EndsWith (standing.Pipe held) stood (ends.Pipe facts.ended) exporter) (number : stood.number ≡ c) (door : DirectionTerms) (lane : LaneTerms) (reads writes : ℕ)
          (is : IsDirectionIn (pipe_of g facts.session) g.opening.room.tables.items reads writes door lane) where
        direction_by : (from to : ℕ) (read written : TableTerms) → IsStandingDirection g.verdict (phase_of g) (exports_of g) channel.owner from to read written stood
            → (held_at : ℕ) → reads ≡ held_at → IsOpenLane g.terms g.exports g.rules g.opening.room.played.value g.old.tables.items held_at stood lane
            → (ended_reads ended_writes : ℕ) → ended_reads ≡ reads → ended_writes ≡ writes
            → IsLaneEnded g.verdict (lists_of g) ended_reads ended_writes (pipe_of g facts.session) door lane (ops_told (pipe_of g facts.session) facts.done.list) exporter
            → IsSettled (end_of (slice_get (lists_of g) ended_reads)) exporter → IsOfDirection c channel held facts
        direction_by from to read written d held_at same begins ended_reads ended_writes one two ended settled =
            let here : d.of.channel ≡ channel = get_one_channel d.of.channel (ap (channel_at (setup_of g)) (sym number) ∙ d.of.channel_is) in
            record {
              stood = stood;
              number = number;
              reads = reads;
              writes = writes;
              exports_are = ap (exports_of g) (sym number) ∙ d.exports_are ∙ (λ j. exports_set (setup_of g) (number j) (here j));
              door = door;
              lane = lane;
              is = is;
              door_is = sym is.number_is ∙ begins.number ∙ number;
              begins = subst (λ t. IsOpenChannel g.terms g.exports g.opening.room.played.value g.old.tables.items t stood lane.exports) (sym same) begins.channel;
              exporter = exporter;
              ended = subst (λ (z : ℕ × ℕ). IsLaneEnded g.verdict (lists_of g) z.0 z.1 (pipe_of g facts.session) door lane (ops_told (pipe_of g facts.session) facts.done.list) exporter) (λ j. (one j, two j)) ended;
              settled = subst (λ t. IsSettled (end_of (slice_get (lists_of g) t)) exporter) one settled;
              side = side;
            }
          where
            get_one_channel : (other : Channel) → channel_at (setup_of g) c ≡ Some other → other ≡ channel
            get_one_channel other e = some_same (sym e ∙ at)

      pub direction_of : IsOfDirection c channel held facts
      direction_of =
          let listed : among c (held.out.number ∷ held.back.number ∷ []) ≡ true = sym (ap (among c) facts.standing.belong) ∙ channel_listed (setup_of g) c channel at in
          let s = facts.standing in
          let settled = g.played.synced.settled channel.owner (ends.Pipe facts.ended) facts.ended_at in
          elim (among_two c held.out.number held.back.number listed) [
            | inl number ↦
                direction_by held.out facts.ended.out (inl (refl, refl)) number (pipe_of g facts.session).out (out_terms g.exports g.rules facts.session) facts.session.primary facts.session.peer facts.is.out_is
                s.pipe.primary s.pipe.peer (table_stood s.primary) (table_stood s.peer) s.out held.primary facts.begins.primary facts.begins.out facts.ended.primary facts.ended.peer facts.primary facts.peer facts.done.out settled.0
            | inr number ↦
                direction_by held.back facts.ended.back (inr (refl, refl)) number (pipe_of g facts.session).back (back_terms g.exports g.rules facts.session) facts.session.peer facts.session.primary facts.is.back_is
                s.pipe.peer s.pipe.primary (table_stood s.peer) (table_stood s.primary) s.back held.peer facts.begins.peer facts.begins.back facts.ended.peer facts.ended.primary facts.peer facts.primary facts.done.back settled.1
          ]

      -- there is no other one of its number
      pub one_side : (stood other : StandingChannel J) (exporter last : State J) → stood.number ≡ c → other.number ≡ c → EndsWith (standing.Pipe held) stood (ends.Pipe facts.ended) exporter → EndsWith (standing.Pipe held) other (ends.Pipe facts.ended) last → (stood ≡ other) × (exporter ≡ last)
      one_side stood other exporter last n m a b =
          let apart : AreApart (held.out.number ∷ held.back.number ∷ []) = subst AreApart facts.standing.belong (g.ruled.once channel.owner) in
          elim a [
            | inl x ↦ elim b [
              | inl y ↦ (sym x.0 ∙ y.0, sym x.1 ∙ y.1)
              | inr y ↦ never_both c held.out.number held.back.number apart (ap (λ (z : StandingChannel J). z.number) x.0 ∙ n) (ap (λ (z : StandingChannel J). z.number) y.0 ∙ m)
            ]
            | inr x ↦ elim b [
              | inl y ↦ never_both c held.out.number held.back.number apart (ap (λ (z : StandingChannel J). z.number) y.0 ∙ m) (ap (λ (z : StandingChannel J). z.number) x.0 ∙ n)
              | inr y ↦ (sym x.0 ∙ y.0, sym x.1 ∙ y.1)
            ]
          ]

    -- its protocol is there
    owner_here : (held : StandingMember J) × (slice_get g.old.members.items channel.owner ≡ Some held)
    owner_here =
        let inside = get_within (setup_of g).protocols channel.owner belongs.protocol belongs.there in
        let many = g.stands.count in
        get_here g.old.members.items channel.owner (omega (arith, inside, many))

    -- of either kind
    pub by_owner : (Q : Type 0) → ((held : StandingProtocol J) → slice_get g.old.members.items channel.owner ≡ Some (standing.Own held) → Q) → ((held : StandingPipe J) → slice_get g.old.members.items channel.owner ≡ Some (standing.Pipe held) → Q) → Q
    by_owner Q own pipe = by owner_here.0 owner_here.1
      where
        by : (held : StandingMember J) → slice_get g.old.members.items channel.owner ≡ Some held → Q
        by (standing.Own held) there = own held there
        by (standing.Pipe held) there = pipe held there

  -- ---- what logs have more

  -- what an exporter's log has more than before, whatever is known of the channel's protocol
  abbrev pub AreItems : ℕ → Channel → List LogItem → Type 0
  AreItems c channel items =
      (held : StandingMember J) (stood : StandingChannel J) (ended : MemberEnded J) (exporter : State J) → slice_get g.old.members.items channel.owner ≡ Some held → slice_get g.made.ended.members.items channel.owner ≡ Some ended
      → EndsWith held stood ended exporter → stood.number ≡ c → items ++ reverse stood.exporter.log ≡ reverse exporter.log

  module _ (c : ℕ) (channel : Channel) (at : channel_at (setup_of g) c ≡ Some channel) where
    own_items : (held : StandingProtocol J) → slice_get g.old.members.items channel.owner ≡ Some (standing.Own held) → (items : List LogItem) × AreItems c channel items
    own_items mine mine_at =
        let facts = known g channel.owner mine mine_at in
        let of = channel_of c channel at mine facts in
        let more = of.ended.left.exports.log in (
          more.0,
          λ held stood ended exporter held_at ended_at with number.
              let same_held : held ≡ standing.Own mine = get_one g.old.members.items channel.owner held (standing.Own mine) held_at mine_at in
              let same_ended : ended ≡ ends.Own facts.ended = get_one g.made.ended.members.items channel.owner ended (ends.Own facts.ended) ended_at facts.ended_at in
              let here : EndsWith (standing.Own mine) stood (ends.Own facts.ended) exporter = subst (λ (z : StandingMember J × MemberEnded J). EndsWith z.0 stood z.1 exporter) (λ j. (same_held j, same_ended j)) with in
              let same_stood : stood ≡ of.stood = some_same (sym here.0 ∙ of.stood_is) in
              let same_exporter : of.exporter ≡ exporter = some_same (sym of.exporter_is ∙ here.1) in
              ap (λ (z : StandingChannel J). more.0 ++ reverse z.exporter.log) same_stood
              ∙ ap (λ (l : List LogItem). more.0 ++ l) (sym of.begins.log)
              ∙ more.1
              ∙ ap (λ (e : State J). reverse e.log) (sym of.ended.exporter_is ∙ same_exporter),
        )

    pipe_items : (held : StandingPipe J) → slice_get g.old.members.items channel.owner ≡ Some (standing.Pipe held) → (items : List LogItem) × AreItems c channel items
    pipe_items mine mine_at =
        let facts = known_pipe g channel.owner mine mine_at in
        let of = direction_of c channel at mine facts in
        let more = of.ended.left.lane_is.1.direction.exporting.log in (
          more.0,
          λ held stood ended exporter held_at ended_at with number.
              let same_held : held ≡ standing.Pipe mine = get_one g.old.members.items channel.owner held (standing.Pipe mine) held_at mine_at in
              let same_ended : ended ≡ ends.Pipe facts.ended = get_one g.made.ended.members.items channel.owner ended (ends.Pipe facts.ended) ended_at facts.ended_at in
              let here : EndsWith (standing.Pipe mine) stood (ends.Pipe facts.ended) exporter = subst (λ (z : StandingMember J × MemberEnded J). EndsWith z.0 stood z.1 exporter) (λ j. (same_held j, same_ended j)) with in
              let same = one_side c channel at mine facts stood of.stood exporter of.exporter number of.number here of.side in
              ap (λ (z : StandingChannel J). more.0 ++ reverse z.exporter.log) same.0
              ∙ ap (λ (l : List LogItem). more.0 ++ l) (sym of.begins.log)
              ∙ more.1
              ∙ ap (λ (e : State J). reverse e.log) (sym of.ended.exporter_is ∙ sym same.1),
        )

    pub items_here : (items : List LogItem) × AreItems c channel items
    items_here = by_owner c channel at ((items : List LogItem) × AreItems c channel items) own_items pipe_items
