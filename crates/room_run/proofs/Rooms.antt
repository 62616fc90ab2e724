-- From a phase that was opened to actors that can act and seats for starts, and from what all have
-- come to, to a room that was played.
use Rattle.std.proofs.Common.{◌≡◌, ◌+◌, ℕ, List, [], length, map, get_or, Some, sym, ap, subst, ◌∙◌, arith}
use Rattle.std.specs.Prelude.{slice_get}
use Rattle.std.specs.List.{All}
use Rattle.std.proofs.lemmas.List.{length-map}
use Rattle.std.proofs.lemmas.Option.{slice_get-get_or}
use Rattle.atomic_table.specs.Seated.{TableId}
use Rattle.attrs.specs.declared.judge.Verdict.{Verdict}
use Rattle.attrs.specs.declared.route.Route.{Route}
use Rattle.bits_ip.specs.Prefix.{Net}
use Rattle.core_machine.specs.Lines.{Act}
use Rattle.core_setup.proofs.PairLemmas.{get_here, get_one, get_within}
use Rattle.core_machine.specs.Rules.{Rules}
use Rattle.core_setup.specs.Setup.{Exports, Setup}
use Rattle.import_lock.specs.Terms.{PhaseTerms}
use Rattle.jour_rule.specs.declared.views.Terms.{Terms}
use Rattle.phase_legal.specs.Shown.{HandView}
use Rattle.phase_legal.specs.Turns.{AreStarts}
use Rattle.script_lines.specs.declared.script.Line.{Line}
use Rattle.show_route.specs.declared.query.Query.{Query}
use Rattle.phase_actors.specs.Acting.{IsDoing}
use Rattle.room_actors.specs.Script.{IsScript}
use Rattle.phase_actors.specs.declared.actor.Actor.{Actor}
use Rattle.phase_actors.proofs.Places.{get_map}
use Rattle.room_threads.specs.Acted.{IsReady}
use Rattle.room_threads.specs.Started.{HaveActed, acted_number, number_of}
use Rattle.room_threads.specs.declared.actor.Acted.{Acted}
use Rattle.phase_open.specs.declared.standing.StandingTable.{StandingTable}
use Rattle.phase_close.specs.Rooms.{HandsView}
use Rattle.phase_close.specs.Whole.{PassesView}
use Rattle.room_members.specs.Members.{IsRoom, room_seen, turns_of}
use Rattle.room_members.specs.declared.member.Member.{Member}
use Rattle.room_members.specs.declared.member.Member.TheVariants as member
use Rattle.room_members.specs.declared.room.Room.{Room}
use Rattle.room_open.specs.Opening.{IsOpenMember, IsOpening}
use Rattle.room_open.specs.declared.opening.Opening.{Opening}
use Rattle.room_open.specs.declared.standing.StandingMember.{StandingMember}
use Rattle.room_open.specs.declared.standing.StandingMember.TheVariants.{Own, Pipe}
use Rattle.room_ends.specs.declared.ended.RoomEnded.{RoomEnded}
use Rattle.room_ends.specs.Synced.{IsSynced}
use Rattle.room_run.specs.Inside.{AreAmong, AreDealt, AreNew, AreStartSeats, HaveAllActed, HaveStarted, actor_of}
use Rattle.room_ends.specs.Played.{IsPlayed, starts_of}
use Rattle.room_run.specs.declared.dealing.Dealt.{Dealt}

-- ---- as the phase begins

module _ {J P : Type 0} (terms : P → PhaseTerms) (exports : P → ℕ → Exports) (rules : P → Rules) (played : P) (tables : List StandingTable) where
  open_hands : (number : ℕ) (held : StandingMember J) (one : Member J P) → IsOpenMember terms exports rules played tables number held one → (turns_of terms one).1.opening ≡ (terms played).starter + 1
  open_hands number (Own held) (member.Own session) is = ap (λ (z : Terms ℕ). z.opening) is.turns
  open_hands number (Own held) (member.Pipe pipe) is = absurd is
  open_hands number (Pipe held) (member.Own session) is = absurd is
  open_hands number (Pipe held) (member.Pipe pipe) is = ap (λ (z : Terms ℕ). z.opening) is.turns

module _ {J P : Type 0} (terms : P → PhaseTerms) (exports : P → ℕ → Exports) (rules : P → Rules) (played : P) (tables : List StandingTable) (held : List (StandingMember J)) (opening : Opening J P) (o : IsOpening terms exports rules played tables held opening) where
  same_starter : (terms played).starter ≡ (terms opening.room.played.value).starter
  same_starter = ap (λ z. (terms z).starter) (sym o.played_is)

  turns_hands : (number : ℕ) (turns : TableId × Terms ℕ) → slice_get (room_seen terms opening.room).turns number ≡ Some turns → turns.1.opening ≡ (terms opening.room.played.value).starter + 1
  turns_hands number turns here =
      let all = opening.room.members.items in
      let inside = get_within (room_seen terms opening.room).turns number turns here in
      let many = length-map all (turns_of terms) in
      let one = get_here all number (omega (arith, inside, many)) in
      let count = o.members_count in
      let stood = get_here held number (omega (arith, inside, many, count)) in
      let same = get_one (room_seen terms opening.room).turns number (turns_of terms one.0) turns (get_map (turns_of terms) all number one.0 one.1) here in
      ap (λ (z : TableId × Terms ℕ). z.1.opening) (sym same) ∙ open_hands terms exports rules played tables number stood.0 one.0 (o.members_are number stood.0 one.0 stood.1 one.1)
      ∙ ap (λ n. n + 1) same_starter

  pub start_seats : AreStartSeats terms opening.room opening.starters.items opening.passes.items
  start_seats = record {
    hands_are = record {
      count = o.starters.count;
      each = λ number turns hand here at. record {
        journal_is = (o.starters.each number turns hand here at).0;
        number_is = (o.starters.each number turns hand here at).1 ∙ same_starter;
        hands_are = ap (λ (z : TableId × Terms ℕ). z.1.opening) (o.starters.each number turns hand here at).0 ∙ turns_hands number turns here;
      };
    };
    passes_are = o.passes;
  }

  pub have_not_started : HaveStarted (terms opening.room.played.value).starter (starts_of []) opening.starters.items
  have_not_started = λ number hand at.
      let inside = get_within opening.starters.items number hand at in
      let count = o.starters.count in
      let turns = get_here (room_seen terms opening.room).turns number (omega (arith, inside, count)) in
      let new = o.starters.each number turns.0 hand turns.1 at in
      record { number_is = new.1 ∙ same_starter; starts_alone = subst AreStarts (sym new.2) tt; count = ap length new.2 }

  pub are_new : AreNew terms opening.room opening.actors.items
  are_new = record {
    count = o.actors_count ∙ same_starter;
    each = λ k actor at. (
      (o.actors k actor at).0,
      subst (λ z. IsDoing (terms z).setup (room_seen terms opening.room) [] actor) (sym o.played_is) (o.actors k actor at).1,
    );
  }

-- ---- once all have acted

module _ {J P : Type 0} (terms : P → PhaseTerms) (exports : P → ℕ → Exports) (rules : P → Rules) (room : Room J P) where
  -- new actors can begin
  pub all_ready : (answers : Setup) (queries : List Query) (lines : List Line) (actors : List Actor) → IsRoom terms exports rules room → IsScript terms room queries lines → answers ≡ (terms room.played.value).setup
      → AreNew terms room actors → All (IsReady terms exports rules answers room queries lines) actors
  all_ready answers queries lines actors is script same are k d less = record {
    room_is = is;
    setup = same;
    script = script;
    new = (are.each k (get_or actors k d) (slice_get-get_or actors k d less)).1;
  }

  pub all_acted : (actors : List Actor) (all : List Acted) → AreNew terms room actors → HaveActed terms room (map number_of actors) all → HaveAllActed terms room all
  all_acted actors all are acted =
      let left = length-map all acted_number in
      let right = length-map actors number_of in
      let same = ap length acted.numbers_are in
      let count = are.count in record {
        count = omega (arith, left, right, same, count);
        numbers = λ k one at.
            let inside = get_within all k one at in
            let actor = get_here actors k (omega (arith, inside, left, right, same)) in
            get_one (map number_of actors) k one.actor.number actor.0.number (ap (λ z. slice_get z k) (sym acted.numbers_are) ∙ get_map acted_number all k one at) (get_map number_of actors k actor.0 actor.1)
            ∙ (are.each k actor.0 actor.1).0;
        each = acted.each;
      }

  module _ (verdict : J → Net → Route → Verdict) (all : List Acted) (starters : List HandView) (passes : PassesView) (dealt : Dealt) (acted : HaveAllActed terms room all) (seats : AreStartSeats terms room starters passes.items)
      (are : AreDealt terms room (map actor_of all) dealt) (among : AreAmong starters dealt.hands.items) where
    number_is : (number : ℕ) (actor : Actor) → slice_get (map actor_of all) number ≡ Some actor → actor.number ≡ number
    number_is number actor at =
        let inside = get_within (map actor_of all) number actor at in
        let many = length-map all actor_of in
        let one = get_here all number (omega (arith, inside, many)) in
        ap (λ (z : Actor). z.number) (get_one (map actor_of all) number actor one.0.actor at (get_map actor_of all number one.0 one.1)) ∙ acted.numbers number one.0 one.1

    starter_there : (number : ℕ) (list : HandsView) → slice_get dealt.hands.items number ≡ Some list → (hand : HandView) × (slice_get starters number ≡ Some hand)
    starter_there number list at =
        let inside = get_within dealt.hands.items number list at in
        let many = are.hands_are.count in
        let turns = length-map room.members.items (turns_of terms) in
        let count = seats.hands_are.count in
        get_here starters number (omega (arith, inside, many, turns, count))

    pub is_played : (ended : RoomEnded J) → IsSynced verdict terms exports rules room dealt.hands.items dealt.passes.items ended → (starts : List Act) → HaveStarted (terms room.played.value).starter starts starters
        → IsPlayed verdict terms exports rules room starts (record { ended = ended; told = dealt.told })
    is_played ended synced starts were = record {
      hands = dealt.hands.items;
      hands_count = are.hands_are.count;
      passes = dealt.passes.items;
      synced = synced;
      actors = map actor_of all;
      actors_count = length-map all actor_of ∙ acted.count;
      acted = λ number actor at. record {
        number_is = number_is number actor at;
        doing = (are.each number actor at).doing;
        hands_ended = (are.each number actor at).hands_among;
        passes_ended = (are.each number actor at).passes_among;
      };
      told = are.told;
      starters = λ number list at.
          let mine = starter_there number list at in
          (mine.0, among number mine.0 list mine.1 at, were number mine.0 mine.1);
    }
