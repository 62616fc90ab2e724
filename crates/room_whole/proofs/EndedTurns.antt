-- The turns of each protocol of a phase that was played, and that the phase has ended as locks and
-- tables tell.
use Rattle.std.proofs.Common.{◌≡◌, ℕ, zero, suc, ◌<◌, ◌≤◌, List, [], ◌∷◌, ◌++◌, length, map, reverse, Some, None, refl, sym, ap, subst, ◌∙◌, arith}
use Rattle.std.specs.Prelude.{◌==◌, slice_get}
use Rattle.std.proofs.lemmas.List.{length-map}
use Rattle.atomic_table.specs.Seated.{TableId}
use Rattle.jour_rule.specs.Journal.{receipts}
use Rattle.jour_rule.specs.declared.views.Terms.{Terms}
use Rattle.jour.specs.Seats.{own}
use Rattle.core_machine.specs.Legal.{started}
use Rattle.core_machine.specs.Lines.{Turn, ops_of}
use Rattle.core_machine.specs.Rules.{changes}
use Rattle.core_setup.specs.Protocols.{table_at, table_in}
use Rattle.core_setup.proofs.Numbered.{beyond_none, none_some}
use Rattle.core_setup.proofs.PairLemmas.{get_here, get_one, get_within}
use Rattle.table_shared.specs.Opening.{TableOpening}
use Rattle.import_lock.specs.Terms.{PhaseTerms}
use Rattle.phase_legal.specs.Changes.{IsAlone}
use Rattle.phase_legal.specs.Ended.{AreTurns, HasEnded}
use Rattle.phase_legal.specs.Turns.{AreByHands, AreTurnsOf, turn_words, turns_told, words_in}
use Rattle.phase_actors.proofs.Places.{get_map}
use Rattle.phase_ends.proofs.Leaving.{by_option}
use Rattle.phase_open.specs.declared.standing.StandingProtocol.{StandingProtocol}
use Rattle.room_members.specs.Members.{port_of, turns_of}
use Rattle.room_members.specs.declared.member.Member.TheVariants as members
use Rattle.room_open.specs.declared.standing.StandingPipe.{StandingPipe}
use Rattle.room_whole.proofs.Asking.{named_none, started_none, starts_are}
use Rattle.room_whole.proofs.Choose.{chosen_none}
use Rattle.room_whole.proofs.Chosen.{Choice, HasTurnsOf, IsChoice, begun, by_protocol, choice, choose, no_choice, rest, turns_there}
use Rattle.room_whole.proofs.Given.{Given, entries_of, key_of, lines_of, phase_of, rules_in, said_of, seen_of, setup_of}
use Rattle.room_whole.proofs.Protocolled.{IsOfPipe, IsOfProtocol}
use Rattle.room_whole.proofs.Tabled.{known_table, no_table, table_starts}

-- a number that no item has is beyond all
pub beyond : {X : Type 0} (xs : List X) (i : ℕ) → slice_get xs i ≡ None → length xs ≤ i
beyond [] i none = omega arith
beyond (x ∷ xs) zero none = absurd (let bad : Some x ≡ None = none in cc)
beyond (x ∷ xs) (suc i) none = let rest = beyond xs i none in omega (arith, rest)

module _ {J P : Type 0} (g : Given J P) where
  pub record AreTurnsOfChoice (i : ℕ) (c : Choice) : Type 0 where
    pub turns : AreTurns (seen_of g) (phase_of g).starter c.begun c.rest
    pub asked : (actor : ℕ) → actor < (phase_of g).starter → AreTurnsOf actor i (reverse (lines_of g)) (receipts turns.start actor (c.begun ++ c.rest))
    pub starts : turns_told (lines_of g) c.begun ≡ started g.starts i

  module _ (i : ℕ) (c : Choice) (h : HasTurnsOf g i c) where
    -- the hands of an actor are among those that have ended
    asked_here : (actor : ℕ) → actor < (phase_of g).starter → AreTurnsOf actor i (reverse (lines_of g)) (receipts h.are.start actor (c.begun ++ c.rest))
    asked_here actor less =
        let count = g.played.actors_count in
        let a = get_here g.played.actors actor (omega (arith, less, count)) in
        let has = g.played.acted actor a.0 a.1 in
        let acting = has.doing.acting in
        let inside = get_within (seen_of g).turns i h.journal h.journal_at in
        let many = acting.hands_are.count in
        let hand = get_here a.0.hands.items i (omega (arith, inside, many)) in
        let here = acting.hands_are.each i h.journal hand.0 h.journal_at hand.1 in
        let item = has.hands_ended i hand.0 h.hands hand.1 h.hands_at in
        let mine : AreTurnsOf actor i (reverse (lines_of g)) (own hand.0.1) = subst (λ n. AreTurnsOf n i (reverse (lines_of g)) (own hand.0.1)) has.number_is (acting.said i hand.0 hand.1) in
        subst (λ n. AreTurnsOf actor i (reverse (lines_of g)) (receipts n actor (c.begun ++ c.rest))) (sym h.start) (h.said item.0 hand.0 item.1 actor (here.1 ∙ has.number_is) mine)

    turns_here : AreTurnsOfChoice i c
    turns_here =
        let t = h.are in
        let same : h.phase.starter ≡ (phase_of g).starter = ap (λ (z : PhaseTerms). z.starter) h.phase_is in
        record {
          turns = record {
            hands = subst (λ s. AreByHands (lines_of g) s (c.begun ++ c.rest)) same t.hands;
            starts = t.starts;
            start = t.start;
            ended = subst (λ s. words_in (receipts t.start s (c.begun ++ c.rest)) ≡ words_in (receipts t.start s c.begun)) same t.ended;
          };
          asked = asked_here;
          starts = starts_are (lines_of g) c.begun g.starts i t.starts g.begin (ap length h.begun_is ∙ h.has_started.count);
        }

  -- a protocol that isn't there has a number beyond all
  pub absent : (i : ℕ) → slice_get g.old.members.items i ≡ None → length (setup_of g).protocols ≤ i
  absent i none = let far = beyond g.old.members.items i none in let many = g.stands.count in omega (arith, far, many)

  turns_none : (i : ℕ) → slice_get g.old.members.items i ≡ None → AreTurnsOfChoice i no_choice
  turns_none i none = record {
    turns = record { hands = tt; starts = tt; start = 0; ended = refl };
    asked = λ actor less. sym (ap (λ (l : List ℕ). map turn_words (reverse l)) (named_none (length (setup_of g).protocols) actor i (lines_of g) g.few.names (absent i none)));
    starts = sym (started_none (length (setup_of g).protocols) i g.starts g.begins (absent i none));
  }

  pub turns_at : (i : ℕ) → AreTurnsOfChoice i (choice g i)
  turns_at i =
      by_option (slice_get g.old.members.items i) (AreTurnsOfChoice i (choice g i)) (λ held at. turns_here i (choice g i) (turns_there g i held at))
      (λ at. subst (AreTurnsOfChoice i) (sym (chosen_none g.old.members.items (IsChoice g) no_choice (choose g) i at)) (turns_none i at))

  -- ---- what is known of ports and operations before the phase

  pub many_turns : length (seen_of g).turns ≡ length g.old.members.items
  many_turns = length-map g.opening.room.members.items (turns_of g.terms) ∙ g.opens.members_count

  pub many_ports : length (seen_of g).ports ≡ length g.old.members.items
  many_ports = length-map g.opening.room.members.items (port_of g.terms) ∙ g.opens.members_count

  -- a pipe imports to no table
  pub pipe_home : (i : ℕ) (held : StandingPipe J) → IsOfPipe g i held → (rules_in g).table i ≡ length (setup_of g).tables
  pipe_home i held f = ap (table_at (length (setup_of g).tables)) f.standing.stands.protocol_is ∙ ap (table_in (length (setup_of g).tables)) f.standing.stands.body

  module _ (i port : ℕ) (table : TableId × Terms TableOpening) (at : slice_get (seen_of g).ports i ≡ Some port) (there : slice_get (seen_of g).tables ((rules_in g).table i) ≡ Some table) where
    own_alone : (held : StandingProtocol J) → IsOfProtocol g i held → IsAlone (λ num. num == i) table.1.opening port
    own_alone held f =
        let key = key_of g f.session in
        let port_is : key.port_number ≡ port = get_one (seen_of g).ports i key.port_number port (get_map (port_of g.terms) g.opening.room.members.items i (members.Own f.session) f.session_at) at in
        let table_is : key.port ≡ table = get_one (seen_of g).tables ((rules_in g).table i) key.port table (ap (slice_get (seen_of g).tables) f.is.home_is ∙ f.is.table) there in
        subst (λ (z : ℕ × TableOpening × ℕ). IsAlone (λ num. num == z.0) z.1 z.2) (λ j. (f.is.number_is j, (table_is j).1.opening, port_is j)) f.done.imports.terms.alone

    ports_alone : IsAlone (λ num. num == i) table.1.opening port
    ports_alone =
        by_protocol g i (IsAlone (λ num. num == i) table.1.opening port) (λ held held_at c. own_alone held c.facts)
        (λ held held_at c. none_some (sym (ap (slice_get (seen_of g).tables) (pipe_home i held c.facts) ∙ no_table g) ∙ there))
        (λ none same. absurd
        (let inside = get_within (seen_of g).ports i port at in
        let many = many_ports in
        let far = beyond g.old.members.items i none in
        omega (arith, inside, many, far)))

  pub has_ended : HasEnded (seen_of g) (phase_of g).starter (begun g) (rest g) (entries_of g) (said_of g) g.past.history
  has_ended = record {
    turns = λ i. (turns_at i).turns;
    beyond = λ i far.
        let many = many_turns in
        ap (λ (c : Choice). c.rest) (chosen_none g.old.members.items (IsChoice g) no_choice (choose g) i (beyond_none g.old.members.items i (omega (arith, far, many))));
    ports = many_ports ∙ sym many_turns;
    records = λ t table at. (known_table g t table at).records;
    starts = λ t table at. table_starts g t table (known_table g t table at);
    alone = ports_alone;
    exact = λ i. g.was.sound.exact i ∙ ap (λ (f : ℕ → List Turn). changes (rules_in g) i (ops_of (f i))) (sym g.same_past);
  }

  -- each actor's turns are those of its hands
  pub turned_by : (i actor : ℕ) → actor < (phase_of g).starter → AreTurnsOf actor i (reverse (lines_of g)) (receipts (has_ended.turns i).start actor (begun g i ++ rest g i))
  unfolding has_ended
  turned_by i actor less = (turns_at i).asked actor less
