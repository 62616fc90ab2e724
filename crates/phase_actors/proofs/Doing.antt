-- What an actor has done grows by a line.
use Rattle.std.proofs.Common.{◌≡◌, ℕ, ◌≤◌, List, [], ◌∷◌, ◌++◌, length, map, reverse, Some, refl, sym, ap, subst, ◌∙◌, arith}
use Rattle.std.specs.Prelude.{slice_get, ◌==◌}
use Rattle.std.proofs.lemmas.List.{map-append, reverse-append}
use Rattle.std.proofs.lemmas.List.Elements.{All-nil}
use Rattle.std.proofs.lemmas.Option.{slice_get_within}
use Rattle.jour_rule.specs.Journal.{receipts}
use Rattle.jour.specs.Seats.{front, number_of}
use Rattle.core_machine.specs.Lines.{Ask, Line, Show, ops_of}
use Rattle.core_machine.specs.Replies.{Question, latest, questions}
use Rattle.core_machine.proofs.Contents.{eqb_yes, if_true}
use Rattle.core_setup.specs.Setup.{Setup}
use Rattle.phase_legal.specs.Changes.{given}
use Rattle.phase_legal.specs.Shown.{AreGrown, AreTold, HandView, IsActing, IsGrown, IsSeen, IsTold, PassView, Room, start_of}
use Rattle.phase_legal.specs.Turns.{turns_told, words_in}
use Rattle.phase_actors.specs.Acting.{HasDone, HasSeats, replies_of, reply_of}
use Rattle.phase_actors.specs.Steps.{IsAnswered}
use Rattle.phase_actors.specs.Texts.{IsText}
use Rattle.phase_actors.specs.declared.actor.Told.{Told}
use Rattle.phase_actors.proofs.Places.{all_last, get_set, partner_back}
use Rattle.phase_actors.proofs.Growing.{all_grown_self, all_grown_set, grown_self, passes_on, seen_on}
use Rattle.phase_actors.proofs.Replying.{all_told_on, latest_below, texts_on}

-- one more reply
replies_more : (actor : ℕ) (told : List Told) (t : Told) → replies_of actor (told ++ t ∷ []) ≡ reply_of actor t ∷ replies_of actor told
replies_more actor told t = ap reverse (map-append (reply_of actor) told (t ∷ [])) ∙ reverse-append (map (reply_of actor) told) (reply_of actor t ∷ [])

module _ (setup : Setup) (room : Room) (actor : ℕ) where
  -- what was seen is seen by passes that have seen more
  seen_more : (done : List Line) (hands : List HandView) (passes passes_new : List PassView) → AreGrown passes passes_new → IsActing room actor done hands passes
      → (i port : ℕ) (hand : HandView) (pass : PassView) → slice_get room.ports i ≡ Some port → slice_get hands i ≡ Some hand → slice_get passes_new (room.rules.table i) ≡ Some pass → IsSeen room i port hand pass
  seen_more done hands passes passes_new grown acting i port hand pass port_at hand_at pass_at =
      let old = partner_back (λ (a b : PassView). IsGrown a b) passes passes_new (room.rules.table i) pass grown pass_at in
      seen_on room i port hand old.0 pass (grown.each (room.rules.table i) old.0 pass old.1 pass_at) (acting.seen i port hand old.0 port_at hand_at old.1)

  -- ---- a question

  module _ (done : List Line) (ask : Ask) (hands : List HandView) (passes passes_new : List PassView) (told : List Told) (t : Told)
      (mine : ask.actor ≡ actor) (table : ask.table ≡ t.table) (is : IsAnswered setup ask.query passes passes_new t) (d : HasDone setup room actor done hands passes told) where
    at_table : is.query.table ≡ ask.table
    at_table = sym (table ∙ is.table)

    grown : AreGrown passes passes_new
    grown = subst (AreGrown passes) (sym is.passes_are) (all_grown_set passes is.query.table is.pass is.pass_new is.pass_at is.pass_grown)

    new_at : slice_get passes_new is.query.table ≡ Some is.pass_new
    new_at = ap (λ z. slice_get z is.query.table) is.passes_are ∙ get_set passes is.query.table is.pass_new (slice_get_within passes is.query.table is.pass is.pass_at)

    now : IsActing room actor done hands passes_new
    now = record {
      hands_are = d.acting.hands_are;
      passes_are = passes_on room.tables passes passes_new grown d.acting.passes_are;
      said = d.acting.said;
      seen = seen_more done hands passes passes_new grown d.acting;
    }

    was : AreTold room actor hands passes_new (questions actor done) (replies_of actor told)
    was = all_told_on room actor hands hands passes passes_new (questions actor done) (replies_of actor told) (all_grown_self hands) grown d.replies

    abbrev question : Question
    question = record { ask = ask; lines = done }

    here : slice_get passes_new ask.table ≡ Some is.pass_new
    here = subst (λ z. slice_get passes_new z ≡ Some is.pass_new) at_table new_at

    answered : IsTold room actor hands passes_new question (reply_of actor t)
    answered = record {
      who = refl;
      table = sym table;
      query = is.number_is;
      hands_then = hands;
      passes_then = passes_new;
      acting = now;
      hands_grown = all_grown_self hands;
      passes_grown = all_grown_self passes_new;
      pass = is.pass_new;
      pass_at = here;
      position = is.position;
    }

    below : latest ask.table (start_of (slice_get room.tables ask.table)) (replies_of actor told) ≤ t.at
    below = subst (λ z. latest ask.table (start_of (slice_get room.tables ask.table)) (replies_of actor told) ≤ z) (sym is.position)
        (latest_below room actor hands passes_new ask.table is.pass_new (questions actor done) (replies_of actor told) now.passes_are here was)

    text : IsText setup passes_new t
    text = record {
      query = is.query;
      query_is = ap (slice_get setup.queries) is.number_is ∙ is.query_at;
      table = sym is.table;
      pass_then = is.pass_new;
      pass = is.pass_new;
      pass_at = subst (λ z. slice_get passes_new z ≡ Some is.pass_new) (sym is.table) new_at;
      grown = grown_self is.pass_new;
      position = is.position;
      text = is.text;
    }

    pub done_shown : HasDone setup room actor (Show ask ∷ done) hands passes_new (told ++ t ∷ [])
    done_shown =
        let asks : questions actor (Show ask ∷ done) ≡ question ∷ questions actor done = if_true (ask.actor == actor) (question ∷ questions actor done) (questions actor done) (eqb_yes ask.actor actor mine) in record {
          acting = record {
            hands_are = now.hands_are;
            passes_are = now.passes_are;
            said = now.said;
            seen = now.seen;
          };
          replies = subst (λ z. AreTold room actor hands passes_new z (replies_of actor (told ++ t ∷ []))) (sym asks)
              (subst (λ z. AreTold room actor hands passes_new (question ∷ questions actor done) z) (sym (replies_more actor told t)) (answered, below, was));
          texts = all_last (IsText setup passes_new) told t (texts_on setup passes passes_new told grown d.texts) text;
        }

  -- ---- before the first line

  pub done_nothing : (hands : List HandView) (passes : List PassView) → HasSeats room actor hands passes → ((i : ℕ) (hand : HandView) → slice_get hands i ≡ Some hand → front hand.1 ≡ [])
      → HasDone setup room actor [] hands passes []
  done_nothing hands passes seats none = record {
    acting = record {
      hands_are = seats.hands_are;
      passes_are = seats.passes_are;
      said = λ i hand at. ap (λ z. words_in (receipts hand.1.seen.terms.start (number_of hand.1.role) z)) (none i hand at);
      seen = λ i port hand pass port_at hand_at pass_at.
          subst (λ z. length (given room.rules i (ops_of (room.past i)) (ops_of (turns_told room.lines z))) ≤ length (receipts pass.1.seen.terms.start port (front pass.1))) (sym (none i hand hand_at)) (omega arith);
    };
    replies = tt;
    texts = All-nil (IsText setup passes);
  }
