-- What an actor was told stays right as its seats grow, and no reply stands above its pass.
use Rattle.std.proofs.Common.{◌≡◌, ℕ, ◌≤◌, inl, inr, List, [], ◌∷◌, Some, sym, ap, ◌∙◌, arith}
use Rattle.std.specs.Prelude.{slice_get, ◌==◌}
use Rattle.std.specs.List.{All}
use Rattle.std.proofs.lemmas.Bool.Decides.{eqb_tells}
use Rattle.jour.specs.Seats.{head_of}
use Rattle.core_machine.specs.Lines.{Reply}
use Rattle.core_machine.specs.Replies.{Question, latest}
use Rattle.core_machine.proofs.Contents.{if_false, if_true}
use Rattle.core_setup.specs.Setup.{Setup}
use Rattle.phase_legal.specs.Shown.{AreBeside, AreGrown, AreTold, HandView, IsGrown, IsTold, PassView, Room, start_of}
use Rattle.phase_actors.specs.Acting.{IsPassOf}
use Rattle.phase_actors.specs.Texts.{IsText}
use Rattle.phase_actors.specs.declared.actor.Told.{Told}
use Rattle.phase_actors.proofs.Places.{all_weaker, partner, partner_back}
use Rattle.phase_actors.proofs.Growing.{all_grown_then, grown_head, grown_then}

text_on : (setup : Setup) (old new : List PassView) → AreGrown old new → (told : Told) → IsText setup old told → IsText setup new told
text_on setup old new grown told is =
    let pass = partner (λ (a b : PassView). IsGrown a b) old new told.table is.pass grown is.pass_at in record {
      query = is.query;
      query_is = is.query_is;
      table = is.table;
      pass_then = is.pass_then;
      pass = pass.0;
      pass_at = pass.1;
      grown = grown_then is.pass_then is.pass pass.0 is.grown (grown.each told.table is.pass pass.0 is.pass_at pass.1);
      position = is.position;
      text = is.text;
    }

pub texts_on : (setup : Setup) (old new : List PassView) (told : List Told) → AreGrown old new → All (IsText setup old) told → All (IsText setup new) told
texts_on setup old new told grown are = all_weaker (IsText setup old) (IsText setup new) (text_on setup old new grown) told are

module _ (room : Room) (actor : ℕ) where
  told_on : (hands hands_new : List HandView) (passes passes_new : List PassView) (q : Question) (r : Reply) → AreGrown hands hands_new → AreGrown passes passes_new
      → IsTold room actor hands passes q r → IsTold room actor hands_new passes_new q r
  told_on hands hands_new passes passes_new q r more_hands more_passes told = record {
    who = told.who;
    table = told.table;
    query = told.query;
    hands_then = told.hands_then;
    passes_then = told.passes_then;
    acting = told.acting;
    hands_grown = all_grown_then told.hands_then hands hands_new told.hands_grown more_hands;
    passes_grown = all_grown_then told.passes_then passes passes_new told.passes_grown more_passes;
    pass = told.pass;
    pass_at = told.pass_at;
    position = told.position;
  }

  pub all_told_on : (hands hands_new : List HandView) (passes passes_new : List PassView) (asked : List Question) (replies : List Reply) → AreGrown hands hands_new → AreGrown passes passes_new
      → AreTold room actor hands passes asked replies → AreTold room actor hands_new passes_new asked replies
  all_told_on hands hands_new passes passes_new [] [] more_hands more_passes are = tt
  all_told_on hands hands_new passes passes_new [] (r ∷ replies) more_hands more_passes are = absurd are
  all_told_on hands hands_new passes passes_new (q ∷ asked) [] more_hands more_passes are = absurd are
  all_told_on hands hands_new passes passes_new (q ∷ asked) (r ∷ replies) more_hands more_passes are =
      (told_on hands hands_new passes passes_new q r more_hands more_passes are.0, are.1, all_told_on hands hands_new passes passes_new asked replies more_hands more_passes are.2)

  -- the last reply on a table is no further than the pass
  pub latest_below : (hands : List HandView) (passes : List PassView) (table : ℕ) (pass : PassView) (asked : List Question) (replies : List Reply)
      → AreBeside IsPassOf room.tables passes → slice_get passes table ≡ Some pass
      → AreTold room actor hands passes asked replies → latest table (start_of (slice_get room.tables table)) replies ≤ head_of pass.1
  latest_below hands passes table pass [] [] passes_are at are =
      let name = partner_back IsPassOf room.tables passes table pass passes_are at in
      let e : start_of (slice_get room.tables table) ≡ pass.1.seen.terms.start = ap start_of name.1 ∙ ap (λ j. j.1.start) (sym (passes_are.each table name.0 pass name.1 at)) in
      omega (arith, e)
  latest_below hands passes table pass [] (r ∷ replies) passes_are at are = absurd are
  latest_below hands passes table pass (q ∷ asked) [] passes_are at are = absurd are
  latest_below hands passes table pass (q ∷ asked) (r ∷ replies) passes_are at are = elim (eqb_tells r.table table) [
    | inl w ↦
        let then_at : slice_get are.0.passes_then table ≡ Some are.0.pass = ap (slice_get are.0.passes_then) (sym w.1 ∙ are.0.table) ∙ are.0.pass_at in
        let up = grown_head are.0.pass pass (are.0.passes_grown.each table are.0.pass pass then_at at) in
        let e = if_true (r.table == table) r.at (latest table (start_of (slice_get room.tables table)) replies) w.0 in
        let place = are.0.position in omega (arith, up, e, place)
    | inr w ↦
        let e = if_false (r.table == table) r.at (latest table (start_of (slice_get room.tables table)) replies) w.0 in
        let rest = latest_below hands passes table pass asked replies passes_are at are.2 in omega (arith, e, rest)
  ]
