use Rattle.std.proofs.Common.{◌++◌, ◌∷◌, [], ap, ◌∙◌}
use Rattle.room_run.proofs.dealing.Dealt.deal_actor.Goals as goal

pub returns : goal.returns
returns c =
    let deals = c.in_ok-deal_seats.ensures.deals in
    record {
      seats = record { hands_are = deals.hands_are; passes_are = deals.passes_are };
      told = c.in_ok-note.ensures ∙ ap (λ z. z ++ c.args.actor.replies ∷ []) c.in_ok-deal_seats.ensures.told;
    }
