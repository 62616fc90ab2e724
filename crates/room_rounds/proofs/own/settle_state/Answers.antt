use Rattle.std.proofs.Common.{◌∙◌}
use Rattle.room_rounds.proofs.own.settle_state.Goals as goal

pub returns : goal.returns
returns g c =
    let first = c.settle.ensures.goes in
    let then = c.pass_closed.ensures.goes in
    (λ every key o. then every key (first every key o), c.pass_closed.ensures.marks ∙ c.settle.ensures.marks)
