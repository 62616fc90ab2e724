use Rattle.queries.specs.Seen.{asked, asked_with}
use Rattle.queries.proofs.Whole.{read_none, read_some}
use Rattle.queries.proofs.read.read_question.Goals as goal

pub returns-in_err-options-in-Some : goal.returns-in_err-options-in-Some
returns-in_err-options-in-Some c =
    let pick = c.in-Some.selected.pick in
    rw c.from_residual.ensures (read_none c.args.rest.now c.in-Some.selected.rest.now pick (asked_with pick c.none.result) (c.none.ensures pick) c.in-Some.ensures (c.in_err-options-in-Some.ensures pick))

pub returns-in_ok-options-in-Some : goal.returns-in_ok-options-in-Some
returns-in_ok-options-in-Some c =
    let pick = c.in-Some.selected.pick in
    read_some c.args.rest.now c.in-Some.selected.rest.now pick (asked_with pick c.none.result) (asked_with pick c.in_ok-options-in-Some.options) (asked c.about.result) (c.none.ensures pick) c.about.ensures
    c.in-Some.ensures (c.in_ok-options-in-Some.ensures pick)
