use Rattle.std.proofs.Common.{sym}
use Rattle.queries.specs.Seen.{asked_with, part_said}
use Rattle.queries.proofs.Growing.{put_open}
use Rattle.queries.proofs.Whole.{more_read, ended_read}
use Rattle.queries.proofs.Turns.{turn_none}
use Rattle.queries.proofs.read.+read_options.Goals as goal

pub returns-in_err-options-in-Some : goal.returns-in_err-options-in-Some
returns-in_err-options-in-Some t c =
    rw c.from_residual.ensures (λ pick is_open. turn_none (asked_with pick c.args.options) c.args.text.now c.in-Some.rest.now (part_said c.in-Some.part) c.in-Some.ensures.part (sym (c.in_err-options-in-Some.ensures pick)))

pub returns-in_ok-options-in-Some : goal.returns-in_ok-options-in-Some
returns-in_ok-options-in-Some t c = λ pick is_open.
    let old = asked_with pick c.args.options in
    let now = asked_with pick c.in_ok-options-in-Some.options in
    let set = sym (c.in_ok-options-in-Some.ensures pick) in
    more_read (asked_with pick) c.read_options.result old now c.args.text.now c.in-Some.rest.now (part_said c.in-Some.part) c.in-Some.ensures.part set
    (c.read_options.ensures pick (put_open old now (part_said c.in-Some.part) set is_open))

pub returns-in-None : goal.returns-in-None
returns-in-None t c = λ pick is_open. ended_read (asked_with pick) c.finish.result (asked_with pick c.args.options) c.args.text.now is_open c.in-None.ensures.part (c.finish.ensures pick)
