use Rattle.std.proofs.Common.{◌<◌, ap, sym, ◌∙◌, subst}
use Rattle.jour_rule.specs.Moves.{entry}
use Rattle.jour.specs.Seats.{front, number_of}
use Rattle.jour_rule.proofs.Laws.{are_of_makers_with}
use Rattle.jour_tests.proofs.bench.append.Goals as goal

pub append-requires-clause-lawful : goal.append-requires-clause-lawful
append-requires-clause-lawful c =
    let opening = c.args.writer.now.1.seen.terms.opening in
    let makers = ap (λ j. j.1.makers) c.requires.here ∙ sym c.requires.makers in
    are_of_makers_with opening (front c.args.writer.now.1) (entry (number_of c.args.maker.now.1.role) c.args.words.now) c.lawful.ensures
    (subst (λ n. n < opening) c.number.ensures.number (subst (λ m. c.number.result < m) makers c.number.ensures.few))
