use Rattle.std.proofs.Common.{[], ◌∷◌, ap, arith, ◌∙◌}
use Rattle.jour_rule.specs.Moves.{entry}
use Rattle.jour.specs.Seats.{front, number_of}
use Rattle.import_lock.proofs.Recording.{of_makers_more}
use Rattle.pipe_lock.proofs.plan.record.Goals as goal

pub append-requires-clause-lawful : goal.append-requires-clause-lawful
append-requires-clause-lawful c =
    let number = c.number.ensures.number in
    let few = c.number.ensures.few in
    let makers = ap (λ j. j.1.makers) (c.tell_maker.ensures.here.1 ∙ c.requires.here) in
    let opening = ap (λ j. j.1.opening) c.tell_maker.ensures.here.0 in
    of_makers_more c.tell_maker.new.self.1.seen.terms.opening (front c.tell_maker.new.self.1) (entry (number_of c.tell_maker.new.maker.1.role) (2 ∷ c.from.result ∷ [])) c.lawful.ensures
    (omega (arith, number, few, makers, opening, c.requires.makers))
