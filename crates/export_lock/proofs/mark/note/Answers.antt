use Rattle.std.proofs.Common.{[], ◌∷◌, ◌++◌, ap, arith, ◌∙◌}
use Rattle.jour_rule.specs.Moves.{entry}
use Rattle.jour.specs.Seats.{front, number_of}
use Rattle.import_lock.proofs.Recording.{of_makers_more}
use Rattle.export_lock.proofs.mark.note.Goals as goal

pub append-requires-clause-lawful : goal.append-requires-clause-lawful
append-requires-clause-lawful c =
    let number = c.requires.number in
    let makers = c.requires.makers in
    of_makers_more c.args.marks.now.1.seen.terms.opening (front c.args.marks.now.1) (entry (number_of c.args.stamp.now.1.role) c.args.words.now) c.lawful.ensures (omega (arith, number, makers))

pub returns-clause-list : goal.returns-clause-list
returns-clause-list c = c.append.ensures.list ∙ ap (λ z. front c.args.marks.now.1 ++ entry z c.args.words.now ∷ []) c.requires.number
