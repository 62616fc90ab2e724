use Rattle.std.proofs.Common.{sym}
use Rattle.filt_types.proofs.FirstPlaces.{noted_again, noted_new}
use Rattle.filt_types.proofs.variable_list.note.Goals as goal

pub returns-then-contains_key-clause-noted : goal.returns-then-contains_key-clause-noted
returns-then-contains_key-clause-noted c = noted_again c.args.name.now c.args.place c.args.places.now.entries (sym c.if-contains_key.ensures)

pub returns-clause-noted : goal.returns-clause-noted
returns-clause-noted c = noted_new c.args.name.now c.args.place c.args.places.now.entries c.insert.new.self.entries (sym c.if-contains_key.ensures) (λ asked. c.in_ok-insert.ensures.updates.0 asked)
