use Rattle.std.proofs.Common.{sym}
use Rattle.script_lines.proofs.FirstPlaces.{no_place, noted_again, noted_new}
use Rattle.script_lines.proofs.name_list.note.Goals as goal

pub returns-then-contains_key : goal.returns-then-contains_key
returns-then-contains_key c = noted_again c.args.name.now c.args.place c.args.places.now.entries (sym c.if-contains_key.ensures)

pub returns : goal.returns
returns c =
    noted_new c.args.name.now c.args.place c.in_ok-key.key c.args.places.now.entries c.insert.new.self.entries c.in_ok-key.ensures.items
    (no_place _ (sym c.if-contains_key.ensures)) c.in_ok-insert.ensures.entries
