use Rattle.room_open.proofs.tables.open_next.Goals as goal

pub add_table-requires-clause-few : goal.add_table-requires-clause-few
add_table-requires-clause-few g c = c.requires.few

pub add_table-requires-clause-can : goal.add_table-requires-clause-can
add_table-requires-clause-can g c = c.requires.can

pub add_table-requires-clause-rows : goal.add_table-requires-clause-rows
add_table-requires-clause-rows g c = c.requires.rows

pub returns-clause-opened : goal.returns-clause-opened
returns-clause-opened g c = c.in_ok-add_table.ensures
