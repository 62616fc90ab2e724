use Rattle.table_shared_tests.proofs.race.Race.open.Goals as goal

pub last_port-requires : goal.last_port-requires
last_port-requires c = λ k seat at. (c.in_ok-table.ensures.ports.1 k seat at).0

pub last_cursor-requires : goal.last_cursor-requires
last_cursor-requires c = λ k cursor at. let e = c.in_ok-table.ensures.cursors.1 k cursor at in (e.0, e.3)
