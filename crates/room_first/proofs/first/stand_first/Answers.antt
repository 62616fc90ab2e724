use Rattle.std.proofs.Common.{refl, arith}
use Rattle.std.proofs.lemmas.List.{length-map}
use Rattle.sys_run.specs.Made.{passed_at}
use Rattle.sys_run.specs.Parts.{setup_seen, table_seen}
use Rattle.room_first.proofs.Standing.{first_is, first_stands, passed_here}
use Rattle.room_first.proofs.Turns.{all_few}
use Rattle.room_first.proofs.first.stand_first.Goals as goal

pub passed_by-requires-clause-few : goal.passed_by-requires-clause-few
passed_by-requires-clause-few g c = omega (arith, c.requires.few)

pub passed_by-requires-clause-fits : goal.passed_by-requires-clause-fits
passed_by-requires-clause-fits g c =
    let f = c.requires.fits in
    (c.args.tables.now, f.0, f.1, f.2, refl, f.3)

pub stand_members-requires-clause-tables : goal.stand_members-requires-clause-tables
stand_members-requires-clause-tables g c =
    let f = c.requires.fits in
    let count = length-map c.args.tables.now table_seen in
    all_few g.J.Judge.verdict c.args.tables.now c.args.protocols.now f.0 f.1 f.2 (omega (arith, c.requires.tables, count)) f.3

pub returns-clause-stands : goal.returns-clause-stands
returns-clause-stands g c = λ cells choices queries lines actors fits.
    let v = g.J.Judge.verdict in
    let laws = c.first_phases_stand.ensures in
    let pipes = c.first_phases_have_pipes.ensures in
    let seen = setup_seen v c.args.tables.now c.args.protocols.now cells choices queries in
    let passed = c.in_ok-passed.passed.items in
    first_stands v c.args.tables.now c.args.protocols.now cells choices queries (passed_at passed)
    (record { tables = laws.tables; sources = laws.sources; channels = laws.channels; pipes = pipes.pipes; directions = pipes.directions }) fits
    (λ d w. passed_here seen passed d (c.in_ok-passed.ensures c.args.tables.now cells choices queries refl) w)
    (record { tables = c.in_ok-stood.stood; members = c.in_ok-members.members })
    (record { tables_are = c.in_ok-stood.ensures; members_are = c.in_ok-members.ensures }) lines actors

pub returns-clause-first : goal.returns-clause-first
returns-clause-first g c =
    first_is g.J.Judge.verdict c.args.tables.now (passed_at c.in_ok-passed.passed.items) c.args.protocols.now
    (record { tables = c.in_ok-stood.stood; members = c.in_ok-members.members })
    (record { tables_are = c.in_ok-stood.ensures; members_are = c.in_ok-members.ensures })
