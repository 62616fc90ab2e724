use Rattle.export_core.proofs.TwoMaps.{first_within, joins_of}
use Rattle.export_core.proofs.marks.mark_there.Goals as goal

pub index_mut-requires : goal.index_mut-requires
index_mut-requires c = first_within c.args.key.now c.args.map.now.entries c.in-Some.place c.in-Some.ensures.some.0

pub returns-in-Some-clause-joins : goal.returns-in-Some-clause-joins
returns-in-Some-clause-joins c =
    joins_of c.args.from c.in-Some.place c.args.key.now c.args.mark _ c.join.new.place c.args.map.now.entries c.in-Some.ensures.some.1 c.in-Some.ensures.some.0
    c.index_mut.ensures.value c.join.ensures
