use Rattle.export_core.proofs.TwoMaps.{empty_is}
use Rattle.export_core.proofs.marks.Marks.is_empty.Goals as goal

pub returns-clause-empty : goal.returns-clause-empty
returns-clause-empty c =
    empty_is c.self.inside.from c.len.result c.len-2.result c.self.inside.leaving.entries c.self.inside.coming.entries c.args.self.now c.self.view_is c.self.invariant.within
    c.len.ensures.len c.len-2.ensures.len
