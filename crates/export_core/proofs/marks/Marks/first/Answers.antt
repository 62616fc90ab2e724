use Rattle.std.proofs.lemmas.Option.{IfSome_then}
use Rattle.export_core.proofs.TwoMaps.{first_behind, first_in}
use Rattle.export_core.proofs.marks.Marks.first.Goals as goal

pub returns-in-Some-clause-some : goal.returns-in-Some-clause-some
returns-in-Some-clause-some c =
    first_in c.self.inside.from c.self.inside.leaving.entries c.self.inside.coming.entries c.args.self.now c.in-Some.first.0 c.in-Some.first.1.now c.self.view_is c.in-Some.ensures.some

pub returns-in-None-clause-some : goal.returns-in-None-clause-some
returns-in-None-clause-some c =
    IfSome_then c.mark_at-in-None.result c.mark_at-in-None.ensures.some
    (λ p is. first_behind c.self.inside.from c.self.inside.leaving.entries c.self.inside.coming.entries c.args.self.now p.0 p.1.now c.self.view_is c.in-None.ensures.none is)
