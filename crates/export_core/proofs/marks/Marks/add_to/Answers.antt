use Rattle.std.proofs.lemmas.Result.{on_ok_weaker}
use Rattle.export_core.proofs.Covered.{covers_both}
use Rattle.export_core.proofs.marks.Marks.add_to.Goals as goal

pub returns : goal.returns
returns c =
    on_ok_weaker c.add_covered-2.result
    (λ more. covers_both c.args.range.now c.self.inside.from c.self.inside.leaving.entries c.self.inside.coming.entries c.args.self.now _ _ _ c.self.view_is c.in_ok-add_covered.ensures more)
    c.add_covered-2.ensures
