use Rattle.std.proofs.Common.{◌∙◌, ap}
use Rattle.import_core.specs.Held.{Kept, missing}
use Rattle.import_core.proofs.Keeping.{kept-dropped}
use Rattle.import_core.proofs.Noting.{drop_counts}
use Rattle.import_core.proofs.nets.Nets.remove.Goals as goal

pub invariant_of-self : goal.invariant_of-self
invariant_of-self c =
    drop_counts c.args.net.now c.self.inside.held.entries c.remove.new.self.entries c.args.self.now c.self.inside.accepted c.tally-was.result
    c.is_accepted.result c.len-count.ensures.ordered c.remove.ensures.ordered c.remove.ensures.updates.0 c.self.invariant c.self.view_is
    c.is_accepted.ensures c.tally-was.ensures

pub returns : goal.returns
returns c =
    kept-dropped c.args.net.now c.self.inside.held.entries c.remove.new.self.entries c.len-count.ensures.ordered c.remove.ensures.ordered c.remove.ensures.updates.0
    ∙ ap (λ (k : Kept). missing c.args.net.now k) c.self.view_is
