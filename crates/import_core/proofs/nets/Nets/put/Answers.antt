use Rattle.std.proofs.Common.{◌∙◌, ap, arith}
use Rattle.import_core.specs.Held.{Kept, holding}
use Rattle.import_core.proofs.Keeping.{kept-put}
use Rattle.import_core.proofs.Noting.{put_counts, sum_fits}
use Rattle.import_core.proofs.nets.Nets.put.Goals as goal

pub overflow_add-self : goal.overflow_add-self
overflow_add-self c =
    let h = sum_fits c.self.inside.held.entries c.self.inside.accepted c.tally-was.result c.tally-is.result c.len-count.result c.is_accepted-2.result c.self.invariant
    c.len-count.ensures.len c.len-count.ensures.small c.tally-is.ensures in
    omega (arith, h)

pub invariant_of-self-2 : goal.invariant_of-self-2
invariant_of-self-2 c =
    put_counts c.args.net c.args.held c.self.inside.held.entries c.insert.new.self.entries c.args.self.now c.self.inside.accepted c.tally-was.result c.tally-is.result
    c.is_accepted.result c.is_accepted-2.result c.len-count.ensures.ordered c.in_ok-insert.ensures.ordered c.in_ok-insert.ensures.updates.0 c.self.invariant c.self.view_is
    c.is_accepted.ensures c.tally-was.ensures c.is_accepted-2.ensures c.tally-is.ensures

pub returns-clause-held : goal.returns-clause-held
returns-clause-held c =
    kept-put c.args.net c.args.held c.self.inside.held.entries c.insert.new.self.entries c.len-count.ensures.ordered c.in_ok-insert.ensures.ordered c.in_ok-insert.ensures.updates.0
    ∙ ap (λ (k : Kept). holding c.args.net c.args.held k) c.self.view_is
