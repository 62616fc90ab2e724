use Rattle.std.proofs.Common.{◌∙◌, ◌+◌, ap, not, refl}
use Rattle.import_core.proofs.Noting.{tally_if}
use Rattle.import_core.proofs.Steps.{some_accepted}
use Rattle.import_core.proofs.nets.Plan.store.Goals as goal

pub returns : goal.returns
returns c = record {
  decisions = c.in_ok-push.ensures.items;
  changes = c.in_ok-note.ensures;
  count = ap (λ n. c.args.self.now.count + n) (tally_if _ _ _ (ap not c.is_nothing.ensures ∙ some_accepted c.args.held.now.route c.args.accepted) c.tally.ensures);
  over_limit = refl;
}
