use Rattle.std.proofs.Common.{◌∙◌, ap}
use Rattle.std.specs.Prelude.{if◌then◌else◌}
use Rattle.export_core.specs.Keys.{same_key}
use Rattle.export_core.specs.Standing.{index_at}
use Rattle.std.proofs.Common.{Some, None, sym}
use Rattle.export_core.proofs.MarkLists.{inner_written}
use Rattle.export_core.proofs.standing.Standing.set.Goals as goal

pub returns-in-Ok : goal.returns-in-Ok
returns-in-Ok c = λ k. inner_written c.args.key (Some c.args.number) _ _ c.in-Ok.ensures.updates.0 k ∙ ap (λ s. if same_key c.args.key k then c.args.number else index_at k s) c.self.view_is

pub returns-in-None : goal.returns-in-None
returns-in-None c = λ k. inner_written c.args.key None _ _ c.remove.ensures.updates.0 k ∙ ap (λ s. if same_key c.args.key k then None else index_at k s) c.self.view_is ∙ ap (λ n. if same_key c.args.key k then n else index_at k c.args.self.now) (sym c.in-None.is)
