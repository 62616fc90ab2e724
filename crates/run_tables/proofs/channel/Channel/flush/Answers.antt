use Rattle.std.proofs.Common.{Some, sym, ◌∙◌}
use Rattle.run_tables.proofs.Kept.{fallen}
use Rattle.core_machine.proofs.Contents.{some_same}
use Rattle.run_tables.proofs.Stretches.{keys_family, keys_stand}
use Rattle.run_tables.proofs.channel.Channel.flush.Goals as goal

pub returns : goal.returns
returns g c rules d family history ch m = (
  c.in_ok-keys.ensures ∙ keys_stand g.J.Judge.verdict rules d history c.args.self.now.exporter ch _ (c.in_ok-standing.ensures.values m.exporter.matches.rest) m.exporter.matches,
  fallen g.J.Judge.verdict rules d history (Some family) c.args.self.now c.fall.new.self ch c.fall.ensures.table c.fall.ensures.target c.in_ok-fall.ensures.cursor
      (c.in_ok-fall.ensures.ends ∙ c.in_ok-withdraw_all.ensures.same) m,
  keys_family family _ _ (c.in_ok-standing.ensures.values m.exporter.matches.rest) (λ k some. c.in_ok-standing.ensures.families m.exporter.matches.rest k some ∙ some_same (sym m.exporter.family_is)) _ c.in_ok-keys.ensures,
)
