use Rattle.std.proofs.Common.{◌∙◌, sym}
use Rattle.export_lock.proofs.Pushing.{running}
use Rattle.export_lock.proofs.state.ExportState.feed_turn.Goals as goal

pub feed_part-requires-clause-stays : goal.feed_part-requires-clause-stays
feed_part-requires-clause-stays g c = (running c.args.self.now.cursor.1 c.args.self.now.exporter.flushing (sym c.is_running.ensures ∙ c.if-not-is_running.false)).1

pub feed_part-requires-clause-up : goal.feed_part-requires-clause-up
feed_part-requires-clause-up g c = (running c.args.self.now.cursor.1 c.args.self.now.exporter.flushing (sym c.is_running.ensures ∙ c.if-not-is_running.false)).0
