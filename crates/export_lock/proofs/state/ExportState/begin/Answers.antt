use Rattle.export_lock.proofs.Beginning.{begun}
use Rattle.export_lock.proofs.state.ExportState.begin.Goals as goal

pub returns : goal.returns
returns g c = λ every key b. begun g.J.Judge.verdict every key (record { exporter = c.args.exporter; cursor = c.args.cursor; marks = c.args.marks }) b
