use Rattle.export_lock.proofs.Beginning.{lane_begun}
use Rattle.export_lock.proofs.lane.PipeLane.begin.Goals as goal

pub returns : goal.returns
returns g c = λ key b. lane_begun g.J.Judge.verdict key (record { state = record { exporter = c.args.exporter; cursor = c.args.cursor; marks = c.args.marks }; port = c.args.port }) b
