use Rattle.export_lock.proofs.Entering.{table_has}
use Rattle.export_lock.proofs.laws.tables_have_what_lanes_sent.Goals as goal

pub returns : goal.returns
returns g c = table_has c.tables_have_what_ports_made.ensures.made g.J.Judge.verdict
