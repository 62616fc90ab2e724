use Rattle.rib.specs.Entries.{rows_of}
use Rattle.rib.proofs.Longest.{exact-row}
use Rattle.rib.proofs.nets.Nets.lend.Goals as goal

pub returns-in-Exact : goal.returns-in-Exact
returns-in-Exact c = rw c.in-Exact.is (rw (exact-row c.in-Exact.net (rows_of c.args.self.now) c.requires.rows) at c.lend_one.ensures)
