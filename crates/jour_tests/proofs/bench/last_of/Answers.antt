use Rattle.jour_tests.proofs.Last.{last_some}
use Rattle.jour_tests.proofs.bench.last_of.Goals as goal

pub returns-clause-last : goal.returns-clause-last
returns-clause-last c = last_some _ c.args.cursors.now.items c.pop.new.self.items c.pop.result c.pop.ensures.items c.requires
