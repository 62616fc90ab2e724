use Rattle.table_shared_tests.proofs.Last.{last_some}
use Rattle.table_shared_tests.proofs.bench.last_cursor.Goals as goal

pub returns-clause-here : goal.returns-clause-here
returns-clause-here c = last_some _ c.args.cursors.now.items c.pop.new.self.items c.pop.result c.pop.ensures.items (λ k cursor at. (c.requires k cursor at).0)

pub returns-clause-closed : goal.returns-clause-closed
returns-clause-closed c = last_some _ c.args.cursors.now.items c.pop.new.self.items c.pop.result c.pop.ensures.items (λ k cursor at. (c.requires k cursor at).1)
