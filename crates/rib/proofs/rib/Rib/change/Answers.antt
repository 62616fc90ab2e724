use Rattle.std.proofs.Common.{◌≢◌, ◌↔◌, IsTrue, subst}
use Rattle.rib.specs.Entries.{rows_of}
use Rattle.rib.specs.Outcome.{IfChanged}
use Rattle.rib.specs.Rib.{Table, best_of}
use Rattle.rib.proofs.NetRows.{nets-rows}
use Rattle.rib.proofs.rib.Rib.change.Goals as goal

pub returns-clause-rows : goal.returns-clause-rows
returns-clause-rows c = nets-rows _ _ _ c.change.ensures.nets

pub returns-clause-moved : goal.returns-clause-moved
returns-clause-moved c =
    subst (λ (t : Table). IfChanged c.change.result (λ moved. IsTrue moved ↔ (best_of c.args.change.net (rows_of c.change.new.self) ≢ best_of c.args.change.net t.rows))) c.self.view_is c.change.ensures.moved
