use Rattle.std.proofs.Common.{subst}
use Rattle.attrs.specs.Table.{AreRows}
use Rattle.rib.specs.Rib.{AreOfFamily, Table}
use Rattle.rib.proofs.NetRows.{nets-family, nets-rows}
use Rattle.rib.proofs.rib.Rib.next_nets.Goals as goal

pub returns-clause-are_rows : goal.returns-clause-are_rows
returns-clause-are_rows c = subst (λ (t : Table). AreRows t.rows) c.self.view_is (nets-rows _ _ _ c.self.invariant.nets)

pub returns-clause-family : goal.returns-clause-family
returns-clause-family c = subst (λ (t : Table). AreOfFamily t.family t.rows) c.self.view_is (nets-family _ _ _ c.self.invariant.nets)
