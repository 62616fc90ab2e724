use Rattle.std.proofs.Common.{◌∙◌, ap, subst}
use Rattle.attrs.specs.Table.{AreRows, count_routes}
use Rattle.rib.specs.Rib.{AreOfFamily, Table}
use Rattle.rib.proofs.NetRows.{nets-count, nets-family, nets-rows}
use Rattle.rib.proofs.rib.Rib.total.Goals as goal

pub returns-clause-are_rows : goal.returns-clause-are_rows
returns-clause-are_rows c = subst (λ (t : Table). AreRows t.rows) c.self.view_is (nets-rows _ _ _ c.self.invariant.nets)

pub returns-clause-family : goal.returns-clause-family
returns-clause-family c = subst (λ (t : Table). AreOfFamily t.family t.rows) c.self.view_is (nets-family _ _ _ c.self.invariant.nets)

pub returns-clause-count : goal.returns-clause-count
returns-clause-count c = nets-count _ _ _ c.self.invariant.nets ∙ ap (λ (t : Table). count_routes t.rows) c.self.view_is
