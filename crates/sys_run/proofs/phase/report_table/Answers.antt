use Rattle.std.proofs.Common.{List, sym, subst}
use Rattle.attrs.specs.declared.route.Row.{Row}
use Rattle.attrs.specs.Table.{Shows}
use Rattle.core_machine.specs.Histories.{content_of}
use Rattle.sys_run.proofs.phase.report_table.Goals as goal

pub returns : goal.returns
returns c = record {
  name = c.in_ok-copy_table_name.ensures;
  rows = λ rules family history is. subst (λ (rows : List Row). Shows rows (content_of history)) (sym c.from_vec.ensures) (c.in_ok-rows.ensures rules family history is);
}
