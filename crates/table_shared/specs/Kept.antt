-- What a table's lock keeps of the value under it. Modelled: all of it. Form: the project's own.
use Rattle.std.specs.Prelude.{◌≡◌, ◌<◌, ◌^◌, map}
use Rattle.atomic_table.specs.Seated.{TableId}
use Rattle.attrs.specs.Table.{Shows}
use Rattle.jour_rule.specs.declared.views.Terms.{Terms}
use Rattle.jour.specs.Seats.{journal, front, head_of}
use Rattle.rib.specs.Rib.{AreOfFamily}
use Rattle.table_shared.specs.declared.desk.Desk.{Desk}
use Rattle.table_shared.specs.Opening.{TableOpening}
use Rattle.table_shared.specs.Records.{AreRecords, at_first, content_after}

-- The desk is that of the journal: its records are the journal's entries, with their ports, and its
-- rows show what stands behind them, in nets of the table's family.
pub record IsKept (here : TableId × Terms TableOpening) (desk : Desk) : Type 0 where
  pub journal : journal desk.writer ≡ here
  pub start : desk.start ≡ here.1.start
  pub records :
      AreRecords here.1.opening (at_first here.1.opening) (front desk.writer.1) desk.records.items
  pub ports : desk.ports.items ≡ map (λ entry. entry.maker) (front desk.writer.1)
  pub rows : Shows desk.rib.rows (content_after here.1.opening desk.records.items)
  pub family : desk.rib.family ≡ here.1.opening.family
  pub nets : AreOfFamily here.1.opening.family desk.rib.rows
  pub end : head_of desk.writer.1 < 2 ^ 63
