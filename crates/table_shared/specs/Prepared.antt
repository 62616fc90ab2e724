-- A change for which all memory was taken. Not modelled: how much memory that is. Form: the
-- project's own.
use Rattle.std.specs.Prelude.{◌≡◌, ◌<◌, List, [], ◌∷◌, Some}
use Rattle.std.specs.Vec.{vec_capacity, vec_len}
use Rattle.attrs.specs.History.{after}
use Rattle.attrs.specs.Table.{IsBestOf, route_in}
use Rattle.attrs.specs.declared.route.Change.{Change}
use Rattle.attrs.specs.declared.route.Row.{Row}
use Rattle.table_shared.specs.declared.desk.Desk.{Desk}
use Rattle.table_shared.specs.declared.desk.Prepared.{Prepared}
use Rattle.table_shared.specs.Answers.{with_best}

-- two copies of the change, one of them with the best route that its net has behind it
pub record AreCopies (rows : List Row) (change : Change) (prepared : Prepared) : Type 0 where
  pub copy : prepared.change ≡ change
  pub said : prepared.said ≡ with_best prepared.said.best change
  pub best : IsBestOf (after (route_in rows) (change ∷ [])) change.net prepared.said.best

-- the change and its record want no more memory
pub record HasMemory (desk : Desk) (change : Change) : Type 0 where
  pub rib : desk.rib.room ≡ Some (change.net, change.num)
  pub records : vec_len desk.records < vec_capacity desk.records
  pub ports : vec_len desk.ports < vec_capacity desk.ports

-- the same desk, but for the memory that it has
pub record IsSameBut (old new : Desk) : Type 0 where
  pub writer : new.writer ≡ old.writer
  pub rows : new.rib.rows ≡ old.rib.rows
  pub family : new.rib.family ≡ old.rib.family
  pub start : new.start ≡ old.start
  pub records : new.records.items ≡ old.records.items
  pub ports : new.ports.items ≡ old.ports.items
