-- What is shown of a table to whoever answers (`IsView`): the rows that are asked for, and how many
-- routes there are in all.
-- From: own.
-- Example: of a table without routes there are no rows, and 0 routes.
use Rattle.std.specs.Prelude.{◌≡◌, ℕ, List}
use Rattle.attrs.specs.History.{Content}
use Rattle.attrs.specs.Select.{selected}
use Rattle.attrs.specs.Table.{Shows, count_routes}
use Rattle.attrs.specs.declared.route.Row.{Row}
use Rattle.attrs.specs.declared.route.Select.{Select}

pub record IsView (pick : Select) (rows : List Row) (total : ℕ) (content : Content) : Type 0 where
  pub all : List Row
  pub shown : Shows all content
  pub rows_are : rows ≡ selected pick all
  pub total_is : total ≡ count_routes all
