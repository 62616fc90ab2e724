-- What is shown of a table: a view of its rows, and a part of them. Modelled: at which position, of
-- which content, and where a part begins and ends. Not modelled: the order in which routes came.
-- Form: the project's own; rows and selection are those of attrs.
use Rattle.std.specs.Prelude.{◌≡◌, ◌↔◌, ℕ, ◌+◌, ◌<◌, List, [], ◌∷◌, length, take, drop, Option, Some, None, IsTrue}
use Rattle.bits_ip.specs.Prefix.{Net}
use Rattle.attrs.specs.Select.{rows_from, selected}
use Rattle.attrs.specs.Table.{Shows, count_routes}
use Rattle.attrs.specs.declared.journal.Chunk.{Chunk}
use Rattle.attrs.specs.declared.route.Row.{Row}
use Rattle.attrs.specs.declared.route.Select.{Select}
use Rattle.jour_rule.specs.declared.views.View.{View as Seat}
use Rattle.jour.specs.Seats.{head_of, known, heads}
use Rattle.rib.specs.Rib.{AreOfFamily}
use Rattle.table_shared.specs.declared.view.View.{View}
use Rattle.table_shared.specs.Opening.{TableOpening}
use Rattle.table_shared.specs.Answers.{InSeen}

-- the seat loaded the head, it is this one, and the seat has seen the list to there
pub record IsTold (at : ℕ) (old new : Seat TableOpening) : Type 0 where
  pub known : at ≡ known new
  pub seen : at ≡ head_of new
  pub loads : heads new ≡ heads old + 1

-- the selected rows of the content at the head, of nets of the table's family, and how many routes
-- that content has
pub record IsView (pick : Select) (old new : Seat TableOpening) (view : View) : Type 0 where
  pub all : List Row
  pub told : IsTold view.at old new
  pub shows : InSeen new (Shows all)
  pub rows : view.rows ≡ selected pick all
  pub total : view.total ≡ count_routes all
  pub family : AreOfFamily new.seen.terms.opening.family view.rows

-- the net of the first row
abbrev pub first_net : List Row → Option Net
first_net [] = None
first_net (row ∷ rows) = Some row.net

-- the first rows from a net on of the content at the head, at most so many, of nets of the table's
-- family, and the net behind them
pub record IsChunk (from : Option Net) (max : ℕ) (old new : Seat TableOpening) (chunk : Chunk)
    : Type 0 where
  pub all : List Row
  pub told : IsTold chunk.at old new
  pub shows : InSeen new (Shows all)
  pub begins : chunk.from ≡ from
  pub rows : chunk.rows ≡ take max (rows_from from all)
  pub ends : chunk.upto ≡ first_net (drop max (rows_from from all))
  pub more : IsTrue chunk.more ↔ (max < length (rows_from from all))
  pub family : AreOfFamily new.seen.terms.opening.family chunk.rows
