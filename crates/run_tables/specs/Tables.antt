-- For private contracts, and for what `HasPlayed` of sys_run keeps of a core from phase to phase;
-- nothing promised rests on it: a table with its journal, and the machine's history of it.
use Rattle.std.specs.Prelude.{◌≡◌, ◌+◌, ◌<◌, ℕ, List, length, Option, Some, None, IsSome, map, reverse, slice_get, ⊤}
use Rattle.std.specs.List.{AllByRecursion}
use Rattle.bits_ip.specs.Address.{family_of}
use Rattle.bits_ip.specs.declared.address.Family.{Family}
use Rattle.attrs.specs.declared.journal.Chunk.{Chunk}
use Rattle.attrs.specs.declared.journal.JEntry.{JEntry}
use Rattle.attrs.specs.declared.route.Change.{Change}
use Rattle.attrs.specs.declared.route.Route.{Route}
use Rattle.attrs.specs.Table.{Shows}
use Rattle.export_core.specs.Histories.{change_of}
use Rattle.core_machine.specs.Histories.{content_of, front}
use Rattle.core_machine.specs.Rules.{Rules, best_of}
use Rattle.run_tables.specs.declared.table.Table.{Table}

-- only protocols have routes
abbrev pub IsSourced : Rules → Change → Type 0
IsSourced rules c = IsSome c.new → c.num < rules.protocols

-- The table of this family has this history: it shows the content, and its journal has each change
-- with the best route of its net behind it.
pub record IsTable (rules : Rules) (family : Family) (history : List Change) (table : Table)
    : Type 0 where
  pub family_is : table.family ≡ family
  pub rib_family : table.rib.family ≡ family
  pub shows : Shows table.rib.rows (content_of history)
  pub entries : map change_of table.entries.items ≡ reverse history
  pub best :
      (p : ℕ) (entry : JEntry) → slice_get table.entries.items p ≡ Some entry
      → entry.best ≡ best_of rules entry.net (front (p + 1) history)
  pub families :
      (p : ℕ) (entry : JEntry) → slice_get table.entries.items p ≡ Some entry
      → family_of entry.net.addr ≡ family
  pub sources : AllByRecursion (IsSourced rules) history

-- a change of a table of this family, whose route tells its source
abbrev pub TellsSource : ℕ → Option Route → Type 0
TellsSource num None = ⊤
TellsSource num (Some route) = route.src.num ≡ num

pub record Admits (family : Family) (c : Change) : Type 0 where
  pub family_is : family_of c.net.addr ≡ family
  pub source : TellsSource c.num c.new

-- the chunk is the whole table at its head
pub record IsWhole (history : List Change) (chunk : Chunk) : Type 0 where
  pub at : chunk.at ≡ length history
  pub from : chunk.from ≡ None
  pub upto : chunk.upto ≡ None
  pub shows : Shows chunk.rows (content_of history)
