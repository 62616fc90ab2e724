-- Which directions of pipes a source's routes go (`HasWays`): found level by level from the
-- source's table on, at each level the directions in the order of channels. So each table has the
-- shortest way to it, and of those the one that was found first.
-- Not modelled: a limit on how often a route may pass pipes.
-- From: own.
-- Example: with pipes from `master4` to `t1` and from `t1` to `t2` a source of `master4` comes to
-- `t1` at the first level and to `t2` at the second.
use Rattle.std.specs.Prelude.{◌≡◌, ◌==◌, ◌&&◌, ◌-◌, ℕ, zero, suc, not, List, [], ◌∷◌, length, Option, Some, None, is_some, if◌then◌else◌}
use Rattle.core_machine.specs.Rules.{Rules}

-- the ways found so far, by table
abbrev pub Found : Type 0
Found = ℕ → Option (List ℕ)

abbrev pub with_way : ℕ → List ℕ → Found → Found
with_way table way found other = if table == other then Some way else found other

-- A direction goes on where it reads a table that a way of this length comes to, and no way comes
-- to the one that it writes.
abbrev pub gone_on : ℕ → ℕ → ℕ → Found → Option (List ℕ) → Found
gone_on d len table found None = found
gone_on d len table found (Some ds) =
    if (length ds == len) && not (is_some (found table))
    then with_way table (d ∷ ds) found
    else found

abbrev pub tried : Rules → ℕ → ℕ → Option ℕ → Found → Found
tried rules d len None found = found
tried rules d len (Some table) found = gone_on d len table found (found (rules.reads d))

-- the channels below a number are tried, in their order
abbrev pub level : Rules → ℕ → ℕ → Found → Found
level rules len zero found = found
level rules len (suc d) found = tried rules d len (rules.target d) (level rules len d found)

-- the ways of a source after so many levels
abbrev pub levels : Rules → ℕ → ℕ → Found
levels rules i zero = λ table. if rules.table i == table then Some [] else None
levels rules i (suc len) = level rules len rules.channels (levels rules i len)

-- there is one level less than tables
abbrev pub HasWays : Rules → Type 0
HasWays rules = (table i : ℕ) → rules.hops table i ≡ levels rules i (rules.tables - 1) table
