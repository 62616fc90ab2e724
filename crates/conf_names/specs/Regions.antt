-- For private contracts alone: the regions of tables that pipes join, as they are found. What is
-- refused rests on nothing here.
use Rattle.std.specs.Prelude.{◌≡◌, ℕ, ◌==◌, ◌<◌, if◌then◌else◌, List, [], ◌∷◌, length, get_or}
use Rattle.conf_names.specs.declared.joints.Joint.{Joint}

-- the region of a table, after those of one region came to lie in another one
abbrev pub renamed : (from to region : ℕ) → ℕ
renamed from to region = if region == from then to else region

-- The region that a table lies in by these pipes: those of one region are joined.
unfoldable pub region : List Joint → (table : ℕ) → ℕ
region [] table = table
region (p ∷ pipes) table = renamed (region pipes p.peer) (region pipes p.table) (region pipes table)

-- the regions of so many tables
abbrev pub AreRegions : List Joint → (tables : ℕ) → List ℕ → Type 0
AreRegions pipes tables regions =
    (length regions ≡ tables)
    × ((table : ℕ) → table < tables → get_or regions table 0 ≡ region pipes table)
