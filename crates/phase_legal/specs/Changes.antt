-- The changes of a table as its journal has them: what words say (`Says`), which changes a port has
-- made (`AreMade`), and what a protocol's operations of a phase give (`given`).
-- Lists of receipts, of entries and of what was made are in their order; operations and what they
-- give are read backwards.
-- Not modelled: best routes, which each entry has beside its change.
-- From: own.
-- Example: a port has made two changes, at 4 and at 7, and two others stand between them.
use Rattle.std.specs.Prelude.{◌≡◌, ◌==◌, ℕ, suc, ◌+◌, ◌<◌, ◌≤◌, Bool, true, false, List, [], ◌∷◌, ◌++◌, map, cond, Contains, ⊤}
use Rattle.attrs.specs.declared.journal.JEntry.{JEntry}
use Rattle.attrs.specs.declared.route.Change.{Change}
use Rattle.import_core.specs.declared.operation.Op.{Op}
use Rattle.jour_rule.specs.declared.views.Entry.{Entry}
use Rattle.rec_words.specs.Entries.{Spells}
use Rattle.core_machine.specs.Rules.{Rules}
use Rattle.table_shared.specs.Opening.{TableOpening, sources_of}
use Rattle.table_shared.specs.Records.{change_of}

-- the words are those of a record of this change, with some best route
abbrev pub Says : List ℕ → Change → Type 0
Says words change = (said : JEntry) × Spells said words × (change_of said ≡ change)

-- the receipts are these changes, at these positions
abbrev pub AreMade : List (ℕ × List ℕ) → List (ℕ × Change) → Type 0
AreMade [] [] = ⊤
AreMade [] (m ∷ made) = ⊥
AreMade (r ∷ receipts) [] = ⊥
AreMade (r ∷ receipts) (m ∷ made) =
    ((m.0 ≡ r.0) × Says r.1 m.1) × AreMade receipts made

abbrev pub changes_in : List (ℕ × Change) → List Change
changes_in made = map (λ m. m.1) made

-- a change, and the number of the port that made it
pub record Entered : Type 0 where
  pub port : ℕ
  pub change : Change

-- the entries of a table's journal, where these are their records
abbrev pub entered : List Entry → List JEntry → List Entered
entered [] said = []
entered (e ∷ es) [] = []
entered (e ∷ es) (s ∷ said) = record { port = e.maker; change = change_of s } ∷ entered es said

-- what a port made of them, where they stand behind the position n
abbrev pub made_by : ℕ → (port : ℕ) → List Entered → List (ℕ × Change)
made_by n port [] = []
made_by n port (e ∷ es) =
    cond (e.port == port) ((suc n, e.change) ∷ made_by (suc n) port es) (made_by (suc n) port es)

-- a port alone has the sources that pass a test, and it has no others
pub record IsAlone (test : ℕ → Bool) (opening : TableOpening) (port : ℕ) : Type 0 where
  pub mine : (num : ℕ) → Contains (sources_of opening port) num → test num ≡ true
  pub alone :
      (other num : ℕ) → Contains (sources_of opening other) num → test num ≡ true
      → other ≡ port

-- no port has a source that passes a test
abbrev pub IsNobodys : (ℕ → Bool) → TableOpening → Type 0
IsNobodys test opening =
    (port num : ℕ) → Contains (sources_of opening port) num → test num ≡ false

-- the changes that a protocol's operations give behind those before the phase
abbrev pub given : Rules → ℕ → (past : List Op) → List Op → List Change
given rules i past [] = []
given rules i past (op ∷ earlier) =
    (rules.gives i (earlier ++ past) op).changes ++ given rules i past earlier

-- ---- positions

-- what was made stands above a position
abbrev pub AreAbove : ℕ → List (ℕ × Change) → Type 0
AreAbove n [] = ⊤
AreAbove n (m ∷ made) = (n < m.0) × AreAbove n made

-- at most at a position
abbrev pub AreWithin : ℕ → List (ℕ × Change) → Type 0
AreWithin n [] = ⊤
AreWithin n (m ∷ made) = (m.0 ≤ n) × AreWithin n made
