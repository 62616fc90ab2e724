-- The marked keys of a channel, in the order of first marking. A mark (`Marked`) says at which
-- position of the table the key's candidate stands that is to be sent, and whether a refresh is due
-- of it. The route itself isn't kept: it is the key's candidate at that position.
-- From: own.
-- Example: a net of which two changes are taken before a push has one mark, of the later position.
use Rattle.std.specs.Prelude.{◌≡◌, ℕ, Bool, ◌||◌, List, [], ◌∷◌, Option, Some, None, is_some, if◌then◌else◌, ⊤}
use Rattle.export_core.specs.declared.log.Key.{Key}
use Rattle.export_core.specs.Keys.{same_key}

pub record Marked : Type 0 where
  pub key : Key
  pub at : ℕ
  pub due : Bool

-- the mark of a key
abbrev pub find : Key → List Marked → Option Marked
find k [] = None
find k (m ∷ more) = if same_key m.key k then Some m else find k more

-- A key that is marked keeps its place, and stays due where it was; another goes last.
abbrev pub put : Marked → List Marked → List Marked
put m [] = m ∷ []
put m (x ∷ more) =
    if same_key x.key m.key then record m { due = m.due || x.due } ∷ more else x ∷ put m more

-- each of these keys is marked at one position
abbrev pub put_all : List Key → ℕ → Bool → List Marked → List Marked
put_all [] at due marks = marks
put_all (k ∷ keys) at due marks =
    put_all keys at due (put (record { key = k; at = at; due = due }) marks)

-- no key is marked twice
abbrev pub AreOnce : List Marked → Type 0
AreOnce [] = ⊤
AreOnce (m ∷ more) = (find m.key more ≡ None) × AreOnce more

abbrev pub marked_keys : List Marked → List Key
marked_keys [] = []
marked_keys (m ∷ more) = m.key ∷ marked_keys more

-- those of some keys that have no mark
abbrev pub unmarked : List Key → List Marked → List Key
unmarked [] marks = []
unmarked (k ∷ keys) marks =
    if is_some (find k marks) then unmarked keys marks else k ∷ unmarked keys marks
