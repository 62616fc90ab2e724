-- Marks (`Listed`): what is marked, in the order of first marking. For private contracts alone are
-- those of two maps, one of which is emptied from the front while the other takes what is new.
-- From: own.
-- Example: a mark keeps its place when its key changes again.
use Rattle.std.specs.Prelude.{if◌then◌else◌, ◌≡◌, ℕ, zero, suc, Bool, true, false, ◌||◌, List, [], ◌∷◌, Option, Some, None, is_some, IsSome, option_map, ⊤, not, ◌++◌, ◌≤◌, drop, length}
use Rattle.std.specs.List.{filter, filter_map}
use Rattle.std.specs.Map.{lookup, keys_of}
use Rattle.std.specs.BTreeMap.{is_at}
use Rattle.export_core.specs.Keys.{key_cmp, same_key}
use Rattle.export_core.specs.declared.log.Key.{Key}
use Rattle.attrs.specs.declared.route.Route.{Route}
use Rattle.export_core.specs.declared.marks.Mark.{Mark}

-- what a list of entries has at a key
abbrev pub at : {X : Type 0} → Key → List (Key × X) → Option X
at k entries = lookup (is_at (key_cmp k)) entries

abbrev pub HasPlace : {X : Type 0} → Key → List (Key × X) → Type 0
HasPlace k entries = IsSome (at k entries)

-- the entries of some keys, by a function that gives their values
abbrev pub entries_by : {X : Type 0} → (Key → Option X) → List Key → List (Key × X)
entries_by f keys = filter_map (λ k. option_map (λ v. (k, v)) (f k)) keys

-- the marked keys with their marks, in the order of first marking
abbrev pub Listed : Type 0
Listed = List (Key × Mark)

-- the mark of a key
abbrev pub find : Key → Listed → Option Mark
find k marks = at k marks

abbrev pub is_due : Option Mark → Bool
is_due None = false
is_due (Some m) = m.due

-- a mark that takes the place of an older one stays due where that was
abbrev pub joined : Option Mark → Mark → Mark
joined old m = record { at = m.at; candidate = m.candidate; due = m.due || is_due old }

-- whether the key stands in the list
abbrev pub holds : Key → List Key → Bool
holds k [] = false
holds k (x ∷ xs) = same_key x k || holds k xs

-- no key stands twice
abbrev pub IsOnce : List Key → Type 0
IsOnce [] = ⊤
IsOnce (x ∷ xs) = (holds x xs ≡ false) × IsOnce xs

-- The marks of two maps: those of the first, from a number on, and then those of the second.
abbrev pub live : ℕ → Listed → Listed → Listed
live from leaving coming = drop from leaving ++ coming

-- no key is marked twice, and none stands twice in the first map
pub record AreMarks (from : ℕ) (leaving coming : Listed) : Type 0 where
  pub within : from ≤ length leaving
  pub apart : IsOnce (keys_of leaving)
  pub once : IsOnce (keys_of (live from leaving coming))

-- the number is that of the first entry of the key
abbrev pub IsFirst : Key → Listed → ℕ → Type 0
IsFirst k [] i = ⊥
IsFirst k (e ∷ es) zero = same_key k e.0 ≡ true
IsFirst k (e ∷ es) (suc i) = (same_key k e.0 ≡ false) × IsFirst k es i

-- A key that is marked from a number on is marked again: it keeps its place and stays due where it
-- was.
pub record Joins (from : ℕ) (k : Key) (m : Mark) (old new : Listed) : Type 0 where
  pub keys : keys_of new ≡ keys_of old
  pub there : IsSome (at k (drop from old))
  pub rest : keys_of (drop from new) ≡ keys_of (drop from old)
  pub marks :
      (q : Key) → at q (drop from new)
      ≡ (if same_key k q then Some (joined (at k (drop from old)) m) else at q (drop from old))

-- A key is marked: it goes behind the others, or keeps its place and stays due where it was.
pub record Puts (k : Key) (m : Mark) (old new : Listed) : Type 0 where
  pub marks :
      (q : Key) → find q new
      ≡ (if same_key k q then Some (joined (find k old) m) else find q old)
  pub order :
      keys_of new ≡ (if is_some (find k old) then keys_of old else keys_of old ++ k ∷ [])

-- a key's mark after it is given a candidate, which is none where there is no route
abbrev pub with_candidate : ℕ → Bool → Option (Option Route) → Option Mark → Option Mark
with_candidate pos due None old = old
with_candidate pos due (Some candidate) old =
    Some (joined old (record { at = pos; candidate = candidate; due = due }))

-- each key among the candidates is marked with its candidate
abbrev pub MarksEach : List (Key × Option Route) → ℕ → Bool → Listed → Listed → Type 0
MarksEach candidates pos due old new =
    (q : Key) → find q new ≡ with_candidate pos due (at q candidates) (find q old)

-- the keys that have no mark
abbrev pub unmarked_of : Listed → List Key → List Key
unmarked_of marks keys = filter (λ k. not (is_some (find k marks))) keys

-- some of the candidates are marked, and what is left to mark gives what marking all gives
pub record IsFilling
    (pos : ℕ) (due : Bool) (candidates : List (Key × Option Route)) (first : Listed)
    (left : List (Key × Option Route)) (marks : Listed) : Type 0 where
  pub given :
      (q : Key) → with_candidate pos due (at q left) (find q marks)
      ≡ with_candidate pos due (at q candidates) (find q first)
  pub added :
      keys_of marks ++ unmarked_of marks (keys_of left)
      ≡ keys_of first ++ unmarked_of first (keys_of candidates)
