-- The words of entries, and where they stand among the words of a journal. Not modelled: what the
-- words of an entry say (that is for the crate above to tell). From: own.
use Rattle.std.specs.Prelude.{◌≡◌, ℕ, suc, ◌+◌, ◌*◌, ◌%◌, ◌<◌, ◌≤◌, List, length, slice_index, Bool, ◌==◌, ◌&&◌, nat_lt}
use mathlib.Core.Option.{some}
use lib.ListN.{get_elem?}
use Rattle.jour_rule.specs.declared.views.Entry.{Entry}
use Rattle.jour_rule.specs.declared.views.Terms.{Terms}

-- how many words an entry has that begins so: the low 16 bits of its first word
abbrev pub told : List ℕ → ℕ
told ws = slice_index ws 0 % 65536

-- 1 to 256 words, of which the first one says how many they are
pub record IsWhole (ws : List ℕ) : Type 0 where
  pub some_words : 0 < length ws
  pub few : length ws ≤ 256
  pub told : told ws ≡ length ws

-- as many words were read as the first one says
abbrev pub is_whole : List ℕ → Bool
is_whole ws = nat_lt 0 (length ws) && (told ws == length ws)

module _ {O : Type 0} (key : Terms O) where
  -- where the cell of the position p begins, behind the head and the positions of the cursors
  abbrev pub place : ℕ → ℕ
  place p = key.cursors + 1 + p % key.cells * 256

  -- these words stand at the front of the cell of p
  abbrev pub StandsAt : List ℕ → ℕ → List ℕ → Type 0
  StandsAt words p ws =
      (k : ℕ) → k < length ws → slice_index words (place p + k) ≡ slice_index ws k

  -- The last entries and the words of the next one that are staged stand in their cells
  pub record Standing (words : List ℕ) (list : List Entry) (staged : List ℕ) : Type 0 where
    pub wide : length words ≡ key.cursors + 1 + key.cells * 256
    pub whole : (n : ℕ) (e : Entry) → get_elem? list n ≡ some e → IsWhole e.words
    pub few : length staged ≤ 256
    -- The entry at n, whose position is start + n + 1, is one of the last `cells`, and not the
    -- oldest of these while words are staged
    pub stands : (n : ℕ) (e : Entry) → get_elem? list n ≡ some e → length list ≤ n + key.cells
        → (0 < length staged → length list < n + key.cells)
        → StandsAt words (key.start + n + 1) e.words
    pub staging : StandsAt words (key.start + length list + 1) staged
    -- while words are staged each cursor is past the oldest entry
    pub ahead : 0 < length staged → (c : ℕ) → c < key.cursors
        → slice_index words 0 < slice_index words (suc c) + key.cells
