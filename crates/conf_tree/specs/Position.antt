-- The line and the column of a byte (`IsPlace`): a place is a number of bytes before it; a line
-- ends at a newline, and a column counts bytes.
-- Not modelled: characters of more than one byte, and the width of a tab.
-- From: own.
-- Example: the end of `filter f {` and a newline is 2:1; behind an `é` a column is two further.
use Rattle.std.specs.Prelude.{◌≡◌, ◌⊎◌, ℕ, ◌+◌, IsTrue, not, ◌==◌, List, [], ◌∷◌, ◌++◌, length}
use Rattle.std.specs.Prelude.{take, filter}
use Rattle.std.specs.List.{list_all}

-- The bytes before a place are lines, each with its newline, and the front of one more. Lines, and
-- the bytes of a line, are counted from 1.
pub record IsPlace (text : List ℕ) (at line column : ℕ) : Type 0 where
  pub lines : List ℕ
  pub front : List ℕ
  pub before : take at text ≡ lines ++ front
  pub ended : (lines ≡ []) ⊎ ((bytes : List ℕ) × (lines ≡ bytes ++ 10 ∷ []))
  pub in_line : IsTrue (list_all (λ b. not (b == 10)) front)
  pub line_is : line ≡ length (filter (λ b. b == 10) lines) + 1
  pub column_is : column ≡ length front + 1
