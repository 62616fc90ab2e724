-- For private contracts alone: how a text is cut into lines, and a line into words, by the steps of
-- `cut_line` and `next_word`.
use Rattle.std.specs.Prelude.{ℕ, Bool, false, not, ◌==◌, if◌then◌else◌, List, [], ◌∷◌, drop}
use Rattle.std.specs.List.{prefix_len}
use Rattle.text.specs.Lines.{is_blank}

abbrev pub first_passes : (ℕ → Bool) → List ℕ → Bool
first_passes test [] = false
first_passes test (b ∷ bytes) = test b

-- what stands behind the longest front that passes
abbrev pub behind : (ℕ → Bool) → List ℕ → List ℕ
behind test bytes = drop (prefix_len test bytes) bytes

abbrev pub is_line_byte : ℕ → Bool
is_line_byte b = not (b == 10)

abbrev pub is_word_byte : ℕ → Bool
is_word_byte b = not (is_blank b)

-- a line without the return at its end
abbrev pub without_return : List ℕ → List ℕ
without_return [] = []
without_return (b ∷ []) = if b == 13 then [] else b ∷ []
without_return (b ∷ c ∷ bytes) = b ∷ without_return (c ∷ bytes)
