-- Lists of communities (`IsClist`): at most 64 pairs, no two the same; that a pair is in a list
-- (`has_pair`).
-- From: RFC 1997; the limit is own.
-- Example: (65000, 2), (65000, 1), then (65000, 2) again: a list of two pairs.
use Rattle.std.specs.Prelude.{◌≤◌, ◌==◌, ◌&&◌, ℕ, Bool, List, length}
use Rattle.std.specs.List.{IsDistinct, list_any}

-- the same community
abbrev pub same_pair : ℕ × ℕ → ℕ × ℕ → Bool
same_pair p q = (p.0 == q.0) && (p.1 == q.1)

-- the community is in the list
abbrev pub has_pair : List (ℕ × ℕ) → ℕ × ℕ → Bool
has_pair pairs pair = list_any (λ p. same_pair p pair) pairs

-- at most 64 pairs, no two the same
pub record IsClist (pairs : List (ℕ × ℕ)) : Type 0 where
  pub short : length pairs ≤ 64
  pub distinct : IsDistinct same_pair pairs
