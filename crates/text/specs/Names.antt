-- Names by number: a list of names gives each its place, from 0. Names are lists of bytes.
-- Not modelled: which names are allowed, and that they differ.
-- From: own: protocols are numbered in their order in the configuration.
-- Example: of `p1`, `p2` the name 1 is `p2`.
use Rattle.std.specs.Prelude.{ℕ, List, [], slice_index_or}

-- the name with this number, and nothing past the end
abbrev pub name_of : List (List ℕ) → ℕ → List ℕ
name_of names num = slice_index_or names num []
