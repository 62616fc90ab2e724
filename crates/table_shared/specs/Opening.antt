-- What a table begins with: the family of its nets, the rows that stand in it at first, and for
-- each port the sources whose routes it alone may change. Not modelled: how the rows are kept.
-- Form: the project's own.
use Rattle.std.specs.Prelude.{ℕ, List, [], map, slice_index_or}
use Rattle.std.specs.declared.alloc.Global.{Global}
use Rattle.std.specs.declared.vec.Vec.{Vec}
use Rattle.bits_ip.specs.declared.address.Family.{Family}
use Rattle.attrs.specs.declared.route.Row.{Row}

pub record TableOpening : Type 0 where
  pub family : Family
  pub rows : List Row
  pub ports : List (List ℕ)

-- the sources of the port of this number
abbrev pub sources_of : TableOpening → ℕ → List ℕ
sources_of opening port = slice_index_or opening.ports port []

-- lists of numbers, as vectors in memory
abbrev pub lists_of : List (Vec ℕ Global) → List (List ℕ)
lists_of vectors = map (λ vector. vector.items) vectors
