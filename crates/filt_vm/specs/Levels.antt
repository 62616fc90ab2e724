-- For private contracts alone: what waits for what runs.
use Rattle.std.specs.Prelude.{List, [], ◌∷◌}
use Rattle.filt_meaning.specs.Flow.{Frame}
use Rattle.filt_vm.specs.declared.level.Level.{Level}

-- what waits, and the elements that the loops go over, the innermost first
pub record Waiting : Type 0 where
  pub levels : List Level
  pub lists : List Frame

-- the elements of the innermost loop
abbrev pub top_elements : List Frame → Frame
top_elements [] = []
top_elements (list ∷ lists) = list

abbrev pub behind_first : List Frame → List Frame
behind_first [] = []
behind_first (list ∷ lists) = lists
