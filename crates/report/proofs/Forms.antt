-- A text in parts, in two groupings.
use Rattle.std.proofs.Common.{◌≡◌, ◌++◌, ℕ, List, append_assoc, refl}

pub whole_parts : (a b c d e f g h i j k : List ℕ) → a ++ b ++ c ++ d ++ e ++ f ++ g ++ h ++ i ++ j ++ k ≡ a ++ b ++ c ++ ((d ++ e ++ f ++ g) ++ (h ++ (i ++ j ++ k)))
whole_parts a b c d e f g h i j k = simp append_assoc

pub quiet_parts : (a b c h i j k : List ℕ) → a ++ b ++ c ++ h ++ i ++ j ++ k ≡ a ++ b ++ c ++ (h ++ (i ++ j ++ k))
quiet_parts a b c h i j k = simp append_assoc
