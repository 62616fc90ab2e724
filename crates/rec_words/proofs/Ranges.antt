-- The ranges of numbers that stand in slices.
use Rattle.std.proofs.Common.{ℕ, suc, ◌<◌, ◌^◌, List, [], ◌∷◌, get_or}
use Rattle.std.specs.List.{AllByRecursion}
use Rattle.rec_words.specs.Entries.{IsNumber}

pub are_numbers : (ns : List ℕ) → ((i : ℕ) → get_or ns i 0 < 2 ^ 32) → AllByRecursion IsNumber ns
are_numbers [] small = tt
are_numbers (n ∷ ns) small = (small 0, are_numbers ns (λ i. small (suc i)))
