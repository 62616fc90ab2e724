-- How a file is read.
use Rattle.std.proofs.Common.{◌≡◌, ℕ, ◌+◌, ◌<◌, ◌≤◌, List, ◌++◌, length, take, drop, Option, Some, None, sym, ◌∙◌, ap, arith, length-take, length-append}
use Rattle.std.proofs.lemmas.List.{take_all}
use Rattle.std.proofs.Math.Seq.{take-add}
use Rattle.std.specs.Prelude.{IfSome}
use Rattle.outside_io.specs.Shelf.{StandsAt}
use Rattle.outside_io.specs.Whole.{limit, IsWhole, IsLong}
use Rattle.outside_io.proofs.Blocks.{IsFront}

-- a block more
pub front_more : (held : Option (List ℕ)) (bytes buf : List ℕ) (count : ℕ) → IsFront held bytes → StandsAt held (length bytes) count buf → count ≤ length buf
    → IsFront held (bytes ++ take count buf)
front_more None bytes buf count front reads fits = tt
front_more (Some file) bytes buf count front reads fits =
    let long : length (bytes ++ take count buf) ≡ length bytes + count = omega (arith, length-append bytes (take count buf), length-take count buf) in
    ap (λ (n : ℕ). take n file) long ∙ take-add (length bytes) count file ∙ ap (λ (l : List ℕ). l ++ take count (drop (length bytes) file)) front ∙ ap (λ (l : List ℕ). bytes ++ l) (sym reads.0)

-- no bytes more
pub whole_at_end : (held : Option (List ℕ)) (bytes buf : List ℕ) (count : ℕ) → IsFront held bytes → count ≡ 0 → StandsAt held (length bytes) count buf → 0 < length buf → length bytes ≤ limit
    → IsWhole held bytes
whole_at_end None bytes buf count front none reads room within = record { told = tt; within = within }
whole_at_end (Some file) bytes buf count front none reads room within =
    let ended : length file ≤ length bytes = reads.1 none room in
    record { told = sym (take_all (length bytes) file ended) ∙ front; within = within }

pub over_limit : (held : Option (List ℕ)) (bytes : List ℕ) → IsFront held bytes → limit < length bytes → IfSome held IsLong
over_limit None bytes front over = tt
over_limit (Some file) bytes front over = omega (arith, ap length front, length-take (length bytes) file, over)
