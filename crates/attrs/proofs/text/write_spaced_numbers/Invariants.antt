use Rattle.std.proofs.Common.{◌≡◌, ◌++◌, ◌∷◌, decimal, take}
use Rattle.std.specs.List.{flat_map}
use Rattle.bits_ip.specs.Out.{Kept}
use Rattle.attrs.proofs.text.write_spaced_numbers.Given as goal

abbrev pub invariant-loop-number : goal.invariant-loop-number
invariant-loop-number g l =
    (g.W.TextOut.written l.out ≡ g.W.TextOut.written l.initial.out ++ flat_map (λ number. 32 ∷ decimal number) (take l.number-index l.numbers))
    × Kept g.W.TextOut.follows l.initial.out l.out
