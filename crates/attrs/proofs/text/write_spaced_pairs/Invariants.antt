use Rattle.std.proofs.Common.{◌≡◌, ◌++◌, ◌∷◌, take}
use Rattle.std.specs.List.{flat_map}
use Rattle.bits_ip.specs.Out.{Kept}
use Rattle.attrs.specs.Text.{community_text}
use Rattle.attrs.proofs.text.write_spaced_pairs.Given as goal

abbrev pub invariant-loop-system : goal.invariant-loop-system
invariant-loop-system g l =
    (g.W.TextOut.written l.out ≡ g.W.TextOut.written l.initial.out ++ flat_map (λ pair. 32 ∷ community_text pair) (take l.system-index l.pairs))
    × Kept g.W.TextOut.follows l.initial.out l.out
