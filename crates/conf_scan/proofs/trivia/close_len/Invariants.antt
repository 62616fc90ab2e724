use Rattle.std.proofs.Common.{◌≡◌, ◌+◌, drop}
use Rattle.std.specs.Option.{option_map}
use Rattle.conf_scan.specs.Fronts.{close_len}
use Rattle.conf_scan.proofs.trivia.close_len.Given as goal

-- No end of a comment begins before this place.
abbrev pub invariant-loop-place : goal.invariant-loop-place
invariant-loop-place l = close_len l.text ≡ option_map (λ n. n + l.place) (close_len (drop l.place l.text))
