use Rattle.std.proofs.Common.{◌≡◌, ◌<◌, ◌≤◌, ℕ, get_or}
use Rattle.conf_names.specs.Regions.{renamed}
use Rattle.conf_names.proofs.joints.rename.Given as goal

-- those before the index are renamed, the others are as they were
abbrev pub invariant-loop-region : goal.invariant-loop-region
invariant-loop-region l =
    ((k : ℕ) → k < l.region-index → get_or l.regions k 0 ≡ renamed l.from l.to (get_or l.initial.regions k 0))
    × ((k : ℕ) → l.region-index ≤ k → get_or l.regions k 0 ≡ get_or l.initial.regions k 0)
