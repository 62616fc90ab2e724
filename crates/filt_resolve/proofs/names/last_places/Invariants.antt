use Rattle.std.proofs.Common.{◌≡◌, take}
use Rattle.filt_resolve.specs.Seen.{names_of}
use Rattle.filt_resolve.specs.Levels.{AreLast}
use Rattle.filt_resolve.proofs.names.last_places.Given as goal

abbrev pub invariant-loop-name : goal.invariant-loop-name
invariant-loop-name l = (l.place ≡ l.name-index) × AreLast (names_of (take l.name-index l.names)) l.last.entries
