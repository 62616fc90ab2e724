use Rattle.std.proofs.Common.{◌≡◌, ◌<◌, ℕ, All, [], map, take}
use Rattle.core_setup.specs.Protocols.{starts_from}
use Rattle.room_ends.specs.Played.{starts_of}
use Rattle.sys_run.specs.Parts.{protocol_seen}
use Rattle.sys_threads.proofs.statics.statics_of.Given as goal

abbrev pub invariant-loop-number : goal.invariant-loop-number
invariant-loop-number g l =
    (starts_of l.numbers.items ≡ starts_from 0 (map (protocol_seen g.J.Judge.verdict) (take l.number l.protocols)) [])
    × All (λ (number : ℕ). number < l.number) l.numbers.items
