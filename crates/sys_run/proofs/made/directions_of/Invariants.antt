use Rattle.std.proofs.Common.{◌≡◌, ◌+◌, ◌≤◌, ℕ, List, length, take}
use Rattle.bits_ip.specs.declared.address.Family.{Family}
use Rattle.sys_run.specs.Made.{directions_in, seen_in}
use Rattle.sys_run.proofs.made.directions_of.Given as goal

abbrev pub invariant-loop-protocol : goal.invariant-loop-protocol
invariant-loop-protocol g l =
    (l.channel ≤ l.protocol-index + l.protocol-index)
    × ((tables : List (List ℕ × Family)) → l.channel ≡ length (seen_in g.J.Judge.verdict tables (take l.protocol-index l.protocols)))
    × ((tables : List (List ℕ × Family)) → l.directions.items ≡ directions_in 0 (seen_in g.J.Judge.verdict tables (take l.protocol-index l.protocols)))
