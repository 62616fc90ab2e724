use Rattle.std.proofs.Common.{◌≡◌, ◌+◌, ◌≤◌, ℕ, List, length, take}
use Rattle.bits_ip.specs.declared.address.Family.{Family}
use Rattle.sys_run.specs.Made.{seen_in}
use Rattle.sys_run.proofs.made.count_all.Given as goal

abbrev pub invariant-loop-protocol : goal.invariant-loop-protocol
invariant-loop-protocol g l =
    (l.count ≤ l.protocol-index + l.protocol-index)
    × ((tables : List (List ℕ × Family)) → l.count ≡ length (seen_in g.J.Judge.verdict tables (take l.protocol-index l.protocols)))
