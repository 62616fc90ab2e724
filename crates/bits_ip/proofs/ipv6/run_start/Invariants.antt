use Rattle.std.proofs.Common.{◌≡◌, ◌+◌, drop}
use Rattle.bits_ip.specs.Text.{run_start}
use Rattle.bits_ip.proofs.ipv6.run_start.Given as goal

abbrev pub invariant-loop-start : goal.invariant-loop-start
invariant-loop-start l = l.start + run_start l.run (drop l.start l.groups) ≡ run_start l.run l.groups
