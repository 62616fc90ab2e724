use Rattle.std.proofs.Common.{◌≡◌, max, drop}
use Rattle.bits_ip.specs.Text.{longest_run}
use Rattle.bits_ip.proofs.ipv6.longest_run.Given as goal

abbrev pub invariant-loop-start : goal.invariant-loop-start
invariant-loop-start l = max l.longest (longest_run (drop l.start l.groups)) ≡ longest_run l.groups
