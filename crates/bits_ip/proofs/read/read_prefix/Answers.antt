use Rattle.bits_ip.proofs.read.read_prefix.Goals as goal

pub returns-in-None-clause-bad : goal.returns-in-None-clause-bad
returns-in-None-clause-bad c = rw (← c.front_of_prefix_bytes-run.ensures) c.in-None.ensures
