use Rattle.bits_ip.proofs.ipv6.+write_hex.Given as goal

abbrev pub decreases-write_hex : goal.decreases-write_hex
decreases-write_hex g l = l.number
