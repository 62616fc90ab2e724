use Rattle.bits_ip.proofs.Dotted.{no_address}
use Rattle.bits_ip.proofs.read.parse_addr.Goals as goal

pub returns-in_err-number-in-None : goal.returns-in_err-number-in-None
returns-in_err-number-in-None c = rw c.from_residual.ensures (no_address c.args.text.now c.in-None.ensures c.in_err-number-in-None.ensures)
