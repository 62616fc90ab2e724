use Rattle.bits_ip.proofs.Nets.{addr_text_spells}
use Rattle.bits_ip.proofs.laws.written_addr_is_read.Goals as goal

pub returns : goal.returns
returns c = addr_text_spells
