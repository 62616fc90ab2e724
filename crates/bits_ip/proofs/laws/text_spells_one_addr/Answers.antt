use Rattle.bits_ip.proofs.Nets.{addr_texts_agree}
use Rattle.bits_ip.proofs.laws.text_spells_one_addr.Goals as goal

pub returns : goal.returns
returns c = addr_texts_agree
