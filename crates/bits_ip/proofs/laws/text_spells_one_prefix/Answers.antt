use Rattle.bits_ip.proofs.Nets.{net_texts_agree}
use Rattle.bits_ip.proofs.laws.text_spells_one_prefix.Goals as goal

pub returns : goal.returns
returns c = net_texts_agree
