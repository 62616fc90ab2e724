use Rattle.bits_ip.proofs.Nets.{net_texts_spell}
use Rattle.bits_ip.proofs.laws.written_prefix_is_read.Goals as goal

pub returns : goal.returns
returns c = net_texts_spell
