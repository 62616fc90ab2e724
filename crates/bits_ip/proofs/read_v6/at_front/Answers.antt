use Rattle.std.proofs.Common.{◌∙◌}
use Rattle.bits_ip.proofs.Bits.{moved_to_front}
use Rattle.bits_ip.proofs.read_v6.at_front.Goals as goal

pub returns : goal.returns
returns c = c.unwrap_or.ensures ∙ moved_to_front c.args.bits c.args.count c.from-shift.result c.checked_shl.result c.requires.within c.requires.fits c.from-shift.ensures c.checked_shl.ensures
