use Rattle.bits_ip.proofs.ZeroRuns.{text_is_short}
use Rattle.bits_ip.proofs.laws.written_v6_is_short.Goals as goal

pub returns : goal.returns
returns c = text_is_short
