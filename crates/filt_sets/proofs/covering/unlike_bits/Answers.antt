use Rattle.std.proofs.Common.{rules}
use Rattle.filt_sets.proofs.NetOrder.{unlike_least, unlike_same}
use Rattle.filt_sets.proofs.covering.unlike_bits.Goals as goal

pub returns-clause-same : goal.returns-clause-same
returns-clause-same c = unlike_same c.args.a c.args.b (search rules) (search rules)

pub returns-clause-least : goal.returns-clause-least
returns-clause-least c = λ bits same. unlike_least c.args.a c.args.b bits (search rules) (search rules) same
