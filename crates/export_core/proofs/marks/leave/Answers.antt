use Rattle.std.proofs.Common.{arith}
use Rattle.export_core.proofs.TwoMaps.{keys_set, past_set, set_within}
use Rattle.export_core.proofs.marks.leave.Goals as goal

pub returns-then-from-len-clause-rest : goal.returns-then-from-len-clause-rest
returns-then-from-len-clause-rest c = past_set c.args.from c.args.leaving.now.entries _

pub returns-then-from-len-clause-keys : goal.returns-then-from-len-clause-keys
returns-then-from-len-clause-keys c = keys_set c.args.leaving.now.entries c.args.from _

pub returns-then-from-len-clause-within : goal.returns-then-from-len-clause-within
returns-then-from-len-clause-within c =
    let less = c.if-from-len.true in
    let len = c.len.ensures.len in
    set_within c.args.leaving.now.entries c.args.from _ (omega (arith, less, len))
