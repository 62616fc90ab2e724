use Rattle.std.proofs.Common.{arith, ap, length, refl}
use Rattle.std.proofs.lemmas.Option.{slice_get_read}
use Rattle.pipe_rest.specs.Heads.{head_in}
use Rattle.pipe_rest.proofs.Raised.{set_here, set_raises}
use Rattle.pipe_rest.proofs.heads.raise.Goals as goal

pub returns-clause-raised : goal.returns-clause-raised
returns-clause-raised c =
    let heads = c.args.heads.now.items in
    let is = ap head_in (slice_get_read heads (length heads) c.args.table c.index.result.now refl c.requires c.index.ensures) in
    let max = c.max.ensures in
    set_raises heads c.args.table c.max.result c.requires (omega (arith, is, max))

pub returns-clause-seen : goal.returns-clause-seen
returns-clause-seen c =
    let is = set_here c.args.heads.now.items c.args.table c.max.result c.requires in
    let max = c.max.ensures in
    omega (arith, is, max)
