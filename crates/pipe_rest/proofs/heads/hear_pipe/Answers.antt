use Rattle.std.proofs.Common.{arith, subst, ◌≤◌}
use Rattle.pipe_rest.specs.Heads.{head_at}
use Rattle.pipe_rest.proofs.Raised.{higher, raises_then}
use Rattle.pipe_rest.proofs.heads.hear_pipe.Goals as goal

pub raise-requires-2 : goal.raise-requires-2
raise-requires-2 g c =
    let inside = c.requires.0 in
    let same = c.raise.ensures.raised.count in
    omega (arith, inside, same)

pub returns-clause-raised : goal.returns-clause-raised
returns-clause-raised g c = raises_then c.args.heads.now.items c.raise.new.heads.items c.raise-2.new.heads.items c.raise.ensures.raised c.raise-2.ensures.raised

pub returns-clause-below : goal.returns-clause-below
returns-clause-below g c =
    let pipe = c.args.pipe.now in
    let heads = c.raise-2.new.heads.items in (
      subst (λ n. n ≤ head_at heads pipe.peer) c.seen.ensures.seen (higher c.raise.new.heads.items heads c.seen.result pipe.peer c.raise-2.ensures.raised c.raise.ensures.seen),
      subst (λ n. n ≤ head_at heads pipe.primary) c.seen-2.ensures.seen c.raise-2.ensures.seen,
    )
