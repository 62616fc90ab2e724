use Rattle.std.proofs.Common.{ap, subst, sym, ◌∙◌}
use Rattle.pipe_lock.specs.Kept.{IsFree}
use Rattle.pipe_lock.specs.Locks.{direction_of}
use Rattle.phase_pipes.specs.Locks.{pipe_seats}
use Rattle.phase_pipes.proofs.locks.lock_pipe.Goals as goal

pub new-requires : goal.new-requires
new-requires g c =
    let terms = g.P.Phase.terms in
    let n = c.args.number in
    let out = direction_of c.args.keys.0 in
    let back = direction_of c.args.keys.1 in
    subst (λ z. IsFree z c.begin-state.result)
    (sym
    (ap (λ z. pipe_seats (terms z) n c.of-2.result.value out back) c.of.ensures
    ∙ ap (λ z. pipe_seats (terms c.args.phase.now) n z out back) c.of-2.ensures))
    (c.begin-state.ensures (pipe_seats (terms c.args.phase.now) n c.args.turns out back) c.requires)
