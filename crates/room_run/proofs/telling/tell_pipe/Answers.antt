use Rattle.std.proofs.Common.{◌∙◌, sym}
use Rattle.pipe_lock.specs.Locks.{terms_of}
use Rattle.room_run.proofs.Locks.{pipe_kept}
use Rattle.room_run.proofs.telling.tell_pipe.Goals as goal

pub tell_turns-requires : goal.tell_turns-requires
tell_turns-requires g c =
    let is = c.lock-held.ensures.value.piping.turns in
    record { here = (c.requires.0 ∙ sym is, c.requires.1 ∙ sym is) }

pub unlock-requires-clause-value : goal.unlock-requires-clause-value
unlock-requires-clause-value g c =
    pipe_kept (terms_of g.P.Phase.terms c.args.pipe.now.pipe.1) c.lock-held.result.1 c.tell_turns.new.turns c.tell_turns.ensures.turns.0 c.tell_turns.ensures.turns.1 c.lock-held.ensures.value
