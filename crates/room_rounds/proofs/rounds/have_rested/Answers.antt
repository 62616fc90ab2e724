use Rattle.std.proofs.Common.{subst}
use Rattle.std.specs.List.{AllByRecursion}
use Rattle.pipe_rest.specs.Heads.{HasRead}
use Rattle.room_rounds.proofs.rounds.have_rested.Goals as goal

pub returns-in-Ok : goal.returns-in-Ok
returns-in-Ok g c = λ yes. (c.in-Ok.heads.items, c.in-Ok.ensures, subst (λ h. AllByRecursion (HasRead h) c.args.members.now) c.deref.ensures.value (c.have_read.ensures.0 yes))
