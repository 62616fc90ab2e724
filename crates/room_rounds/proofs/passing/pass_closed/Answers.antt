use Rattle.std.proofs.Common.{◌∙◌, refl, sym}
use Rattle.room_rounds.proofs.Moving.{leaves_self, passed_by}
use Rattle.room_rounds.proofs.passing.pass_closed.Goals as goal

pub returns-then-not-is_started-clause-goes : goal.returns-then-not-is_started-clause-goes
returns-then-not-is_started-clause-goes g c =
    passed_by g.J.Judge.verdict c.args.state.now c.pass_by.new.cursor (sym c.is_started.ensures ∙ c.if-not-is_started.true) c.pass_by.ensures.same.0 c.pass_by.ensures.same.1 c.pass_by.ensures.prefix

pub returns-then-not-is_started-clause-flush : goal.returns-then-not-is_started-clause-flush
returns-then-not-is_started-clause-flush g c = record { flushing = refl; stays = λ _. (refl, refl) }
