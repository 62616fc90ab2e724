use Rattle.std.proofs.Common.{◌∙◌, refl, sym}
use Rattle.channel_turns.proofs.Going.{passed_by}
use Rattle.channel_turns.proofs.helping.read_on.Goals as goal

pub returns-else-is_started-clause-goes : goal.returns-else-is_started-clause-goes
returns-else-is_started-clause-goes g c =
    passed_by g.J.Judge.verdict c.args.state.now c.pass_by.new.cursor (sym c.is_started.ensures ∙ c.if-is_started.false) c.pass_by.ensures.same.0 c.pass_by.ensures.same.1 c.pass_by.ensures.prefix

pub returns-else-is_started-clause-flush : goal.returns-else-is_started-clause-flush
returns-else-is_started-clause-flush g c = record { flushing = refl; stays = λ _. (refl, refl) }
