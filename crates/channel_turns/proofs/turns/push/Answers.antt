use Rattle.std.proofs.Common.{None, sym, ◌∙◌}
use Rattle.export_lock.proofs.Pushing.{feed_stays, pushed, pushed_rests, running}
use Rattle.channel_turns.proofs.turns.push.Goals as goal

pub returns-in-Ok-Quiet-clause-goes : goal.returns-in-Ok-Quiet-clause-goes
returns-in-Ok-Quiet-clause-goes g c = λ every key o.
    pushed g.J.Judge.verdict key c.args.state.now c.push_one.new.self None None c.push_one.result c.push_one.ensures.pushes c.push_one.ensures.refused c.push_one.ensures.stays c.push_one.ensures.stands o

pub returns-in-Ok-Sent-clause-goes : goal.returns-in-Ok-Sent-clause-goes
returns-in-Ok-Sent-clause-goes g c = λ every key o.
    pushed g.J.Judge.verdict key c.args.state.now c.push_one.new.self None None c.push_one.result c.push_one.ensures.pushes c.push_one.ensures.refused c.push_one.ensures.stays c.push_one.ensures.stands o

pub returns-in-Ok-Nothing-clause-feed : goal.returns-in-Ok-Nothing-clause-feed
returns-in-Ok-Nothing-clause-feed g c = feed_stays g.J.Judge.verdict c.args.state.now.exporter c.push_one.new.self None None c.push_one.result c.push_one.ensures.pushes c.push_one.ensures.refused

pub returns-in-Ok-Nothing-clause-flush : goal.returns-in-Ok-Nothing-clause-flush
returns-in-Ok-Nothing-clause-flush g c =
    pushed_rests c.push_one.result c.args.state.now c.push_one.new.self None None c.push_one.ensures.refused c.push_one.ensures.stays
    (running c.args.state.now.cursor.1 c.args.state.now.exporter.flushing (sym c.is_running.ensures ∙ c.if-not-is_running.false)).1

pub returns-in-Ok-Quiet-clause-feed : goal.returns-in-Ok-Quiet-clause-feed
returns-in-Ok-Quiet-clause-feed g c = feed_stays g.J.Judge.verdict c.args.state.now.exporter c.push_one.new.self None None c.push_one.result c.push_one.ensures.pushes c.push_one.ensures.refused

pub returns-in-Ok-Quiet-clause-flush : goal.returns-in-Ok-Quiet-clause-flush
returns-in-Ok-Quiet-clause-flush g c =
    pushed_rests c.push_one.result c.args.state.now c.push_one.new.self None None c.push_one.ensures.refused c.push_one.ensures.stays
    (running c.args.state.now.cursor.1 c.args.state.now.exporter.flushing (sym c.is_running.ensures ∙ c.if-not-is_running.false)).1

pub returns-in-Ok-Sent-clause-feed : goal.returns-in-Ok-Sent-clause-feed
returns-in-Ok-Sent-clause-feed g c = feed_stays g.J.Judge.verdict c.args.state.now.exporter c.push_one.new.self None None c.push_one.result c.push_one.ensures.pushes c.push_one.ensures.refused

pub returns-in-Ok-Sent-clause-flush : goal.returns-in-Ok-Sent-clause-flush
returns-in-Ok-Sent-clause-flush g c =
    pushed_rests c.push_one.result c.args.state.now c.push_one.new.self None None c.push_one.ensures.refused c.push_one.ensures.stays
    (running c.args.state.now.cursor.1 c.args.state.now.exporter.flushing (sym c.is_running.ensures ∙ c.if-not-is_running.false)).1

pub returns-in-Err-clause-feed : goal.returns-in-Err-clause-feed
returns-in-Err-clause-feed g c = feed_stays g.J.Judge.verdict c.args.state.now.exporter c.push_one.new.self None None c.push_one.result c.push_one.ensures.pushes c.push_one.ensures.refused

pub returns-in-Err-clause-flush : goal.returns-in-Err-clause-flush
returns-in-Err-clause-flush g c =
    pushed_rests c.push_one.result c.args.state.now c.push_one.new.self None None c.push_one.ensures.refused c.push_one.ensures.stays
    (running c.args.state.now.cursor.1 c.args.state.now.exporter.flushing (sym c.is_running.ensures ∙ c.if-not-is_running.false)).1
