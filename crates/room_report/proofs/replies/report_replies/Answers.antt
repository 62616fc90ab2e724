use Rattle.std.proofs.Common.{List, ◌++◌, map, ap, ◌∙◌, arith}
use Rattle.phase_actors.specs.declared.actor.Told.{Told}
use Rattle.room_report.specs.Inside.{reply_of}
use Rattle.room_report.proofs.Looping.{item_read, told_end, told_turn}
use Rattle.room_report.proofs.replies.report_replies.Goals as goal

pub loop-number-preserved : goal.loop-number-preserved
loop-number-preserved c =
    let xs = c.args.told.now in
    let k = c.loop-number.number in
    let x = c.index-told-number.result in
    told_turn c.args.tables.now c.args.actors.now xs c.loop-number.reports c.add_replies.new.reports k x c.actor_name-actor.result.now
    (item_read xs k x (omega arith) c.index-told-number.is) c.actor_name-actor.ensures c.loop-number.invariant
    (c.in_ok-add_replies.ensures
    ∙ ap (λ (l : List Told). c.loop-number.reports ++ map (reply_of c.args.tables.now c.actor_name-actor.result.now) l) c.as_slice.ensures.value)

pub returns : goal.returns
returns c = told_end c.args.tables.now c.args.actors.now c.args.told.now c.loop-number.reports c.loop-number.number (omega arith) c.loop-number.invariant
