use Rattle.std.proofs.Common.{◌∙◌, arith}
use Rattle.export_lock.specs.Locks.{terms_of}
use Rattle.phase_room.proofs.Dues.{goes_on, marked_keeps, may_any}
use Rattle.phase_room.proofs.turns.mark_channel.Goals as goal

pub give_mark-done-requires-clause-held : goal.give_mark-done-requires-clause-held
give_mark-done-requires-clause-held g c = record { key = c.requires.due.0; made = c.requires.due.1; importing = c.requires.due.4.importing }

pub give_mark-done-requires-clause-here : goal.give_mark-done-requires-clause-here
give_mark-done-requires-clause-here g c = c.requires.due.4.importing.port ∙ c.requires.due.5

pub give_mark-done-requires-clause-may : goal.give_mark-done-requires-clause-may
give_mark-done-requires-clause-may g c =
    let d = c.requires.due in
    may_any g.J.Judge.verdict d.0 (terms_of g.P.Sends.exports c.args.export.now.1) d.1 d.2 d.3 c.args.mark c.args.state.now c.lock-held.result.1 c.args.table.now c.setups_are_as_asked.ensures d.4 c.lock-held.ensures.value d.6
    (let v = c.args.state.now.ops in let a = v.ok.0 in let b = v.ok.1 in let s = v.small in omega (arith, a, b, s)) d.5

pub unlock-requires-clause-value : goal.unlock-requires-clause-value
unlock-requires-clause-value g c =
    let d = c.requires.due in
    goes_on g.J.Judge.verdict d.0 (terms_of g.P.Sends.exports c.args.export.now.1) d.1 d.2 d.3 c.args.mark c.args.state.now c.lock-held.result.1 c.give_mark-done.new.channel d.4 d.6 c.give_mark-done.ensures.channel c.lock-held.ensures.value

pub returns : goal.returns
returns g c = record { kept = marked_keeps g.J.Judge.verdict c.give_mark-done.result c.args.state.now c.give_mark-done.new.self c.args.mark c.give_mark-done.ensures.kept c.give_mark-done.ensures.fault.1 }
