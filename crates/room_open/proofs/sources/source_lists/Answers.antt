use Rattle.std.proofs.Common.{length, refl, ap, ◌∙◌}
use Rattle.std.proofs.lemmas.List.{take_all}
use Rattle.std.proofs.lemmas.Option.{slice_get_read}
use Rattle.room_open.specs.Sources.{lists_from}
use Rattle.room_open.proofs.Told.{lists_turn}
use Rattle.room_open.proofs.sources.source_lists.Goals as goal

pub loop-number-preserved : goal.loop-number-preserved
loop-number-preserved g c =
    let all = c.args.members.now in
    let k = c.loop-number.number in
    let m = c.index-members-number.result in
    let at = slice_get_read all (length all) k m refl c.loop-number-test.true c.index-members-number.is in
    lists_turn c.args.table all k m c.loop-number.lists.items c.push.new.self.items c.in_ok-list.list at c.in_ok-push.ensures.items c.in_ok-list.ensures c.loop-number.invariant

pub returns : goal.returns
returns g c = c.loop-number.invariant ∙ ap (lists_from c.args.table 0) (take_all c.loop-number.number c.args.members.now c.loop-number-test.false)
