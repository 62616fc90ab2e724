use Rattle.std.proofs.Common.{◌++◌, ◌∷◌, [], ap, map, ◌∙◌}
use Rattle.std.proofs.lemmas.List.{take_all}
use Rattle.room_report.specs.Behind.{numbers_in}
use Rattle.room_report.specs.declared.numbers.ChannelNumbers.{ChannelNumbers}
use Rattle.room_report.proofs.Looping.{item_read, mapped_turn}
use Rattle.room_report.proofs.numbers.note_numbers.Goals as goal

pub loop-member-preserved : goal.loop-member-preserved
loop-member-preserved g c =
    let xs = c.args.members.now in
    let k = c.loop-member.member-index in
    let x = c.member-item.result in
    mapped_turn numbers_in xs c.loop-member.numbers.items c.push.new.self.items k x (item_read xs k x c.loop-member-test.true c.member-item.is)
    (c.in_ok-push.ensures.items ∙ ap (λ (n : ChannelNumbers). c.loop-member.numbers.items ++ n ∷ []) c.member_numbers.ensures) c.loop-member.invariant

pub returns : goal.returns
returns g c = c.loop-member.invariant ∙ ap (map numbers_in) (take_all c.loop-member.member-index c.args.members.now c.loop-member-test.false)
