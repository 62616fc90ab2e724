use Rattle.std.proofs.Common.{arith}
use Rattle.room_report.proofs.Looping.{item_read, lengths_end, lengths_turn}
use Rattle.room_report.proofs.lengths.member_lengths.Goals as goal

pub loop-member-preserved : goal.loop-member-preserved
loop-member-preserved g c =
    let xs = c.args.members.now in
    let k = c.loop-member.member-index in
    let x = c.member-item.result in
    lengths_turn xs c.loop-member.lengths.items c.add_lengths.new.lengths.items k x (item_read xs k x c.loop-member-test.true c.member-item.is)
    c.loop-member.invariant c.in_ok-add_lengths.ensures

pub returns : goal.returns
returns g c = lengths_end c.args.members.now c.loop-member.lengths.items c.loop-member.member-index c.loop-member-test.false c.loop-member.invariant
