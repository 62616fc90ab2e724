use Rattle.std.proofs.Common.{◌+◌, List, [], map, ap, ◌∙◌, refl, sym, subst, arith}
use Rattle.std.proofs.lemmas.List.{take_all}
use Rattle.phase_answers.specs.declared.lent.Lent.{Lent}
use Rattle.room_open.specs.declared.standing.StandingMember.{StandingMember}
use Rattle.sys_run.specs.Made.{Left, passed_at}
use Rattle.sys_run.specs.Parts.{table_seen}
use Rattle.sys_run.specs.declared.parts.ProtocolParts.{ProtocolParts}
use Rattle.sys_run.proofs.MakingWays.{item_read}
use Rattle.room_first.specs.Inside.{AreFirst, HasFewTables}
use Rattle.room_first.proofs.Turns.{behind_turn, first_turn, item_is, two_most}
use Rattle.room_first.proofs.first.stand_members.Goals as goal

pub loop-protocol-init : goal.loop-protocol-init
loop-protocol-init g c = record {
  number = refl;
  few = omega arith;
  channel = refl;
  are =
      subst (λ (l : List (StandingMember (Lent g.row.J.Denot))). AreFirst g.J.Judge.verdict (map table_seen c.args.tables.now) (passed_at c.args.passed.items) 0 0 [] l)
      (sym c.in_ok-stood.ensures.items) tt;
  left = λ d w. refl;
}

pub stand_member-requires-clause-next : goal.stand_member-requires-clause-next
stand_member-requires-clause-next g c = let i = c.loop-protocol.invariant in omega (arith, i.few, c.requires.few, c.loop-protocol-test.true)

pub stand_member-requires-clause-tables : goal.stand_member-requires-clause-tables
stand_member-requires-clause-tables g c =
    item_is (λ (p : ProtocolParts g.row.J.Denot). HasFewTables p.body) c.args.protocols.now c.loop-protocol.protocol-index c.protocol-item.result c.loop-protocol-test.true c.protocol-item.is c.requires.tables

pub overflow_add-channel : goal.overflow_add-channel
overflow_add-channel g c =
    let most = two_most c.protocol-item.result.body in
    let i = c.loop-protocol.invariant in
    omega (arith, c.requires.few, i.few, c.loop-protocol-test.true, c.channels_of-channel.ensures, most)

pub overflow_add-number : goal.overflow_add-number
overflow_add-number g c = let i = c.loop-protocol.invariant in omega (arith, c.requires.few, i.number, c.loop-protocol-test.true)

pub loop-protocol-preserved : goal.loop-protocol-preserved
loop-protocol-preserved g c =
    let v = g.J.Judge.verdict in
    let xs = c.args.protocols.now in
    let k = c.loop-protocol.protocol-index in
    let x = c.protocol-item.result in
    let i = c.loop-protocol.invariant in
    let n = c.loop-protocol.channel in
    let lists = passed_at c.args.passed.items in
    let most = two_most x.body in
    let at = item_read xs k x c.loop-protocol-test.true c.protocol-item.is in
    record {
      number = ap (λ m. m + 1) i.number;
      few = omega (arith, i.few, c.channels_of-channel.ensures, most);
      channel = ap (λ m. n + m) c.channels_of-channel.ensures ∙ behind_turn xs k n x at i.channel;
      are = first_turn v (map table_seen c.args.tables.now) lists xs k c.loop-protocol.number n x c.loop-protocol.stood.items c.push.new.self.items c.in_ok-member.member at
          c.in_ok-push.ensures.items i.number i.channel i.are (c.in_ok-member.ensures.first lists i.left);
      left = subst (λ m. Left (n + m) c.stand_member.new.passed.items lists) (sym c.channels_of-channel.ensures) (c.in_ok-member.ensures.left lists i.left);
    }

pub returns : goal.returns
returns g c =
    subst (λ (l : List (ProtocolParts g.row.J.Denot)). AreFirst g.J.Judge.verdict (map table_seen c.args.tables.now) (passed_at c.args.passed.items) 0 0 l c.loop-protocol.stood.items)
    (take_all c.loop-protocol.protocol-index c.args.protocols.now c.loop-protocol-test.false) c.loop-protocol.invariant.are
