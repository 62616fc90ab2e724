use Rattle.std.proofs.Common.{◌≡◌, ◌+◌, ◌≤◌, map, take}
use Rattle.sys_run.specs.Made.{Left, passed_at}
use Rattle.sys_run.specs.Parts.{table_seen}
use Rattle.room_first.specs.Inside.{AreFirst}
use Rattle.room_first.proofs.Turns.{behind}
use Rattle.room_first.proofs.first.stand_members.Given as goal

abbrev pub invariant-loop-protocol : goal.invariant-loop-protocol
invariant-loop-protocol g l = record {
  number : l.number ≡ l.protocol-index;
  few : l.channel ≤ l.protocol-index + l.protocol-index;
  channel : l.channel ≡ behind 0 (take l.protocol-index l.protocols);
  are : AreFirst g.J.Judge.verdict (map table_seen l.tables) (passed_at l.fn.passed.items) 0 0 (take l.protocol-index l.protocols) l.stood.items;
  left : Left l.channel l.passed.items (passed_at l.fn.passed.items);
}
