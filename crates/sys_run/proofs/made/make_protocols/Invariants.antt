use Rattle.std.proofs.Common.{◌≡◌, ◌++◌, length, map}
use Rattle.sys_run.specs.Made.{IsMade, Left, passed_at}
use Rattle.sys_run.specs.Parts.{table_seen}
use Rattle.sys_run.proofs.made.make_protocols.Given as goal

abbrev pub invariant-loop-protocol : goal.invariant-loop-protocol
invariant-loop-protocol g l =
    (l.yielded ++ l.protocol-iterator.rest.items ≡ l.fn.protocols.items)
    × IsMade g.J.Judge.verdict (map table_seen l.tables) (passed_at l.fn.passed.items) l.yielded l.made
    × Left (length l.made.channels.items) l.passed.items (passed_at l.fn.passed.items)
