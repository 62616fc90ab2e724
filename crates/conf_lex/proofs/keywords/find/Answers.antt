use Rattle.conf_lex.proofs.Spelled.{find_here, find_next, find_none}
use Rattle.conf_lex.proofs.keywords.find.Goals as goal

pub returns-then-is_same : goal.returns-then-is_same
returns-then-is_same g c = find_here c.args.table.now c.loop-entry.entry-index c.entry-item.result c.args.bytes.now c.entry-item.is c.loop-entry-test.true c.if-is_same.ensures c.loop-entry.invariant

pub loop-entry-preserved : goal.loop-entry-preserved
loop-entry-preserved g c = find_next c.args.table.now c.loop-entry.entry-index c.entry-item.result c.args.bytes.now c.entry-item.is c.loop-entry-test.true c.if-is_same.ensures c.loop-entry.invariant

pub returns : goal.returns
returns g c = find_none c.args.table.now c.loop-entry.entry-index c.args.bytes.now c.loop-entry-test.false c.loop-entry.invariant
