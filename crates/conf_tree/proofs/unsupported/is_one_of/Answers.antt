use Rattle.conf_tree.proofs.OneOf.{one_here, one_next, one_none}
use Rattle.conf_tree.proofs.unsupported.is_one_of.Goals as goal

pub returns-then-eq : goal.returns-then-eq
returns-then-eq c = one_here c.args.words.now c.loop-other.other-index _ c.args.word.now c.loop-other-test.true c.if-eq.ensures c.loop-other.invariant

pub loop-other-preserved : goal.loop-other-preserved
loop-other-preserved c = one_next c.args.words.now c.loop-other.other-index _ c.args.word.now c.loop-other-test.true c.if-eq.ensures c.loop-other.invariant

pub returns : goal.returns
returns c = one_none c.args.words.now c.loop-other.other-index c.args.word.now c.loop-other-test.false c.loop-other.invariant
