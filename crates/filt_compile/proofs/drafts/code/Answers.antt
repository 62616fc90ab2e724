use Rattle.filt_compile.proofs.Compiling as cm
use Rattle.filt_compile.proofs.Spending as sp
use Rattle.filt_compile.proofs.drafts.code.Goals as goal

pub returns : goal.returns
returns c = (cm.whole_code c.args.seen.now c.args.sorts.now c.args.statements.now c.new-out.result.items c.block.new.out.items c.reverse.new.self.items c.new-out.ensures.items c.reverse.ensures.items c.in_ok-block.ensures.0, sp.whole_costs c.args.sorts.now c.args.statements.now c.new-out.result.items c.block.new.out.items c.reverse.new.self.items c.new-out.ensures.items c.reverse.ensures.items c.in_ok-block.ensures.1)
