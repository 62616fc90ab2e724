use Rattle.filt_compile.proofs.InPlace as i
use Rattle.filt_compile.proofs.in_place.test_given.Goals as goal

pub returns-then-are_ways : goal.returns-then-are_ways
returns-then-are_ways c = λ es all. let are = c.are_ways.ensures c.if-are_ways.true in i.asked es c.in_ok-question.question c.args.asked.now c.args.unmet.now c.args.over.now c.args.met.now c.args.turn.now c.args.last.now c.in_ok-question.ensures are.0 are.1 are.2 are.3 are.4 all
