use Rattle.filt_compile.proofs.InPlace as i
use Rattle.filt_compile.proofs.in_place.net_in.Goals as goal

pub returns-then-is_net_match : goal.returns-then-is_net_match
returns-then-is_net_match c = λ es all. let are = c.is_net_match.ensures c.if-is_net_match.true in i.nets es c.args.known c.in_ok-set.set c.args.held.now c.args.compare.now c.args.last.now are.0 are.1 are.2 c.in_ok-set.ensures all
