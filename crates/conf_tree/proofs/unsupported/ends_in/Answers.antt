use Rattle.conf_tree.proofs.LastWord.{last_ends, nothing_ends}
use Rattle.conf_tree.proofs.unsupported.ends_in.Goals as goal

pub returns-in-Some : goal.returns-in-Some
returns-in-Some c = last_ends c.args.words.now c.in-Some._front.now c.in-Some.last.now c.args.symbol c.is_symbol.result c.requires c.in-Some.ensures.cases.0 c.is_symbol.ensures

pub returns-in-None : goal.returns-in-None
returns-in-None c = nothing_ends c.args.words.now c.args.symbol (λ front. Unit {0}) c.in-None.ensures.cases
