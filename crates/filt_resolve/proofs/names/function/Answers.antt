use Rattle.filt_resolve.proofs.Taken.{function_weighed}
use Rattle.filt_resolve.proofs.Lookups.{function_found}
use Rattle.filt_resolve.proofs.names.function.Goals as goal

pub returns-clause-meaning : goal.returns-clause-meaning
returns-clause-meaning c = λ around variables. function_found c.args.text.now around c.args.scope.now variables c.args.name.now c.bytes.result.now c.get_index_of.result c.bytes.ensures c.get_index_of.ensures.index

pub returns-clause-steps : goal.returns-clause-steps
returns-clause-steps c = λ more. function_weighed c.args.text.now c.args.scope.now c.args.name.now c.bytes.result.now c.get_index_of.result more c.bytes.ensures c.get_index_of.ensures.index
