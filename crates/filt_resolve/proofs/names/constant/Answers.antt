use Rattle.filt_resolve.proofs.Lookups.{constant_found}
use Rattle.filt_resolve.proofs.names.constant.Goals as goal

pub returns : goal.returns
returns c = λ around variables. constant_found c.args.text.now around c.args.scope.now variables c.args.name.now c.bytes.result.now c.get_index_of.result c.bytes.ensures c.get_index_of.ensures.index
