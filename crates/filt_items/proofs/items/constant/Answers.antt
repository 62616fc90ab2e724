use Rattle.filt_items.proofs.Lookups.{constant_shown}
use Rattle.filt_items.proofs.items.constant.Goals as goal

pub returns : goal.returns
returns c = λ around variables. constant_shown c.args.text.now around c.args.scope.now variables c.args.name.now c.bytes.result.now c.get.result c.bytes.ensures c.get.ensures.value
