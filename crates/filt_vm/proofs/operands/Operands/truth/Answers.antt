use Rattle.filt_meaning.specs.Seen.{val_of}
use Rattle.filt_vm.proofs.Stacks as stacks
use Rattle.filt_vm.proofs.operands.Operands.truth.Goals as goal

pub last-requires : goal.last-requires
last-requires c = stacks.some_under c.self.inside.frames c.args.self.now c.self.view_is c.requires

pub bool-requires : goal.bool-requires
bool-requires c = stacks.takes_last c.self.inside.frames c.args.self.now (val_of c.last.result.now) c.self.view_is c.last.ensures c.requires

pub returns : goal.returns
returns c = stacks.top_truth c.self.inside.frames c.args.self.now (val_of c.last.result.now) c.bool.result c.self.view_is c.last.ensures c.bool.ensures
