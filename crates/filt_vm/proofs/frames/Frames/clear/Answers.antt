use Rattle.std.proofs.Common.{reverse}
use Rattle.filt_vm.specs.Seen.{vals_of}
use Rattle.filt_vm.proofs.Lists as lists
use Rattle.filt_vm.proofs.Stacks as stacks
use Rattle.filt_vm.proofs.frames.Frames.clear.Goals as goal

pub returns : goal.returns
returns c =
    rw (← c.self.view_is) (stacks.cleared (vals_of c.self.inside.values) (vals_of c.truncate.new.self) c.self.inside.base (reverse c.self.inside.bases.items) (stacks.below c.self.inside.values.items c.self.inside.base (reverse c.self.inside.bases.items) c.self.invariant) (lists.truncated c.self.inside.values.items c.truncate.new.self.items c.self.inside.base c.truncate.ensures.items))
