use Rattle.std.proofs.Common.{reverse}
use Rattle.filt_vm.specs.Seen.{vals_of}
use Rattle.filt_vm.proofs.Lists as lists
use Rattle.filt_vm.proofs.Stacks as stacks
use Rattle.filt_vm.proofs.frames.Frames.leave.Goals as goal

pub returns : goal.returns
returns c =
    rw (← c.self.view_is) (stacks.left (vals_of c.self.inside.values) (vals_of c.truncate.new.self) c.self.inside.base c.in-Some.base (reverse c.self.inside.bases.items) (reverse c.pop.new.self.items) (lists.truncated c.self.inside.values.items c.truncate.new.self.items c.self.inside.base c.truncate.ensures.items) (stacks.last_first c.self.inside.bases.items c.pop.new.self.items c.in-Some.base c.in-Some.ensures.items))
