use Rattle.std.proofs.Common.{arith, reverse, ◌+◌}
use Rattle.filt_vm.specs.Seen.{vals_of}
use Rattle.filt_vm.proofs.Lists as lists
use Rattle.filt_vm.proofs.Stacks as stacks
use Rattle.filt_vm.proofs.frames.Frames.truncate.Goals as goal

pub returns-then-count-len : goal.returns-then-count-len
returns-then-count-len c =
    rw (← c.self.view_is) (stacks.truncated (vals_of c.self.inside.values) (vals_of c.truncate.new.self) c.self.inside.base c.args.count (reverse c.self.inside.bases.items) (stacks.room c.args.self.now (vals_of c.self.inside.values) c.self.inside.base c.args.count (reverse c.self.inside.bases.items) c.self.view_is (omega (arith, c.if-count-len.true, c.len.ensures))) (lists.truncated c.self.inside.values.items c.truncate.new.self.items (c.self.inside.base + c.args.count) c.truncate.ensures.items))
