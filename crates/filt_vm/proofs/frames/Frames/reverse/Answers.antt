use Rattle.std.proofs.Common.{reverse}
use Rattle.filt_vm.proofs.Stacks as stacks
use Rattle.filt_vm.proofs.frames.Frames.reverse.Goals as goal

pub returns : goal.returns
returns c =
    rw (← c.self.view_is) (stacks.turned_back c.self.inside.values c.deref_mut.result.now c.reverse.new.self c.self.inside.base (reverse c.self.inside.bases.items) c.self.invariant c.deref_mut.ensures.value c.self.inside.values.ok.0 c.reverse.ensures.after)
