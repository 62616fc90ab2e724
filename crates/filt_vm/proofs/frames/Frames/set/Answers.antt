use Rattle.std.proofs.Common.{refl, reverse, ◌+◌}
use Rattle.filt_meaning.specs.Seen.{val_of}
use Rattle.filt_vm.specs.Seen.{vals_of}
use Rattle.filt_vm.proofs.Lists as lists
use Rattle.filt_vm.proofs.Stacks as stacks
use Rattle.filt_vm.proofs.frames.Frames.set.Goals as goal

pub returns : goal.returns
returns c =
    rw (← c.self.view_is) (stacks.set (vals_of c.self.inside.values) _ c.self.inside.base c.args.place (val_of c.args.value) (reverse c.self.inside.bases.items) (lists.set_at c.self.inside.values.items _ (c.self.inside.base + c.args.place) c.args.value refl))
