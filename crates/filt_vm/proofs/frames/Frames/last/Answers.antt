use Rattle.std.proofs.Common.{◌≡◌, ◌-◌, List, Some, length, reverse, subst, sym}
use Rattle.std.specs.Prelude.{slice_get}
use Rattle.filt_meaning.specs.declared.value.Value.{Value}
use Rattle.filt_vm.proofs.Stacks as stacks
use Rattle.filt_vm.proofs.frames.Frames.last.Goals as goal

pub returns : goal.returns
returns c =
    stacks.last_of c.args.self.now c.self.inside.values.items c.in-Some.value.now c.self.inside.base (reverse c.self.inside.bases.items) c.self.view_is c.requires (subst (λ (values : List Value). slice_get values (length values - 1) ≡ Some c.in-Some.value.now) c.deref.ensures.value (sym c.in-Some.ensures.value))
