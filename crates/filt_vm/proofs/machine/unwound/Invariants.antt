use Rattle.std.proofs.Common.{◌≡◌, ◌≤◌, List, length}
use Rattle.attrs.specs.declared.attributes.Attrs.{Attrs}
use Rattle.filt_meaning.specs.Values.{Val}
use Rattle.filt_meaning.specs.Flow.{Stopped, Why}
use Rattle.filt_meaning.specs.Names.{Around}
use Rattle.filt_vm.specs.Machines.{AreThere, left_in, resumed}
use Rattle.filt_vm.proofs.machine.unwound.Given as goal

abbrev pub invariant-loop-level : goal.invariant-loop-level
invariant-loop-level l = record {
  flow : (around : Around) (fs : List (List Val)) (why : Why) (attrs : Attrs) → resumed around l.initial.levels.levels fs l.initial.operands.under l.initial.levels.lists (Stopped why attrs) ≡ resumed around l.levels.levels fs l.operands.under l.levels.lists (Stopped why attrs);
  whole : (fs : List (List Val)) → AreThere l.initial.levels.levels fs l.initial.operands.under l.initial.levels.lists → AreThere l.levels.levels fs l.operands.under l.levels.lists;
  left : left_in l.levels.levels l.levels.lists ≤ left_in l.initial.levels.levels l.initial.levels.lists;
}

abbrev pub decreases-loop-level : goal.decreases-loop-level
decreases-loop-level l = length l.levels.levels
