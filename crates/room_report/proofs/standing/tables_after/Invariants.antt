use Rattle.std.proofs.Common.{◌≡◌, ◌≤◌, ◌++◌, ℕ, List, length}
use Rattle.std.specs.Prelude.{slice_get}
use Rattle.core_setup.specs.Pairs.{Pairs}
use Rattle.table_shared.specs.declared.close.Phase.{Phase}
use Rattle.room_report.specs.Inside.{IsTableBehind}
use Rattle.room_report.proofs.standing.tables_after.Given as goal

abbrev pub invariant-loop-phase : goal.invariant-loop-phase
invariant-loop-phase l = record {
  done : List Phase;
  all : done ++ l.phase-iterator.rest.items ≡ l.fn.phases.items;
  place_is : l.place ≡ length done;
  later : (k : ℕ) → length done ≤ k → slice_get l.before.items k ≡ slice_get l.fn.before.items k;
  stands : Pairs (IsTableBehind l.tables l.fn.before.items) 0 done l.stands.items;
}
