use Rattle.std.proofs.Common.{◌≡◌, map, take}
use Rattle.export_core.specs.Histories.{change_of}
use Rattle.room_report.proofs.copies.copy_changes.Given as goal

abbrev pub invariant-loop-entry : goal.invariant-loop-entry
invariant-loop-entry l = l.changes ≡ map change_of (take l.entry-index l.entries)
