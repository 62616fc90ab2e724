use Rattle.std.proofs.Common.{take}
use Rattle.core_setup.specs.Pairs.{Pairs}
use Rattle.sys_run.specs.Phase.{IsJournalOf}
use Rattle.sys_run.proofs.phase.report_journals.Given as goal

abbrev pub invariant-loop-number : goal.invariant-loop-number
invariant-loop-number l = Pairs (IsJournalOf l.parts l.heads) 0 (take l.number l.tables) l.reports
