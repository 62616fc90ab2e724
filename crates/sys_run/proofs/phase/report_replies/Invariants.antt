use Rattle.std.proofs.Common.{◌≡◌, ◌++◌, length}
use Rattle.sys_run.specs.Phase.{told}
use Rattle.sys_run.proofs.phase.report_replies.Given as goal

abbrev pub invariant-loop-answered : goal.invariant-loop-answered
invariant-loop-answered l =
    (l.number ≡ length l.yielded)
    × (l.reports ≡ told l.tables l.actors l.yielded)
    × (l.yielded ++ l.answered-iterator.rest.items ≡ l.fn.replies.items)
