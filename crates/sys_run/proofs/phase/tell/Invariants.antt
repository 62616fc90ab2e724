use Rattle.std.proofs.Common.{◌≡◌, ◌++◌, map}
use Rattle.sys_run.specs.Phase.{reply_of}
use Rattle.sys_run.proofs.phase.tell.Given as goal

abbrev pub invariant-loop-reply : goal.invariant-loop-reply
invariant-loop-reply l =
    (l.reports ≡ l.fn.reports ++ map (reply_of l.tables l.actor) l.yielded)
    × (l.yielded ++ l.reply-iterator.rest.items ≡ l.fn.answered.items)
