use Rattle.std.proofs.Common.{◌≡◌, ◌++◌, map, take}
use Rattle.room_report.specs.Inside.{reply_of}
use Rattle.room_report.proofs.replies.add_replies.Given as goal

abbrev pub invariant-loop-reply : goal.invariant-loop-reply
invariant-loop-reply l = l.reports ≡ l.fn.reports ++ map (reply_of l.tables l.actor) (take l.reply-index l.replies)
