use Rattle.std.proofs.Common.{sym, arith}
use Rattle.std.proofs.lemmas.List.{drop_all}
use Rattle.room_report.proofs.copies.items_behind.Goals as goal

pub returns-else-from-items : goal.returns-else-from-items
returns-else-from-items c = sym (drop_all c.args.from c.args.items.now (omega (arith, c.if-from-items.false)))
