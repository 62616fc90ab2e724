use Rattle.std.proofs.Common.{sym, ap, ◌∙◌, arith}
use Rattle.core_setup.proofs.Numbered.{beyond_none}
use Rattle.room_report.specs.Inside.{list_in}
use Rattle.room_report.proofs.standing.take_list.Goals as goal

pub returns-else-place-len-clause-list : goal.returns-else-place-len-clause-list
returns-else-place-len-clause-list c =
    c.new-else-place-len.ensures.items ∙ ap list_in (sym (beyond_none c.args.lists.now.items c.args.place (omega (arith, c.if-place-len.false, c.len.ensures, c.args.lists.now.ok.0))))
